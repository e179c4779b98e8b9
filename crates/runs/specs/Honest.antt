-- Profile: an honest round, in which each tag hears each command and nothing else befalls it; and a round in which no two tags
-- answer alike.
use Rattle.std.specs.Prelude.{◌≡◌, ℕ, true, List, [], Contains}
use Rattle.access_ops.specs.declared.OpList.{OpList}
use Rattle.tag_machine.specs.TagsInExchange.{Replied}
use Rattle.air_model.specs.Past.{Record, Item}
use Rattle.air_events.specs.Entries.{no_entry}
use Rattle.runs.specs.Headline.{IsRecordOf, begins_slot}

-- A round of a history is honest where it has no operations and nothing is said of any of its exchanges: no event befalls a tag in
-- it, no tag misses a command of it, and the channel goes by its default.
pub record IsHonest (history : List Item) (round : ℕ) (operations : OpList) : Type 0 where
  pub no_operations : operations.ops ≡ []
  pub unsaid : (sent : Record) (earlier : List Item) → IsRecordOf history sent earlier → sent.round ≡ round → sent.entry ≡ no_entry

-- no two tags sent the same reply
abbrev pub AreApart : List Replied → Type 0
AreApart replies =
    (first second : Replied) → Contains replies first → Contains replies second → first.sent.reply ≡ second.sent.reply → first.number ≡ second.number

-- The tags that answer one slot command of a round drew different RN16s. Where the channel gives one of several replies whole, two
-- tags with one RN16 would both answer its ACK.
pub record IsApart (history : List Item) (round : ℕ) : Type 0 where
  pub apart : (sent : Record) (earlier : List Item) → IsRecordOf history sent earlier → sent.round ≡ round → begins_slot sent.command ≡ true
      → AreApart sent.replies
