-- A log of one tag: what it was sent and what it was seen to answer, and what befell it, one after another. That each of these is a
-- line, and each answer too, is profile.
use Rattle.std.specs.Prelude.{ℕ, ◌+◌, ◌<◌, ◌≤◌, ◌^◌, Bool, List, [], ◌∷◌, length, All, Option}
use Rattle.air_events.specs.declared.Event.{Event}
use Rattle.command_grammar.specs.declared.commands.Command.{Command}
use Rattle.lock_rules.specs.declared.locks.Locks.{Locks}
use Rattle.reply_grammar.specs.declared.expected.Reply.{Reply}
use Rattle.tag_machine.specs.Events.{tag_of_image}
use Rattle.tag_machine.specs.TagValue.{TagValue}
use Rattle.tag_memory.specs.declared.image.BankImage.{BankImage}

-- What a tag was seen to send: a reply, with the Query's TRext or with the extended preamble. The handle that stands behind words, a
-- header and an error isn't told.
pub record Seen : Type 0 where
  pub reply : Reply
  pub extended : Bool

-- what an entry of a log says
pub data LogEntry : Type 0 where
  -- the tag heard a command, or bits that spell none, and was seen to send this, or nothing
  Exchange : (heard : Option Command) (seen : Option Seen) → LogEntry
  -- this event befell the tag
  Befalls : (event : Event) → LogEntry

-- how many lines an entry takes: an answer has one of its own
abbrev pub line_count : LogEntry → ℕ
line_count (Exchange heard seen) = 2
line_count (Befalls event) = 1

-- how many lines the entries of a log take
abbrev pub lines_in : List LogEntry → ℕ
lines_in [] = 0
lines_in (entry ∷ log) = line_count entry + lines_in log

-- the number of the last line of a log, which stands behind two lines more
abbrev pub last_line : List LogEntry → ℕ
last_line log = 2 + lines_in log

-- what is known of the tag that a log is of: its memory and its locks
pub record LoggedTag : Type 0 where
  pub image : BankImage
  pub locks : Locks

-- The words that a tag draws are any list of one or more words of 16 bits (6.3.2.5 Tag random or pseudo-random number generator).
pub record AreDrawn (words : List ℕ) : Type 0 where
  pub some : 1 ≤ length words
  pub small : All (λ word. word < 2 ^ 16) words

-- the tag with these words, as it is before the log: ready, with new flags and no draw made
abbrev pub tag_with : LoggedTag → List ℕ → TagValue
tag_with tag words = tag_of_image tag.image tag.locks words
