-- Profile: the moments of a round of a history, each as what was past then.
use Rattle.std.specs.Prelude.{ℕ, ◌==◌, ◌&&◌, not, Bool, true, false, List, [], ◌∷◌, Option, Some, None, if◌then◌else◌}
use Rattle.air_model.specs.Past.{Record, Item, befell, exchanged, operated, ended, tag_behind}
use Rattle.command_grammar.specs.declared.commands.Command.{Command}
use Rattle.command_grammar.specs.declared.commands.Command.TheVariants as commands
use Rattle.q_round.specs.declared.round.RoundEnd.{RoundEnd}
use Rattle.session_flags.specs.declared.flags.Flags.{Flags}
use Rattle.runs.specs.Headline.{begins_slot}
use Rattle.runs.specs.TagInRound.{is_matched}
use Rattle.tag_machine.specs.TagValue.{TagValue}

-- 6.3.2.11.2.1 Query: the command is a Query, which begins a round
abbrev pub is_query : Command → Bool
is_query (commands.Query dr code trext sel session target q) = true
is_query command = false

-- 6.3.2.11.2 Inventory commands: the command begins a slot of a round behind its first one, which a Query begins
abbrev pub begins_later_slot : Command → Bool
begins_later_slot command = begins_slot command && not (is_query command)

-- the record is that of the Query of a round
abbrev pub is_query_of : ℕ → Record → Bool
is_query_of round sent = is_query sent.command && sent.round == round

-- what was past just after the Query of a round
abbrev pub past_after_query : ℕ → List Item → List Item
past_after_query round [] = []
past_after_query round (befell event number ∷ past) = past_after_query round past
past_after_query round (exchanged sent ∷ past) = (if is_query_of round sent then exchanged sent ∷ past else past_after_query round past)
past_after_query round (operated number slot index result ∷ past) = past_after_query round past
past_after_query round (ended number end slots ∷ past) = past_after_query round past

-- how a round ended, behind how many slots, and what was past then
pub record Ending : Type 0 where
  pub end : RoundEnd
  pub slots : ℕ
  pub past : List Item

-- the end of a round, or none where it did not end
abbrev pub ending_of : ℕ → List Item → Option Ending
ending_of round [] = None
ending_of round (befell event number ∷ past) = ending_of round past
ending_of round (exchanged sent ∷ past) = ending_of round past
ending_of round (operated number slot index result ∷ past) = ending_of round past
ending_of round (ended number end slots ∷ past) =
    (if number == round then Some (record { end = end; slots = slots; past = past }) else ending_of round past)

-- a tag of a number just after the Query of a round
abbrev pub tag_after_query : ℕ → List Item → ℕ → TagValue → TagValue
tag_after_query round history number tag = tag_behind number tag (past_after_query round history)

-- the tag is matched by the Query of a round: just after it the tag is in arbitrate or reply
abbrev pub is_matched_in : ℕ → List Item → ℕ → TagValue → Bool
is_matched_in round history number tag = is_matched (tag_after_query round history number tag).state

-- the flags of a tag of a number behind a past, and just after the Query of a round
abbrev pub flags_behind : ℕ → TagValue → List Item → Flags
flags_behind number tag past = (tag_behind number tag past).body.flags

abbrev pub flags_after_query : ℕ → List Item → ℕ → TagValue → Flags
flags_after_query round history number tag = (tag_after_query round history number tag).body.flags
