-- What a tag had to answer to a command, by what it did answer and what it may draw there (6.3.2.11 Interrogator commands and Tag replies).
use Rattle.std.specs.Prelude.{ℕ, ◌==◌, ◌&&◌, Bool, true, not, is_some, Option, Some, None, if◌then◌else◌}
use Rattle.tag_machine.specs.TagValue.{StateValue}
use Rattle.tag_machine.specs.StateNumbers.{numbers_of}
use Rattle.tag_machine.specs.declared.state_numbers.StateNumbers.{StateNumbers}
use Rattle.tag_machine.specs.declared.state_numbers.StateNumbers.TheVariants as numbers
use Rattle.log_judge.specs.Log.{Seen}
use Rattle.log_judge.specs.Verdicts.{Want, Nothing, AnyRn16, AnyHandle, NothingOrAnyRn16}
use Rattle.log_judge.specs.laws.Known.{want_of_answer}
use Rattle.log_judge.specs.declared.draws.Draws.{Draws}
use Rattle.log_judge.specs.declared.draws.Draws.TheVariants as draws
use Rattle.log_judge.specs.Drawing.{has_drawn}

-- What had to be answered, by what a tag of these draws did answer, and by what it is then: an RN16, which may also come later where it need
-- not come now.
abbrev pub rn16_wanted : Bool → Want
rn16_wanted now = (if now then AnyRn16 else NothingOrAnyRn16)

-- what had to be answered to a command at which a tag draws its slot: if it drew one, an RN16, or nothing where Q is above 0; else nothing
abbrev pub want_told : ℕ → Bool → StateNumbers → Want
want_told session answered numbers.None = Nothing
want_told session answered (numbers.Waiting own q slot) = (if not answered && has_drawn session own slot then NothingOrAnyRn16 else Nothing)
want_told session answered (numbers.Replied own q rn) = (if answered then rn16_wanted (q == 0) else Nothing)
want_told session answered (numbers.Held held) = Nothing

-- what had to be answered to a command at which a tag draws its slot, by the answer and the state behind the command
abbrev pub want_of_slot : ℕ → Option Seen → StateValue → Want
want_of_slot session answer state = want_told session (is_some answer) (numbers_of state)

-- an RN16 has to come now, in the tag's turn: it may come later where the tag's slot may be another than 1
abbrev pub comes_now : Option ℕ → Bool
comes_now None = true
comes_now (Some most) = most == 1

-- what had to be answered where the tag's turn may come: an RN16, now or later
abbrev pub want_in_turn : Option ℕ → Want
want_in_turn most = rn16_wanted (comes_now most)

-- what had to be answered to a QueryRep, at which only a tag whose turn came answers
abbrev pub want_of_turn : Option Seen → Option ℕ → Want
want_of_turn None most = Nothing
want_of_turn (Some seen) most = want_in_turn most

-- what had to be answered to a Req_RN: a handle or a cover where the tag did answer, and else nothing
abbrev pub want_of_number : Option Seen → Want
want_of_number None = Nothing
want_of_number (Some seen) = AnyHandle

-- what had to be answered to a command, by what a tag may draw there
abbrev pub want_behind : Draws → Option Seen → StateValue → Option ℕ → Want
want_behind (draws.Slot session) answer state most = want_of_slot session answer state
want_behind (draws.Turn session) answer state most = want_of_turn answer most
want_behind draws.Number answer state most = want_of_number answer
want_behind draws.Nothing answer state most = want_of_answer answer
