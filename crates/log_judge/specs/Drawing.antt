-- What a tag may draw at a command (6.3.2.5 Tag random or pseudo-random number generator), and what is told of it by what the tag answers.
use Rattle.std.specs.Prelude.{ℕ, ◌-◌, ◌^◌, ◌==◌, ◌&&◌, nat_lt, Bool, not, List, [], ◌∷◌, Option, Some, None, if◌then◌else◌}
use Rattle.command_grammar.specs.declared.commands.Command.{Command}
use Rattle.command_grammar.specs.declared.commands.Command.TheVariants as commands
use Rattle.tag_machine.specs.TagValue.{StateValue}
use Rattle.tag_machine.specs.StateNumbers.{numbers_of}
use Rattle.tag_machine.specs.declared.state_numbers.StateNumbers.{StateNumbers}
use Rattle.tag_machine.specs.declared.state_numbers.StateNumbers.TheVariants as numbers
use Rattle.log_judge.specs.Log.{Seen}
use Rattle.log_judge.specs.laws.Logs.{number_seen}
use Rattle.log_judge.specs.declared.draws.Draws.{Draws}
use Rattle.log_judge.specs.declared.draws.Draws.TheVariants as draws

-- 6.3.2.11 Interrogator commands and Tag replies: what a tag may draw at a command
abbrev pub draws_at : Command → Draws
draws_at (commands.QueryRep session) = draws.Turn session
draws_at (commands.Query dr line_code trext sel session target q) = draws.Slot session
draws_at (commands.QueryAdjust session updn) = draws.Slot session
draws_at (commands.ReqRn rn) = draws.Number
draws_at other = draws.Nothing

-- A tag that answers drew slot 0. One that doesn't is given slot 1, whatever slot it drew.
abbrev pub first_slot : Option Seen → ℕ
first_slot None = 1
first_slot (Some seen) = 0

-- the word that a tag is given to draw first: its slot, or the number in its answer
abbrev pub first_word_given : Draws → Option Seen → ℕ
first_word_given (draws.Slot session) seen = first_slot seen
first_word_given (draws.Turn session) seen = number_seen seen
first_word_given draws.Number seen = number_seen seen
first_word_given draws.Nothing seen = number_seen seen

-- the words that a tag is given to draw, by what it was seen to answer
abbrev pub words_given : Draws → Option Seen → List ℕ
words_given drawn seen = first_word_given drawn seen ∷ number_seen seen ∷ []

-- A tag in arbitrate drew its slot at a command of this session, where it is in a round of that session. One that went back has slot 0.
abbrev pub has_drawn : (session own slot : ℕ) → Bool
has_drawn session own slot = (own == session) && not (slot == 0)

-- The largest slot that a tag may have in a round of this session and Q, behind what it may have drawn, where it was silent; of one that
-- drew none it is what it was.
abbrev pub most_behind : Draws → (own q slot : ℕ) → Option ℕ → Option ℕ
most_behind (draws.Slot session) own q slot most = (if has_drawn session own slot then Some (2 ^ q - 1) else most)
most_behind (draws.Turn session) own q slot most = most
most_behind draws.Number own q slot most = most
most_behind draws.Nothing own q slot most = most

-- the largest slot that a silent tag may have, from the numbers that its state holds
abbrev pub slots_told : Draws → StateNumbers → Option ℕ → Option ℕ
slots_told drawn numbers.None most = None
slots_told drawn (numbers.Waiting session q slot) most = most_behind drawn session q slot most
slots_told drawn (numbers.Replied session q rn) most = None
slots_told drawn (numbers.Held held) most = None

-- the largest slot that a silent tag may have, from its state
abbrev pub slots_behind : Draws → StateValue → Option ℕ → Option ℕ
slots_behind drawn state most = slots_told drawn (numbers_of state) most

-- The largest slot that a tag may have behind a QueryRep of its round at which it was silent, where it may have another than 1, which would
-- have answered; none where the slot counter doesn't fall so.
abbrev pub falls_in_turn : ℕ → Bool → StateNumbers → ℕ → Option ℕ
falls_in_turn session answered numbers.None most = None
falls_in_turn session answered (numbers.Waiting own q slot) most = (if own == session && not answered && nat_lt 1 most then Some (most - 1) else None)
falls_in_turn session answered (numbers.Replied own q rn) most = None
falls_in_turn session answered (numbers.Held held) most = None

-- the largest slot that a silent tag may have behind a command at which slots fall, by what it may draw there
abbrev pub fallen : Draws → Bool → StateNumbers → Option ℕ → Option ℕ
fallen (draws.Slot session) answered held_numbers most = None
fallen (draws.Turn session) answered held_numbers None = None
fallen (draws.Turn session) answered held_numbers (Some most) = falls_in_turn session answered held_numbers most
fallen draws.Number answered held_numbers most = None
fallen draws.Nothing answered held_numbers most = None
