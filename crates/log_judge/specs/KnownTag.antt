-- The tag that is moved through a log, and what it stands for.
use Rattle.std.specs.Prelude.{◌≡◌, ℕ, ◌≤◌, true, false, [], Option, Some, None, is_some}
use Rattle.tag_machine.specs.TagValue.{StateValue, ArbitrateState, TagValue}
use Rattle.log_judge.specs.Log.{LogEntry, Seen, Exchange}
use Rattle.log_judge.specs.Explaining.{Manner, ByTables, WithLiberties}
use Rattle.command_grammar.specs.declared.commands.Command.{Command}
use Rattle.command_grammar.specs.Commands.{IsLegalCommand}
use Rattle.tag_machine.specs.StateNumbers.{numbers_of}
use Rattle.log_judge.specs.laws.Kinds.{HasSmallQ, reworded}
use Rattle.log_judge.specs.laws.Known.{Known, Follows, at_slot, want_of}
use Rattle.log_judge.specs.Answers.{want_in}
use Rattle.log_judge.specs.Drawing.{draws_at, fallen, words_given}
use Rattle.log_judge.specs.Optional.{AnswersOptional}
use Rattle.log_judge.specs.declared.shown.Shown.{Shown}
use Rattle.log_judge.specs.declared.shown.Shown.TheVariants as shown

-- The words that a tag draws make no difference, since it is given others before each exchange.
abbrev pub wordless : TagValue → TagValue
wordless tag = record { state = tag.state; body = reworded [] 0 tag.body }

-- what is known, but for the words
abbrev pub known_wordless : Known → Known
known_wordless known = record { tag = wordless known.tag; any = known.any }

-- What a tag stands for: where its slot may be any from 1 up to one, it has slot 1 itself.
abbrev pub known_of : TagValue → Option ℕ → Known
known_of tag None = record { tag = wordless tag; any = false }
known_of tag (Some most) = record { tag = wordless (record { state = at_slot most tag.state; body = tag.body }); any = true }

-- the tag has slot 1 of those that it may have, up to one
pub record IsInFirstSlot (state : StateValue) (most : ℕ) : Type 0 where
  pub session : ℕ
  pub q : ℕ
  pub is : state ≡ ArbitrateState session q 1
  pub least : 1 ≤ most

-- the tag has slot 1 of those that it may have, where its slot may be any
abbrev pub HasFirstSlot : Option ℕ → StateValue → Type 0
HasFirstSlot None state = Unit {0}
HasFirstSlot (Some most) state = IsInFirstSlot state most

-- what may follow on an entry, but for the words
pub record Goes (manner : Manner) (known : Known) (entry : LogEntry) (behind : Known) : Type 0 where
  pub next : Known
  pub follows : Follows manner known entry next
  pub is : behind ≡ known_wordless next

-- what is known may go on with the entry
abbrev pub MayGo : Manner → Known → LogEntry → Type 0
MayGo manner known entry = (next : Known) × Follows manner known entry next

-- by a liberty alone, where the tables want this
pub record IsExcusedHere (known : Known) (heard : Option Command) (seen : Option Seen) (behind : Known) : Type 0 where
  pub unexplained : ¬ MayGo ByTables known (Exchange heard seen)
  pub goes : Goes WithLiberties known (Exchange heard seen) behind

-- What an exchange shows of what is known, and what is known behind it.
abbrev pub Shows : Known → Option Command → Option Seen → Shown → Known → Type 0
Shows known heard seen shown.Explained behind = Goes ByTables known (Exchange heard seen) behind
Shows known heard seen (shown.Excused want) behind = IsExcusedHere known heard seen behind × (want_in want ≡ want_of known heard)
Shows known heard seen (shown.Refused want) behind = (¬ MayGo WithLiberties known (Exchange heard seen)) × (want_in want ≡ want_of known heard)

-- A tag that was given words for an answer is ready to hear a command. Where it has slot 1 and was silent in its turn, it can have had no
-- other slot.
pub record IsReadyFor (command : Command) (seen : Option Seen) (tag : TagValue) (most : Option ℕ) : Type 0 where
  pub words : tag.body.words ≡ words_given (draws_at command) seen
  pub place : tag.body.next_draw ≡ 0
  pub slot : HasFirstSlot most tag.state
  pub lasts : fallen (draws_at command) (is_some seen) (numbers_of tag.state) most ≡ None
  pub legal : IsLegalCommand command
  pub small : HasSmallQ tag.state

-- The tables answer a command that a tag need not have, and the tag was silent.
pub record LacksHere (command : Command) (seen : Option Seen) (tag : TagValue) : Type 0 where
  pub silent : seen ≡ None
  pub answers : AnswersOptional command tag
