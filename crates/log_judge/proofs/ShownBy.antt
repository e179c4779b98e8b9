-- What an exchange shows of a tag that was ready for it.
use Rattle.std.proofs.Common.{◌≡◌, ◌≢◌, ℕ, true, false, is_some, Option, Some, None, sym, ◌∙◌, ap, subst}
use Rattle.command_grammar.specs.declared.commands.Command.{Command}
use Rattle.tag_machine.specs.Answers.{Outcome}
use Rattle.tag_machine.specs.Step.{step}
use Rattle.tag_machine.specs.TagValue.{BodyValue, TagValue}
use Rattle.log_judge.specs.Log.{Seen, Exchange}
use Rattle.log_judge.specs.Explaining.{IsOtherError, ByTables, WithLiberties, seen_of}
use Rattle.log_judge.specs.laws.Kinds.{reworded}
use Rattle.log_judge.specs.laws.Known.{want_of}
use Rattle.log_judge.specs.Drawing.{draws_at, slots_behind, words_given}
use Rattle.log_judge.specs.Wanted.{want_behind}
use Rattle.log_judge.specs.KnownTag.{Goes, HasFirstSlot, IsExcusedHere, IsReadyFor, LacksHere, MayGo, known_of}
use Rattle.log_judge.proofs.Moving.{Moves, heard_by, moves}
use Rattle.log_judge.proofs.Tests.{nothing_seen, something_seen}
use Rattle.log_judge.proofs.Showing.{excused_error, explained_answer, explained_silence, given_body, unexcused, want_is}

-- a tag that was ready for a command became this, and answered this
pub record IsHeard (command : Command) (tag : TagValue) (most : Option ℕ) (seen : Option Seen) (behind : TagValue) (answer : Option Seen) : Type 0 where
  pub ready : IsReadyFor command seen tag most
  pub becomes : behind ≡ (step command tag.state tag.body).tag
  pub answers : answer ≡ seen_of (step command tag.state tag.body).answer

module _ {command : Command} {tag : TagValue} {most : Option ℕ} {seen : Option Seen} {behind : TagValue} {answer : Option Seen} (it : IsHeard command tag most seen behind answer) where
  given : tag.body ≡ reworded (words_given (draws_at command) seen) 0 tag.body
  given = given_body (words_given (draws_at command) seen) tag.body it.ready.words it.ready.place

  it_moves : Moves command tag most seen
  it_moves = moves command tag most seen it.ready.legal it.ready.small it.ready.slot it.ready.lasts

  mine_is : step command tag.state tag.body ≡ heard_by command tag seen
  mine_is = ap (λ (b : BodyValue). step command tag.state b) given

  behind_is : behind ≡ (heard_by command tag seen).tag
  behind_is = it.becomes ∙ ap (λ (o : Outcome). o.tag) mine_is

  told : answer ≡ seen_of (heard_by command tag seen).answer
  told = it.answers ∙ ap (λ (o : Outcome). seen_of o.answer) mine_is

  pub explained_some : is_some seen ≡ true → answer ≡ seen → Goes ByTables (known_of tag most) (Exchange (Some command) seen) (known_of behind None)
  explained_some some same =
      let said = something_seen seen some in
      subst (λ (t : TagValue). Goes ByTables (known_of tag most) (Exchange (Some command) seen) (known_of t None)) (sym behind_is)
      (explained_answer command tag most seen it_moves said.0 said.1 (sym told ∙ same))

  pub explained_none : is_some seen ≡ false → answer ≡ seen → Goes ByTables (known_of tag most) (Exchange (Some command) seen) (known_of behind (slots_behind (draws_at command) behind.state most))
  explained_none none same =
      subst (λ (t : TagValue). Goes ByTables (known_of tag most) (Exchange (Some command) seen) (known_of t (slots_behind (draws_at command) t.state most))) (sym behind_is)
      (explained_silence command tag most seen it_moves (nothing_seen seen none) (sym told ∙ same))

  pub first_none : is_some seen ≡ false → answer ≡ seen → HasFirstSlot (slots_behind (draws_at command) behind.state most) behind.state
  first_none none same =
      subst (λ (t : TagValue). HasFirstSlot (slots_behind (draws_at command) t.state most) t.state) (sym behind_is)
      (it_moves.first (nothing_seen seen none) (sym told ∙ same ∙ nothing_seen seen none))

  pub excused : answer ≢ seen → IsOtherError answer seen → IsExcusedHere (known_of tag most) (Some command) seen (known_of behind None)
  excused other error =
      subst (λ (t : TagValue). IsExcusedHere (known_of tag most) (Some command) seen (known_of t None)) (sym behind_is)
      (excused_error command tag most seen it_moves (λ same. other (told ∙ same)) (subst (λ (a : Option Seen). IsOtherError a seen) told error))

  pub refused : answer ≢ seen → ¬ IsOtherError answer seen → ¬ LacksHere command seen tag → ¬ MayGo WithLiberties (known_of tag most) (Exchange (Some command) seen)
  refused other no_error lacks_not =
      unexcused command tag most seen it_moves (λ same. other (told ∙ same)) (λ error. no_error (subst (λ (a : Option Seen). IsOtherError a seen) (sym told) error))
      (subst (λ (b : BodyValue). ¬ LacksHere command seen (record { state = tag.state; body = b })) given lacks_not)

  pub wanted_is : want_behind (draws_at command) answer behind.state most ≡ want_of (known_of tag most) (Some command)
  wanted_is =
      ap (λ (a : Option Seen). want_behind (draws_at command) a behind.state most) told
      ∙ ap (λ (t : TagValue). want_behind (draws_at command) (seen_of (heard_by command tag seen).answer) t.state most) behind_is
      ∙ want_is command tag most seen it_moves
