use Rattle.std.proofs.Common.{◌≡◌, ℕ, ◌∷◌, List, [], length, true, false, is_some, Option, Some, None, sym, ◌∙◌, ap, rules, subst}
use Rattle.tag_machine.specs.Hearing.{tag_value_of}
use Rattle.tag_machine.specs.StateNumbers.{numbers_of}
use Rattle.tag_machine.specs.TagValue.{StateValue, TagValue}
use Rattle.log_judge.specs.Log.{Exchange, Seen}
use Rattle.log_judge.specs.Explaining.{ByTables}
use Rattle.log_judge.specs.laws.Kinds.{reworded}
use Rattle.log_judge.specs.laws.Known.{Known, want_of, want_of_answer}
use Rattle.log_judge.specs.declared.draws.Draws.{Draws}
use Rattle.log_judge.specs.Answers.{seen_in}
use Rattle.log_judge.specs.Drawing.{draws_at, fallen, first_word_given, words_given}
use Rattle.log_judge.specs.Optional.{answers_now}
use Rattle.log_judge.specs.KnownTag.{Goes, HasFirstSlot, IsExcusedHere, known_of}
use Rattle.log_judge.proofs.Asked.{lacks, lacks_want}
use Rattle.log_judge.proofs.Moving.{falls}
use Rattle.log_judge.proofs.Tests.{nothing_seen}
use Rattle.log_judge.proofs.known_tag.KnownTag.hear.Goals as goal

pub returns-in-Some : goal.returns-in-Some
returns-in-Some g c =
    let command = c.args.command.now in
    let tag = tag_value_of c.self.inside.tag in
    let most = c.self.inside.most in
    let seen = seen_in c.args.seen.now in
    let to = sym (c.fallen.ensures ∙ ap (λ (d : Draws). fallen d (is_some seen) (numbers_of tag.state) most) c.draws_at.ensures) ∙ c.in-Some.is in
    subst (λ (k : Known). Goes ByTables k (Exchange (Some command) seen) (known_of tag (Some c.in-Some.most))) c.self.view_is
    (falls command tag most seen c.in-Some.most c.self.invariant.1 to).goes

pub invariant_of-result-then-answers_optional : goal.invariant_of-result-then-answers_optional
invariant_of-result-then-answers_optional g c =
    let given = c.ask-tag.ensures.tag ∙ c.give_words.ensures in
    (ap (λ (t : TagValue). length t.body.words) given, subst (λ (s : StateValue). HasFirstSlot c.self.inside.most s) (sym (ap (λ (t : TagValue). t.state) given)) c.self.invariant.1)

pub returns-then-answers_optional : goal.returns-then-answers_optional
returns-then-answers_optional g c =
    let command = c.args.command.now in
    let tag = tag_value_of c.self.inside.tag in
    let most = c.self.inside.most in
    let seen = seen_in c.args.seen.now in
    let given = tag_value_of c.give_words.new.self in
    let lasts : fallen (draws_at command) (is_some seen) (numbers_of tag.state) most ≡ None
    = sym (c.fallen.ensures ∙ ap (λ (d : Draws). fallen d (is_some seen) (numbers_of tag.state) most) c.draws_at.ensures) ∙ c.in_default.is in
    let words : c.first_word_given-first.result ∷ c.number-number.result ∷ [] ≡ words_given (draws_at command) seen
    = ap (λ (n : ℕ). n ∷ c.number-number.result ∷ []) (c.first_word_given-first.ensures ∙ ap (λ (d : Draws). first_word_given d seen) c.draws_at-2.ensures)
    ∙ ap (λ (n : ℕ). first_word_given (draws_at command) seen ∷ n ∷ []) c.number-number.ensures.value in
    let given_is = c.give_words.ensures ∙ ap (λ (l : List ℕ). let t : TagValue = record { state = tag.state; body = reworded l 0 tag.body } in t) words in
    let silent_then : is_some seen ≡ false = search rules in
    let answers : answers_now command given ≡ true = sym c.answers_optional.ensures ∙ c.if-answers_optional.true in
    let excused : IsExcusedHere (known_of tag most) (Some command) seen (known_of (tag_value_of c.ask-tag.result) most)
    = subst (λ (t : TagValue). IsExcusedHere (known_of tag most) (Some command) seen (known_of t most)) (sym c.ask-tag.ensures.tag)
    (lacks command tag most seen c.requires c.state.ensures.legal.state c.self.invariant.1 lasts given given_is (nothing_seen seen silent_then) answers) in
    let want : want_of_answer (seen_in c.take_answer.result) ≡ want_of (known_of tag most) (Some command)
    = ap (λ (s : Option Seen). want_of_answer s) (c.take_answer.ensures ∙ c.ask-tag.ensures.answer)
    ∙ lacks_want command tag most seen c.requires c.state.ensures.legal.state c.self.invariant.1 lasts given given_is answers in (
      subst (λ (k : Known). IsExcusedHere k (Some command) seen (known_of (tag_value_of c.ask-tag.result) most)) c.self.view_is excused,
      subst (λ (k : Known). want_of_answer (seen_in c.take_answer.result) ≡ want_of k (Some command)) c.self.view_is want,
    )
