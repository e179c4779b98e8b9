use Rattle.std.proofs.Common.{◌≡◌, ℕ, ◌∙◌, List, length, Option, Some, ap, rules, subst, sym}
use Rattle.tag_machine.specs.Hearing.{tag_value_of}
use Rattle.tag_machine.specs.TagValue.{TagValue}
use Rattle.log_judge.specs.Log.{Seen, Exchange}
use Rattle.log_judge.specs.Explaining.{ByTables}
use Rattle.log_judge.specs.laws.Known.{want_of}
use Rattle.log_judge.specs.declared.draws.Draws.{Draws}
use Rattle.log_judge.specs.Answers.{seen_in, want_in}
use Rattle.log_judge.specs.Drawing.{draws_at, slots_behind}
use Rattle.log_judge.specs.Wanted.{want_behind}
use Rattle.log_judge.specs.KnownTag.{Goes, HasFirstSlot, known_of}
use Rattle.log_judge.proofs.ShownBy.{IsHeard, excused, explained_none, explained_some, first_none, refused, wanted_is}
use Rattle.log_judge.proofs.known_tag.shown_by.Given.{Over}
use Rattle.log_judge.proofs.known_tag.shown_by.Goals.{After-hear-tag, After-want_behind-want}
use Rattle.log_judge.proofs.known_tag.shown_by.Goals as goal

-- the tag heard the command
heard : (g : Over) (c : After-hear-tag g)
    → IsHeard c.args.command.now (tag_value_of c.args.tag) c.args.most (seen_in c.args.seen.now) (tag_value_of c.hear-tag.result) (seen_in c.hear-tag.new.self.answer)
heard g c = record { ready = c.requires.ready; becomes = c.hear-tag.ensures.tag; answers = c.hear-tag.ensures.answer }

two_words : (g : Over) (c : After-hear-tag g) → length (tag_value_of c.hear-tag.result).body.words ≡ 2
two_words g c =
    let tag = tag_value_of c.args.tag in
    ap (λ (l : List ℕ). length l)
    (ap (λ (t : TagValue). t.body.words) c.hear-tag.ensures.tag ∙ c.draw_laws.ensures.words c.args.command.now tag.state tag.body ∙ c.requires.ready.words)

-- what it had to answer
wants : (g : Over) (c : After-want_behind-want g)
    → IsHeard c.args.command.now (tag_value_of c.args.tag) c.args.most (seen_in c.args.seen.now) (tag_value_of c.hear-tag.result) (seen_in c.hear-tag.new.self.answer)
    → want_in c.want_behind-want.result ≡ want_of (known_of (tag_value_of c.args.tag) c.args.most) (Some c.args.command.now)
wants g c it =
    let state = (tag_value_of c.hear-tag.result).state in
    c.want_behind-want.ensures ∙ ap (λ (d : Draws). want_behind d (seen_in c.take_answer.result) state c.args.most) c.draws_at-draws.ensures
    ∙ ap (λ (a : Option Seen). want_behind (draws_at c.args.command.now) a state c.args.most) c.take_answer.ensures ∙ wanted_is it

pub invariant_of-result : goal.invariant_of-result
invariant_of-result g c = (two_words g (goal.at.invariant_of-result g c).After-hear-tag, tt)

pub returns-then-is_some : goal.returns-then-is_some
returns-then-is_some g c = explained_some (heard g (goal.at.returns-then-is_some g c).After-hear-tag) (sym c.is_some.ensures ∙ c.if-is_some.true) (search rules)

pub invariant_of-result-then-is_same : goal.invariant_of-result-then-is_same
invariant_of-result-then-is_same g c =
    let at = (goal.at.invariant_of-result-then-is_same g c).After-hear-tag in
    let behind = tag_value_of c.hear-tag.result in
    let slots = c.slots_behind-most.ensures ∙ ap (λ (d : Draws). slots_behind d behind.state c.args.most) c.draws_at-draws.ensures in (
      two_words g at,
      subst (λ (m : Option ℕ). HasFirstSlot m behind.state) (sym slots) (first_none (heard g at) (sym c.is_some.ensures ∙ c.if-is_some.false) (search rules)),
    )

pub returns-then-is_same : goal.returns-then-is_same
returns-then-is_same g c =
    let behind = tag_value_of c.hear-tag.result in
    let slots = c.slots_behind-most.ensures ∙ ap (λ (d : Draws). slots_behind d behind.state c.args.most) c.draws_at-draws.ensures in
    subst (λ (m : Option ℕ). Goes ByTables (known_of (tag_value_of c.args.tag) c.args.most) (Exchange (Some c.args.command.now) (seen_in c.args.seen.now)) (known_of behind m)) (sym slots)
    (explained_none (heard g (goal.at.returns-then-is_same g c).After-hear-tag) (sym c.is_some.ensures ∙ c.if-is_some.false) (search rules))

pub invariant_of-result-then-excused : goal.invariant_of-result-then-excused
invariant_of-result-then-excused g c = (two_words g (goal.at.invariant_of-result-then-excused g c).After-hear-tag, tt)

pub returns-then-excused : goal.returns-then-excused
returns-then-excused g c =
    let at = goal.at.returns-then-excused g c in
    let it = heard g at.After-hear-tag in
    (excused it (search rules) (search rules), wants g at.After-want_behind-want it)

pub invariant_of-result-2 : goal.invariant_of-result-2
invariant_of-result-2 g c = (two_words g (goal.at.invariant_of-result-2 g c).After-hear-tag, tt)

pub returns : goal.returns
returns g c =
    let at = goal.at.returns g c in
    let it = heard g at.After-hear-tag in
    (refused it (search rules) (search rules) c.requires.optional, wants g at.After-want_behind-want it)
