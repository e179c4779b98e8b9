use Rattle.std.proofs.Common.{ℕ, ◌∙◌, List, length, Option, ap, subst, sym}
use Rattle.tag_machine.specs.Hearing.{tag_value_of}
use Rattle.tag_machine.specs.TagValue.{TagValue}
use Rattle.log_judge.specs.Explaining.{ByTables}
use Rattle.log_judge.specs.Log.{Befalls}
use Rattle.log_judge.specs.laws.Known.{Known}
use Rattle.log_judge.specs.declared.draws.Draws.TheVariants as draws
use Rattle.log_judge.specs.Drawing.{slots_behind}
use Rattle.log_judge.specs.KnownTag.{Goes, HasFirstSlot, known_of}
use Rattle.log_judge.proofs.Showing.{befallen, befallen_to, event_keeps_words}
use Rattle.log_judge.proofs.known_tag.KnownTag.befall.Goals as goal

pub returns : goal.returns
returns c =
    let tag = tag_value_of c.self.inside.tag in
    let most = c.self.inside.most in
    let it = befallen c.args.event tag most c.self.invariant.1 in
    let slots = c.slots_behind-most.ensures ∙ ap (λ (t : TagValue). slots_behind draws.Nothing t.state most) c.event-tag.ensures.step in
    subst (λ (k : Known). Goes ByTables k (Befalls c.args.event) (known_of (tag_value_of c.event-tag.result) c.slots_behind-most.result)) c.self.view_is
    (subst (λ (m : Option ℕ). Goes ByTables (known_of tag most) (Befalls c.args.event) (known_of (tag_value_of c.event-tag.result) m)) (sym slots)
    (subst (λ (t : TagValue). Goes ByTables (known_of tag most) (Befalls c.args.event) (known_of t (befallen_to c.args.event tag most))) (sym c.event-tag.ensures.step) it.goes))

pub invariant_of-result : goal.invariant_of-result
invariant_of-result c =
    let tag = tag_value_of c.self.inside.tag in
    let most = c.self.inside.most in
    let behind = c.event-tag.ensures.step in
    let slots = c.slots_behind-most.ensures ∙ ap (λ (t : TagValue). slots_behind draws.Nothing t.state most) behind in (
      ap (λ (t : TagValue). length t.body.words) behind ∙ ap (λ (l : List ℕ). length l) (event_keeps_words c.args.event tag.state tag.body) ∙ c.self.invariant.0,
      subst (λ (m : Option ℕ). HasFirstSlot m (tag_value_of c.event-tag.result).state) (sym slots)
          (subst (λ (t : TagValue). HasFirstSlot (befallen_to c.args.event tag most) t.state) (sym behind) (befallen c.args.event tag most c.self.invariant.1).first),
    )
