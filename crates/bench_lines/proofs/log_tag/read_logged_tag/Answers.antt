-- The line is read with a word behind it.
use Rattle.std.proofs.Common.{◌≡◌, ◌++◌, ◌∙◌, ℕ, List, ap, refl, subst, sym}
use Rattle.std.specs.Prelude.{codes}
use Rattle.bench_lines.specs.ProbeLine.{SpellsTag}
use Rattle.bench_lines.specs.ProbeText.{IsFaultyTagLine}
use Rattle.scenario_lines.specs.declared.tag.TagSpec.{TagSpec}
use Rattle.text_fields.specs.Lines.{fields_of}
use Rattle.bench_lines.specs.LogText.{with_word}
use Rattle.bench_lines.proofs.WordBehind.{whole_fields}
use Rattle.bench_lines.proofs.log_tag.read_logged_tag.Goals as goal

pub returns-in-Ok-clause-ok : goal.returns-in-Ok-clause-ok
returns-in-Ok-clause-ok c =
    let copied : c.in_ok-whole.whole.items ≡ c.args.line.now = c.in_ok-whole.ensures.items_if_clones_equal (λ one other same. same) in
    let added : c.extend_from_slice.new.self.items ≡ c.in_ok-whole.whole.items ++ codes " 0000" = c.in_ok-extend_from_slice.ensures.items in
    let fields : fields_of c.as_slice.result.now ≡ with_word (fields_of c.args.line.now) =
    whole_fields c.args.line.now c.as_slice.result.now (c.as_slice.ensures.value ∙ added ∙ ap (λ (front : List ℕ). front ++ codes " 0000") copied) in
    let spec = c.in_ok-to_spec-in-Ok.field-0 in
    subst (λ (list : List (List ℕ)). SpellsTag list spec) fields
    (subst (λ (tag : TagSpec). SpellsTag (fields_of c.as_slice.result.now) tag) (sym c.in_ok-to_spec-in-Ok.ensures) c.in-Ok.ensures.ok)

pub returns-clause-refused : goal.returns-clause-refused
returns-clause-refused c =
    let copied : c.in_ok-whole.whole.items ≡ c.args.line.now = c.in_ok-whole.ensures.items_if_clones_equal (λ one other same. same) in
    let added : c.extend_from_slice.new.self.items ≡ c.in_ok-whole.whole.items ++ codes " 0000" = c.in_ok-extend_from_slice.ensures.items in
    let fields : fields_of c.as_slice.result.now ≡ with_word (fields_of c.args.line.now) =
    whole_fields c.args.line.now c.as_slice.result.now (c.as_slice.ensures.value ∙ added ∙ ap (λ (front : List ℕ). front ++ codes " 0000") copied) in
    rw c.unread_at.ensures (refl, subst (λ (list : List (List ℕ)). IsFaultyTagLine list c.in-Err.reason) fields c.in-Err.ensures.refused)
