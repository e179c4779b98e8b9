use Rattle.std.proofs.Common.{ℕ, List, [], ◌∷◌, ◌++◌, map, ap, sym, ◌∙◌, append_assoc, lit<}
use Rattle.std.specs.Prelude.{if◌then◌else◌}
use Rattle.std.specs.List.{join_with_byte}
use Rattle.std.specs.String.{string_bytes}
use Rattle.std.proofs.lemmas.Iterator.Consumers.{YieldsList-end}
use Rattle.std.proofs.lemmas.Iterator.Splits.{YieldsList-from_str_split}
use Rattle.std.proofs.lemmas.List.{map-append}
use Rattle.wave_dump.proofs.FieldsWithByte.{first-mapped, is-not-first, join-field}
use Rattle.wave_dump.proofs.values.push_with_underscores.Goals as goal

pub loop-field-preserved : goal.loop-field-preserved
loop-field-preserved c =
    let first = c.loop-field.first in
    let field : List ℕ = c.in-Some.field.now in
    let before : List (List ℕ) = map (λ field. field.now) c.loop-field.yielded in
    let start : List ℕ = string_bytes c.args.text.now in (
      c.in_ok-push_field.ensures
          ∙ ap (λ (text : List ℕ). text ++ (if first then field else 95 ∷ field)) c.loop-field.invariant.0
          ∙ append_assoc start (join_with_byte 95 before) (if first then field else 95 ∷ field)
          ∙ ap (λ (text : List ℕ). start ++ text)
          (sym (join-field 95 first before field (first-mapped (λ field. field.now) first c.loop-field.yielded c.loop-field.invariant.1))
          ∙ ap (λ (fields : List (List ℕ)). join_with_byte 95 fields) (sym (map-append (λ field. field.now) c.loop-field.yielded (c.in-Some.field ∷ [])))),
      is-not-first c.loop-field.yielded c.in-Some.field,
    )

pub returns : goal.returns
returns c =
    let split = c.split-field-items.ensures in
    let gives = c.into_iter-field-iterator.ensures in
    let all = YieldsList-end (YieldsList-from_str_split 32 c.args.line.now (lit< tt) (cc) (cc) (cc)) c.loop-field.yielded _ c.loop-field.yielded_by _ _ c.in-None.is c.next.ensures.steps in
    c.loop-field.invariant.0 ∙ ap (λ (fields : List (List ℕ)). string_bytes c.args.text.now ++ join_with_byte 95 fields) all.0
