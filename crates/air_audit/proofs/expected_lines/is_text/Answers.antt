use Rattle.air_audit.proofs.Names.{◌≡◌, ℕ, true, List, ◌++◌, ◌∷◌, [], sym, ap, ◌∙◌, true≢false, Decides-eqb, append_cancel_right, slice_eq-Decides, strip_suffix_is}
use Rattle.air_audit.proofs.expected_lines.is_text.Goals as goal

pub returns-in-Some-clause-yes : goal.returns-in-Some-clause-yes
returns-in-Some-clause-yes c =
    let cut = strip_suffix_is Decides-eqb c.as_bytes.result.now (10 ∷ []) c.strip_suffix.result c.strip_suffix.ensures.cases in
    let text : c.as_bytes.result.now ≡ c.in-Some.front.now ++ 10 ∷ [] = rw c.in-Some.is at cut in
    λ equal.
    ap (λ (line : List ℕ). line ++ 10 ∷ []) (sym ((slice_eq-Decides Decides-eqb c.in-Some.front.now c.args.line.now c.eq.result c.eq.ensures).0 equal))
    ∙ sym text ∙ c.as_bytes.ensures.value

pub returns-in-Some-clause-no : goal.returns-in-Some-clause-no
returns-in-Some-clause-no c =
    let cut = strip_suffix_is Decides-eqb c.as_bytes.result.now (10 ∷ []) c.strip_suffix.result c.strip_suffix.ensures.cases in
    let text : c.as_bytes.result.now ≡ c.in-Some.front.now ++ 10 ∷ [] = rw c.in-Some.is at cut in
    λ unequal same.
    let line : c.in-Some.front.now ≡ c.args.line.now =
    append_cancel_right c.in-Some.front.now c.args.line.now (10 ∷ []) (sym text ∙ c.as_bytes.ensures.value ∙ sym same) in
    let equal : c.eq.result ≡ true = (slice_eq-Decides Decides-eqb c.in-Some.front.now c.args.line.now c.eq.result c.eq.ensures).1 line in
    true≢false (sym equal ∙ unequal)

pub returns-in-None-clause-no : goal.returns-in-None-clause-no
returns-in-None-clause-no c =
    let cut = strip_suffix_is Decides-eqb c.as_bytes.result.now (10 ∷ []) c.strip_suffix.result c.strip_suffix.ensures.cases in
    let none : (front : List ℕ) → c.as_bytes.result.now ≡ front ++ 10 ∷ [] → ⊥ = rw c.in-None.is at cut in
    λ no same. none c.args.line.now (c.as_bytes.ensures.value ∙ sym same)
