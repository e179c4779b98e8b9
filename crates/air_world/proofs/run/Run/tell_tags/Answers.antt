use Rattle.air_world.proofs.Names.{◌≡◌, ℕ, zero, suc, ◌+◌, ◌<◌, List, ◌∷◌, ◌++◌, length, take, Some, refl, sym, ◌∙◌, ap, arith, slice_get, [], AirValue, ReportLine, TagLine, tag_lines, TagValue}
use Rattle.air_world.proofs.Passing.{tells-nothing, tells-same, tells-then}
use Rattle.air_world.proofs.run.Run.tell_tags.Goals as goal

tags-more : (tags : List TagValue) (from number : ℕ) (tag : TagValue) → slice_get tags number ≡ Some tag
    → tag_lines from (take (suc number) tags) ≡ tag_lines from (take number tags) ++ TagLine (from + number) tag ∷ []
tags-more [] from number tag at = absurd (cc)
tags-more (first ∷ tags) from zero tag at =
    let same : first ≡ tag = cc in
    let number : from ≡ from + 0 = omega arith in
    ap (λ (t : TagValue). TagLine from t ∷ []) same ∙ ap (λ n. TagLine n tag ∷ []) number
tags-more (first ∷ tags) from (suc number) tag at =
    let place : from + 1 + number ≡ from + suc number = omega arith in
    ap (λ (l : List ReportLine). TagLine from first ∷ l) (tags-more tags (from + 1) number tag at)
    ∙ ap (λ n. TagLine from first ∷ (tag_lines (from + 1) (take number tags) ++ TagLine n tag ∷ [])) place

-- the lines of one tag more
tag-more : (tags : List TagValue) (number : ℕ) (tag : TagValue) → slice_get tags number ≡ Some tag
    → tag_lines 0 (take number tags) ++ TagLine number tag ∷ [] ≡ tag_lines 0 (take (number + 1) tags)
tag-more tags number tag at =
    let place : 0 + number ≡ number = omega arith in
    let next : suc number ≡ number + 1 = omega arith in
    sym (ap (λ n. tag_lines 0 (take n tags)) (sym next) ∙ tags-more tags 0 number tag at ∙ ap (λ n. tag_lines 0 (take number tags) ++ TagLine n tag ∷ []) place)

-- there is a tag at each place
some-at : (tags : List TagValue) (place : ℕ) → place < length tags → (tag : TagValue) × (slice_get tags place ≡ Some tag)
some-at [] place inside = absurd (omega arith)
some-at (tag ∷ tags) zero inside = (tag, refl)
some-at (tag ∷ tags) (suc place) inside = some-at tags place (omega arith)

pub loop-number-init : goal.loop-number-init
loop-number-init g c = record { air = refl; told = tells-nothing }

pub loop-number-preserved : goal.loop-number-preserved
loop-number-preserved g c =
    let inv = c.loop-number.invariant in
    let tags = c.args.air.now.tags in
    let number = c.loop-number.number in
    let found = some-at tags number (omega (arith, c.len-number-end.ensures.count)) in
    let at : slice_get c.loop-number.air.tags number ≡ Some found.0 = ap (λ (a : AirValue). slice_get a.tags number) inv.air ∙ found.1 in
    record { air = c.tell_tag.ensures.air ∙ inv.air; told = tells-same (tag-more tags number found.0 found.1) (tells-then inv.told (c.tell_tag.ensures.told found.0 at)) }
