-- A lane passes where its level is true.
use Rattle.std.proofs.Common.{◌≡◌, ◌∙◌, ◌<◌, ◌^◌, ℕ, Bool, true, false, List, [], ◌∷◌, length, map, ap, refl, arith}
use Rattle.std.specs.Simd.Lanes.{mask_l}
use Rattle.std.proofs.lemmas.List.{length-map}
use Rattle.std.proofs.lemmas.Simd.{bitmask_splat, mask_l-lt}
use Rattle.bit_strings.specs.NumbersInBits.{digit_of}
use Rattle.line_code.proofs.masks.word_of_levels.Goals as goal
use mir.Syntax.{w8}
use lib.Dec.{eqb}

passes : (levels : List Bool) → map (λ digit. eqb digit 1) (map digit_of levels) ≡ levels
passes [] = refl
passes (true ∷ levels) = ap (λ (rest : List Bool). true ∷ rest) (passes levels)
passes (false ∷ levels) = ap (λ (rest : List Bool). false ∷ rest) (passes levels)

small : (levels : List Bool) → length levels ≡ 16 → mask_l levels < 2 ^ 16
small levels long = omega (arith, ap (λ (n : ℕ). 2 ^ n) long, mask_l-lt levels)

pub overflow_cast-result : goal.overflow_cast-result
overflow_cast-result c =
    let levels = c.args.levels.now in
    let digits = map digit_of levels in
    let whole = bitmask_splat w8 eqb digits 16 1 (length-map levels digit_of ∙ c.requires) (omega arith) ∙ ap mask_l (passes levels) in
    rw c.digits_of.ensures (omega (arith, whole, small levels c.requires))

pub returns : goal.returns
returns c =
    let levels = c.args.levels.now in
    let digits = map digit_of levels in
    rw c.digits_of.ensures (bitmask_splat w8 eqb digits 16 1 (length-map levels digit_of ∙ c.requires) (omega arith) ∙ ap mask_l (passes levels))
