-- Symbols, by where the level stays: at their boundaries and in their middles.
use Rattle.std.proofs.Common.{◌≡◌, ◌∙◌, ℕ, zero, suc, ◌+◌, ◌*◌, Bool, true, false, not, List, [], ◌∷◌, length, replicate, get_or, ap, sym, subst, refl, arith}
use Rattle.line_code.specs.Table.{Context}
use Rattle.line_code.specs.Stream.{blocks}
use Rattle.line_code.specs.States.{context_after}
use Rattle.fm0_line.specs.Fm0.{fm0, fm0_second}
use Rattle.fm0_line.specs.Stays.{same, stays, odds}

-- of pairs of places the first ones
abbrev pub evens : List Bool → List Bool
evens [] = []
evens (first ∷ []) = []
evens (first ∷ second ∷ more) = first ∷ evens more

-- a level that does not stay is the inverse of the one before
inverse : (before first : Bool) → same before first ≡ false → not before ≡ first
inverse true true e = cc
inverse true false e = refl
inverse false true e = refl
inverse false false e = cc

-- the middle tells the second level
second_is : (first second : Bool) → fm0_second first (same first second) ≡ second
second_is true true = refl
second_is true false = refl
second_is false true = refl
second_is false false = refl

-- levels that stay at no boundary are the blocks of these bits
are_blocks : (before phase : Bool) (levels : List Bool) (n : ℕ) → length levels ≡ 2 * n → evens (stays phase levels) ≡ replicate n false
    → levels ≡ blocks fm0 (record { before = before; phase = phase }) (odds (stays phase levels))
are_blocks before phase [] n long none = refl
are_blocks before phase (first ∷ []) n long none = absurd (omega (arith, long))
are_blocks before phase (first ∷ second ∷ more) zero long none = absurd (omega (arith, long))
are_blocks before phase (first ∷ second ∷ more) (suc n) long none =
    let inverts : same phase first ≡ false = cc in
    let others : evens (stays second more) ≡ replicate n false = cc in
    let bit = same first second in
    let first_is = inverse phase first inverts in
    let level_is : fm0_second (not phase) bit ≡ second = ap (λ (level : Bool). fm0_second level bit) first_is ∙ second_is first second in
    let rest = are_blocks bit second more n (omega (arith, long)) others in
    ap (λ (level : Bool). level ∷ second ∷ more) (sym first_is)
    ∙ ap (λ (level : Bool). not phase ∷ level ∷ more) (sym level_is)
    ∙ ap (λ (levels : List Bool). not phase ∷ fm0_second (not phase) bit ∷ levels) (rest ∙ ap (λ (level : Bool). blocks fm0 (record { before = bit; phase = level }) (odds (stays second more))) (sym level_is))

-- and the last of them and the last level are what the next block depends on
behind_blocks : (before phase : Bool) (levels : List Bool) (n : ℕ) → length levels ≡ 2 * suc n → evens (stays phase levels) ≡ replicate (suc n) false
    → context_after fm0 (record { before = before; phase = phase }) (odds (stays phase levels))
    ≡ record { before = get_or (odds (stays phase levels)) n false; phase = get_or levels (1 + 2 * n) false }
behind_blocks before phase [] n long none = absurd (omega (arith, long))
behind_blocks before phase (first ∷ []) n long none = absurd (omega (arith, long))
behind_blocks before phase (first ∷ second ∷ []) zero long none =
    let inverts : same phase first ≡ false = cc in
    let bit = same first second in
    ap (λ (level : Bool). record { before = bit; phase = level }) (ap (λ (level : Bool). fm0_second level bit) (inverse phase first inverts) ∙ second_is first second)
behind_blocks before phase (first ∷ second ∷ []) (suc n) long none = absurd (omega (arith, long))
behind_blocks before phase (first ∷ second ∷ level ∷ more) zero long none = absurd (omega (arith, long))
behind_blocks before phase (first ∷ second ∷ level ∷ more) (suc n) long none =
    let inverts : same phase first ≡ false = cc in
    let others : evens (stays second (level ∷ more)) ≡ replicate (suc n) false = cc in
    let bit = same first second in
    let level_is : fm0_second (not phase) bit ≡ second = ap (λ (level : Bool). fm0_second level bit) (inverse phase first inverts) ∙ second_is first second in
    let bits = odds (stays second (level ∷ more)) in
    let rest = behind_blocks bit second (level ∷ more) n (omega (arith, long)) others in
    let place : 1 + 2 * suc n ≡ suc (suc (1 + 2 * n)) = omega arith in
    ap (λ (last : Bool). context_after fm0 (record { before = bit; phase = last }) bits) level_is ∙ rest
    ∙ ap (λ (at : ℕ). record { before = get_or bits n false; phase = get_or (first ∷ second ∷ level ∷ more) at false }) (sym place)

-- 32 levels that stay at no boundary are blocks, and the last of them tells what the next one depends on
pub are_read : (before phase : Bool) (levels bits : List Bool) → length levels ≡ 32 → evens (stays phase levels) ≡ replicate 16 false → bits ≡ odds (stays phase levels)
    → (levels ≡ blocks fm0 (record { before = before; phase = phase }) bits)
    × (record { before = get_or bits 15 false; phase = get_or levels 31 false } ≡ context_after fm0 (record { before = before; phase = phase }) bits)
are_read before phase levels bits long none bits_are =
    let here : Context = record { before = before; phase = phase } in
    let P : List Bool → Type 0 = λ digits. (levels ≡ blocks fm0 here digits) × (record { before = get_or digits 15 false; phase = get_or levels 31 false } ≡ context_after fm0 here digits) in
    subst P (sym bits_are) (are_blocks before phase levels 16 long none, sym (behind_blocks before phase levels 15 long none))
