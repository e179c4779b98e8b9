-- A table of 32 rows, one for each phase and each four bits: the phase and the bits are the digits of the row's number.
use Rattle.std.proofs.Common.{◌≡◌, ℕ, ◌+◌, ◌*◌, ◌/◌, ◌%◌, ◌<◌, ◌==◌, Bool, true, false, List, map, length, get_or, ap, sym, ◌∙◌, arith}
use Rattle.std.specs.List.{range_with_len}
use Rattle.std.proofs.lemmas.List.{get_or-map, length-map}
use Rattle.std.proofs.lemmas.List.FromFn.{get_or-map-range_with_len, length-map-range_with_len}
use Rattle.bit_strings.specs.NumbersInBits.{field_of}
use Rattle.bit_strings.specs.laws.NumbersInBits.{field_of-mod}
use mir.Val.{bool_byte}

-- what a function of a phase and of four bits gives for a row's number
abbrev pub row : {X : Type 0} → (Bool → List Bool → X) → ℕ → X
row of n = of (n / 16 == 1) (field_of n 4)

-- ... and for each of them, in their order
abbrev pub rows : {X : Type 0} → (Bool → List Bool → X) → List X
rows of = map (row of) (range_with_len 0 32)

-- a row's number, its first digit and its last four
record Digits (phase : Bool) (low place : ℕ) : Type 0 where
  first : (place / 16 == 1) ≡ phase
  last : place % 16 ≡ low
  small : place < 32

digits : (phase : Bool) (low : ℕ) → low < 16 → Digits phase low (16 * bool_byte phase + low)
digits true low small =
    let first : (16 * bool_byte true + low) / 16 ≡ 1 = omega (arith, small) in
    record { first = ap (λ (n : ℕ). n == 1) first; last = omega (arith, small); small = omega (arith, small) }
digits false low small =
    let first : (16 * bool_byte false + low) / 16 ≡ 0 = omega (arith, small) in
    record { first = ap (λ (n : ℕ). n == 1) first; last = omega (arith, small); small = omega (arith, small) }

-- what a table's row says for a phase and for the last four bits of a number, where its rows say what the function gives
pub row_at : {X Y : Type 0} (says : Y → X) (of : Bool → List Bool → X) (table : List Y) (none : Y) → map says table ≡ rows of
    → (phase : Bool) (number : ℕ) → says (get_or table (16 * bool_byte phase + number % 16) none) ≡ of phase (field_of number 4)
row_at says of table none is phase number =
    let place = 16 * bool_byte phase + number % 16 in
    let d = digits phase (number % 16) (omega arith) in
    let size : length table ≡ 32 = sym (length-map table says) ∙ ap length is ∙ length-map-range_with_len (row of) 0 32 in
    let bits : field_of place 4 ≡ field_of number 4 = sym (field_of-mod place 4) ∙ ap (λ n. field_of n 4) d.last ∙ field_of-mod number 4 in
    sym (get_or-map says table place none (says none) (omega (arith, size, d.small)))
    ∙ ap (λ rs. get_or rs place (says none)) is
    ∙ get_or-map-range_with_len (row of) 0 32 place place (says none) d.small (omega arith)
    ∙ ap (λ phase. of phase (field_of place 4)) d.first
    ∙ ap (λ bs. of phase bs) bits
