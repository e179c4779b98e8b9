-- Four symbols, and how many levels they have.
use Rattle.std.proofs.Common.{◌≡◌, ℕ, ◌*◌, ◌∷◌, Bool, true, false, List, inl, inr, length, take, ap, sym, refl, arith}
use Rattle.std.proofs.lemmas.List.{length-take-le}
use Rattle.bit_strings.specs.NumbersInBits.{field_of}
use Rattle.line_code.specs.Table.{Context}
use Rattle.line_code.specs.Stream.{blocks}
use Rattle.miller_line.specs.Miller.{miller, miller_block, IsOneOfThree, start_phase}
use Rattle.miller_line.specs.FourSymbols.{symbols}
use mir.Val.{bool_byte}

-- the phase at the start of the first symbol is all that the bit before changes
pub from_start : (m : ℕ) (c : Context) (bit : Bool) (more : List Bool) → symbols m (start_phase c bit) (bit ∷ more) ≡ blocks (miller m) c (bit ∷ more)
from_start m c true more = refl
from_start m c false more = refl

-- four symbols have 8 M levels
pub length-symbols : (m : ℕ) (start : Bool) (number : ℕ) → IsOneOfThree m → length (symbols m start (field_of number 4)) ≡ 4 * (2 * m)
unfolding field_of
length-symbols m start number (inl two) = rw two refl
length-symbols m start number (inr (inl four)) = rw four refl
length-symbols m start number (inr (inr eight)) = rw eight refl

-- ... and so as many as one symbol, and more
pub whole_symbol : (m : ℕ) (start : Bool) (number : ℕ) (levels : List Bool) → IsOneOfThree m → levels ≡ symbols m start (field_of number 4)
    → 2 * m ≡ length (take (2 * m) levels)
whole_symbol m start number levels is are = sym (length-take-le (2 * m) levels (omega (arith, ap length are, length-symbols m start number is)))

-- the first of four symbols is that of their first bit
pub first_symbol : (m : ℕ) (c : Context) (bit : Bool) → IsOneOfThree m → take (2 * m) (symbols m (start_phase c bit) (field_of (8 * bool_byte bit) 4)) ≡ miller_block m c bit
unfolding field_of
first_symbol m c true (inl two) = rw two refl
first_symbol m c true (inr (inl four)) = rw four refl
first_symbol m c true (inr (inr eight)) = rw eight refl
first_symbol m c false (inl two) = rw two refl
first_symbol m c false (inr (inl four)) = rw four refl
first_symbol m c false (inr (inr eight)) = rw eight refl
