-- The bit of a bank at a place is a bit of the word that the place lies in.
use Rattle.std.proofs.Common.{◌≡◌, ℕ, zero, suc, ◌+◌, ◌-◌, ◌/◌, ◌%◌, ◌^◌, ◌<◌, ◌==◌, List, [], ◌∷◌, ◌++◌, length, Some, None, refl, arith, slice_get}
use Rattle.bit_strings.specs.NumbersInBits.{field_of}
use Rattle.bit_strings.specs.laws.NumbersInBits.{length-field_of}
use Rattle.bit_strings.specs.Words.{bits_of_words}
use Rattle.bit_strings.specs.laws.Lists.{slice_get-append_left, slice_get-append_right}

slice_get-field_of : (value width i : ℕ) → i < width → slice_get (field_of value width) i ≡ Some (value / 2 ^ (width - 1 - i) % 2 == 1)
unfolding field_of
slice_get-field_of value zero i inside = absurd (omega arith)
slice_get-field_of value (suc places) zero inside =
    let same : suc places - 1 - 0 ≡ places = omega arith in
    rw same refl
slice_get-field_of value (suc places) (suc i) inside =
    let same : suc places - 1 - suc i ≡ places - 1 - i = omega arith in
    rw same (slice_get-field_of value places i (omega arith))

pub bit_within : (words : List ℕ) (at place word : ℕ) → at / 16 ≡ place → slice_get words place ≡ Some word → slice_get (bits_of_words words) at ≡ Some (word / 2 ^ (15 - at % 16) % 2 == 1)
bit_within [] at place word quotient hit = cc
bit_within (first ∷ words) at zero word quotient hit =
    let here : first ≡ word = cc in
    let same : 16 - 1 - at ≡ 15 - at % 16 = omega arith in
    let inside : at < length (field_of first 16) = omega (arith, length-field_of first 16) in
    rw (slice_get-append_left (field_of first 16) (bits_of_words words) at inside, slice_get-field_of first 16 at (omega arith), same, here) refl
bit_within (first ∷ words) at (suc place) word quotient hit =
    let rest : at ≡ length (field_of first 16) + (at - 16) = omega (arith, length-field_of first 16) in
    let same : at % 16 ≡ (at - 16) % 16 = omega arith in
    let quotient' : (at - 16) / 16 ≡ place = omega arith in
    rw (slice_get-append_right (field_of first 16) (bits_of_words words) (at - 16) at rest, same) (bit_within words (at - 16) place word quotient' hit)

pub bit_past : (words : List ℕ) (at place : ℕ) → at / 16 ≡ place → slice_get words place ≡ None → slice_get (bits_of_words words) at ≡ None
bit_past [] at place quotient miss = refl
bit_past (first ∷ words) at zero quotient miss = cc
bit_past (first ∷ words) at (suc place) quotient miss =
    let rest : at ≡ length (field_of first 16) + (at - 16) = omega (arith, length-field_of first 16) in
    let quotient' : (at - 16) / 16 ≡ place = omega arith in
    rw (slice_get-append_right (field_of first 16) (bits_of_words words) (at - 16) at rest) (bit_past words (at - 16) place quotient' miss)
