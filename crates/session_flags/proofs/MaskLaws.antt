-- A mask against a list of bits, bit by bit, and what a match means.
use Rattle.std.proofs.Common.{◌≡◌, ℕ, zero, suc, ◌+◌, ◌<◌, ◌≤◌, ◌↔◌, Bool, true, false, ◌&&◌, List, [], ◌∷◌, ◌++◌, length, take, drop, Some, None, refl, sym, ap, arith, slice_get, get_or, drop-cons, add-one, IsTrue, length-take, ◌*◌, ◌∙◌, nat_le, append_assoc, length-append}
use Rattle.std.proofs.lemmas.Bool.Decides.{nat_tests}
use Rattle.std.proofs.lemmas.List.{take-append-drop}
use Rattle.std.proofs.Math.Seq.{drop-append_seam}
use Rattle.std.proofs.lemmas.Option.{slice_get_within, get_or_from_slice_get}
use Rattle.std.specs.Bool.{beq}
use Rattle.std.specs.Int.{div_ceil}
use Rattle.bit_strings.specs.Words.{bits_of_words}
use Rattle.bit_strings.specs.laws.Words.{length-bits_of_words}
use Rattle.session_flags.specs.MaskMatch.{begins_with, mask_match, MaskStandsAt}

pub begins_with-none : (bits : List Bool) → begins_with bits [] ≡ true
begins_with-none [] = refl
begins_with-none (bit ∷ bits) = refl

drop_past : (bits : List Bool) (place : ℕ) → slice_get bits place ≡ None → drop place bits ≡ []
drop_past [] zero miss = refl
drop_past [] (suc place) miss = refl
drop_past (bit ∷ bits) zero miss = cc
drop_past (bit ∷ bits) (suc place) miss = drop_past bits place miss

-- the bit is there: the comparison goes on behind it
pub begins_with-bit : (bits mask : List Bool) (place at : ℕ) (d bit : Bool) → slice_get bits place ≡ Some bit → at < length mask → begins_with (drop place bits) (drop at mask) ≡ beq bit (get_or mask at d) && begins_with (drop (place + 1) bits) (drop (at + 1) mask)
begins_with-bit bits mask place at d bit hit inside =
    let here : place < length bits = slice_get_within bits place bit hit in
    let same : get_or bits place bit ≡ bit = get_or_from_slice_get bits place bit bit hit in
    let bits_split : drop place bits ≡ get_or bits place bit ∷ drop (place + 1) bits = rw add-one (drop-cons bits place bit here) in
    let mask_split : drop at mask ≡ get_or mask at d ∷ drop (at + 1) mask = rw add-one (drop-cons mask at d inside) in
    rw (bits_split, mask_split, same) refl

-- there is none: no match
pub begins_with-past : (bits mask : List Bool) (place at : ℕ) (d : Bool) → slice_get bits place ≡ None → at < length mask → begins_with (drop place bits) (drop at mask) ≡ false
begins_with-past bits mask place at d miss inside =
    rw (drop_past bits place miss, drop-cons mask at d inside) refl

-- a list that begins with the mask is the mask and some rest
begins_with-parts : (bits mask : List Bool) → begins_with bits mask ≡ true → (rest : List Bool) × (bits ≡ mask ++ rest)
begins_with-parts bits [] holds = (bits, refl)
begins_with-parts [] (want ∷ mask) holds = cc
begins_with-parts (true ∷ bits) (true ∷ mask) holds =
    let more = begins_with-parts bits mask holds in
    (more.0, ap (λ (l : List Bool). true ∷ l) more.1)
begins_with-parts (true ∷ bits) (false ∷ mask) holds = cc
begins_with-parts (false ∷ bits) (true ∷ mask) holds = cc
begins_with-parts (false ∷ bits) (false ∷ mask) holds =
    let more = begins_with-parts bits mask holds in
    (more.0, ap (λ (l : List Bool). false ∷ l) more.1)

begins_with-front : (mask rest : List Bool) → begins_with (mask ++ rest) mask ≡ true
begins_with-front [] rest = begins_with-none rest
begins_with-front (true ∷ mask) rest = begins_with-front mask rest
begins_with-front (false ∷ mask) rest = begins_with-front mask rest

-- the mask stands there exactly where the comparison says so
stands_from_match : (words : List ℕ) (pointer : ℕ) (mask : List Bool) → pointer ≤ length (bits_of_words words) → begins_with (drop pointer (bits_of_words words)) mask ≡ true → MaskStandsAt (bits_of_words words) pointer mask
stands_from_match words pointer mask inside holds =
    let bits = bits_of_words words in
    let parts = begins_with-parts (drop pointer bits) mask holds in
    record {
      front = take pointer bits;
      rest = parts.0;
      place = omega (arith, length-take pointer bits);
      parts = sym (take-append-drop pointer bits) ∙ ap (λ (l : List Bool). take pointer bits ++ l) parts.1 ∙ sym (append_assoc (take pointer bits) mask parts.0);
    }

match_from_stands : (words : List ℕ) (pointer : ℕ) (mask : List Bool) → MaskStandsAt (bits_of_words words) pointer mask → (pointer ≤ length (bits_of_words words)) × (begins_with (drop pointer (bits_of_words words)) mask ≡ true)
match_from_stands words pointer mask stands =
    let front = stands.front in
    let behind = mask ++ stands.rest in
    let same : bits_of_words words ≡ front ++ behind = stands.parts ∙ append_assoc front mask stands.rest in
    let inside : pointer ≤ length (bits_of_words words) = omega (arith, ap length same, length-append front behind, stands.place) in
    let dropped : drop (length front) (front ++ behind) ≡ behind = drop-append_seam front behind in
    let at_pointer : drop pointer (bits_of_words words) ≡ behind = rw (same, ← stands.place) dropped in
    (inside, rw at_pointer (begins_with-front mask stands.rest))

nat_le_true : (m n : ℕ) → m ≤ n → nat_le m n ≡ true
nat_le_true m n small = grind (arith, nat_tests)

-- the comparison behind the test of the place is the definition, and means that the mask stands there
pub match_is : (words : List ℕ) (pointer : ℕ) (mask : List Bool) (answer : Bool) → pointer ≤ 16 * length words → answer ≡ begins_with (drop pointer (bits_of_words words)) mask → (answer ≡ mask_match words pointer mask) × (IsTrue answer ↔ MaskStandsAt (bits_of_words words) pointer mask)
match_is words pointer mask answer small is =
    let inside : pointer ≤ length (bits_of_words words) = omega (arith, length-bits_of_words words) in
    let test : nat_le pointer (length (bits_of_words words)) ≡ true = nat_le_true pointer (length (bits_of_words words)) inside in
    let value : answer ≡ mask_match words pointer mask = rw test is in
    let there : answer ≡ true → MaskStandsAt (bits_of_words words) pointer mask = λ e. stands_from_match words pointer mask inside (cc) in
    let back : MaskStandsAt (bits_of_words words) pointer mask → answer ≡ true = λ s. is ∙ (match_from_stands words pointer mask s).1 in
    (value, (there, back))

-- a pointer behind the bank
pub match_past : (words : List ℕ) (pointer : ℕ) (mask : List Bool) (answer : Bool) → 16 * length words < pointer → answer ≡ false → (answer ≡ mask_match words pointer mask) × (IsTrue answer ↔ MaskStandsAt (bits_of_words words) pointer mask)
match_past words pointer mask answer large is =
    let past : length (bits_of_words words) < pointer = omega (arith, length-bits_of_words words) in
    let test : nat_le pointer (length (bits_of_words words)) ≡ false = grind (arith, nat_tests) in
    let value : answer ≡ mask_match words pointer mask = rw (test, is) refl in
    let back : MaskStandsAt (bits_of_words words) pointer mask → ⊥ = λ s. let inside = (match_from_stands words pointer mask s).0 in omega arith in
    (value, (λ e. cc, λ s. absurd (back s)))

-- as many words as the place of the pointer needs, or fewer
pub rounded_up : (pointer count : ℕ) → div_ceil pointer 16 ≤ count → pointer ≤ 16 * count
rounded_up pointer count enough = omega arith

pub rounded_past : (pointer count : ℕ) → count < div_ceil pointer 16 → 16 * count < pointer
rounded_past pointer count few = omega arith
