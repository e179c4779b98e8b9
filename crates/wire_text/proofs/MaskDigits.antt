-- Bits and their digits.
use Rattle.std.proofs.Common.{◌≡◌, ◌≢◌, ◌<◌, ◌≤◌, ℕ, Bool, List, [], ◌∷◌, ◌++◌, length, map, ap, arith, refl, sym, ◌∙◌, append_assoc}
use Rattle.std.proofs.lemmas.List.{append-nil, length-append, length-map}
use Rattle.text_fields.specs.Binary.{binary_digit, bits_of_digits}
use Rattle.text_fields.proofs.BinaryLaws.{bits_of_digits-map}

map-push : (bits : List Bool) (bit : Bool) → map binary_digit (bits ++ bit ∷ []) ≡ map binary_digit bits ++ binary_digit bit ∷ []
map-push [] bit = refl
map-push (first ∷ bits) bit = ap (λ (list : List ℕ). binary_digit first ∷ list) (map-push bits bit)

-- the next digit of digits of bits is the digit of a bit
pub next_is_digit : (done bits : List Bool) (digit : ℕ) (behind : List ℕ) → map binary_digit done ++ digit ∷ behind ≡ map binary_digit bits
    → (bit : Bool) × (digit ≡ binary_digit bit)
next_is_digit [] [] digit behind same = cc
next_is_digit [] (bit ∷ bits) digit behind same = (bit, cc)
next_is_digit (first ∷ done) [] digit behind same = cc
next_is_digit (first ∷ done) (bit ∷ bits) digit behind same =
    let rest : map binary_digit done ++ digit ∷ behind ≡ map binary_digit bits = cc in
    next_is_digit done bits digit behind rest

-- one more digit is read
pub one_more_read : (digits rest behind : List ℕ) (done done' : List Bool) (bit : Bool) → digits ≡ map binary_digit done ++ rest
    → rest ≡ binary_digit bit ∷ behind → done' ≡ done ++ bit ∷ [] → digits ≡ map binary_digit done' ++ behind
one_more_read digits rest behind done done' bit so_far next pushed =
    let piece : map binary_digit done' ≡ map binary_digit done ++ binary_digit bit ∷ [] =
    ap (λ (list : List Bool). map binary_digit list) pushed ∙ map-push done bit in
    so_far ∙ ap (λ (list : List ℕ). map binary_digit done ++ list) next
    ∙ sym (ap (λ (list : List ℕ). list ++ behind) piece ∙ append_assoc (map binary_digit done) (binary_digit bit ∷ []) behind)

-- where nothing is left, the digits are those of the bits
pub all_spelled : (digits rest : List ℕ) (done : List Bool) → digits ≡ map binary_digit done ++ rest → rest ≡ [] → digits ≡ map binary_digit done
all_spelled digits rest done so_far none = so_far ∙ ap (λ (list : List ℕ). map binary_digit done ++ list) none ∙ append-nil (map binary_digit done)

-- ... and of no other bits
pub all_read : (digits : List ℕ) (done bits : List Bool) → digits ≡ map binary_digit done → digits ≡ map binary_digit bits → done ≡ bits
all_read digits done bits read spells =
    sym (bits_of_digits-map done) ∙ ap bits_of_digits (sym read ∙ spells) ∙ bits_of_digits-map bits

-- more digits than bits
pub too_many : (digits rest : List ℕ) (done bits : List Bool) → digits ≡ map binary_digit done ++ rest → 0 < length rest
    → length done ≡ 255 → length bits ≤ 255 → digits ≢ map binary_digit bits
too_many digits rest done bits so_far some full few spells =
    let count = ap length (sym so_far ∙ spells) in
    omega (arith, count, some, length-append (map binary_digit done) rest, length-map done binary_digit, length-map bits binary_digit)

-- what is left of the digits of bits begins with a digit
pub stuck : (digits rest : List ℕ) (done bits : List Bool) → digits ≡ map binary_digit done ++ rest → digits ≡ map binary_digit bits → rest ≢ []
    → ((bit : Bool) (behind : List ℕ) → rest ≢ binary_digit bit ∷ behind) → ⊥
stuck digits [] done bits so_far spells some none = some refl
stuck digits (digit ∷ behind) done bits so_far spells some none =
    let found = next_is_digit done bits digit behind (sym so_far ∙ spells) in
    none found.0 behind (ap (λ (n : ℕ). n ∷ behind) found.1)
