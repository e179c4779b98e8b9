-- The bits of an EPC of six words, half by half, are its fields.
use Rattle.std.proofs.Common.{◌≡◌, ℕ, zero, suc, ◌+◌, ◌/◌, ◌%◌, ◌^◌, ◌<◌, Bool, List, [], ◌∷◌, ◌++◌, refl, sym, ◌∙◌, ap, arith, append_assoc, append-nil, length, drop, take, zero-add, add_comm}
use Rattle.std.proofs.lemmas.Nat.{shr-shr}
use Rattle.std.proofs.Math.Seq.{take-append_seam}
use Rattle.bit_strings.specs.NumbersInBits.{field_of, part_of, value_of}
use Rattle.bit_strings.specs.laws.NumbersInBits.{field_of-more, field_of-mod, length-field_of, value_of-field}
use Rattle.bit_strings.specs.Words.{bits_of_words}

-- a field is the field of its front and that of its back
pub field_of-cut : (n j k : ℕ) → field_of n (j + k) ≡ field_of (n / 2 ^ k) j ++ field_of n k
unfolding field_of
field_of-cut n zero k = ap (field_of n) (zero-add k)
field_of-cut n (suc j) k =
    let places : n / 2 ^ (j + k) ≡ n / 2 ^ k / 2 ^ j = ap (λ m. n / 2 ^ m) (add_comm j k) ∙ sym (shr-shr n k j) in
    field_of-more n (suc j + k) (j + k) (omega arith) ∙ rw (places, field_of-cut n j k)

-- numbers with the same last digits have the same field
pub field_of-same_low : (n m width : ℕ) → n % 2 ^ width ≡ m % 2 ^ width → field_of n width ≡ field_of m width
field_of-same_low n m width same = sym (field_of-mod n width) ∙ ap (λ k. field_of k width) same ∙ field_of-mod m width

-- the bits of three words
pub three_words : (half a b c : ℕ) → half / 2 ^ 32 ≡ a → half / 2 ^ 16 % 2 ^ 16 ≡ b → half % 2 ^ 16 ≡ c
    → field_of half 48 ≡ bits_of_words (a ∷ b ∷ c ∷ [])
three_words half a b c first second third =
    let front : field_of half 48 ≡ field_of (half / 2 ^ 32) 16 ++ field_of half 32 = field_of-cut half 16 32 in
    let back : field_of half 32 ≡ field_of (half / 2 ^ 16) 16 ++ field_of half 16 = field_of-cut half 16 16 in
    let middle : field_of (half / 2 ^ 16) 16 ≡ field_of b 16 = field_of-same_low (half / 2 ^ 16) b 16 (omega arith) in
    let last : field_of half 16 ≡ field_of c 16 = field_of-same_low half c 16 (omega arith) in
    front ∙ rw (back, middle, last, first) (simp append-nil)

-- the two halves of an EPC, field by field, the company and the item as one field
pub two_halves : (front back both : ℕ) → front % 2 ^ 34 ≡ both / 2 ^ 10 → back / 2 ^ 38 ≡ both % 2 ^ 10
    → field_of front 48 ++ field_of back 48 ≡ field_of (front / 2 ^ 40) 8 ++ (field_of (front / 2 ^ 37 % 2 ^ 3) 3 ++ (field_of (front / 2 ^ 34 % 2 ^ 3) 3 ++ (field_of both 44 ++ field_of (back % 2 ^ 38) 38)))
two_halves front back both in_front in_back =
    let c0 : field_of front 48 ≡ field_of (front / 2 ^ 40) 8 ++ field_of front 40 = field_of-cut front 8 40 in
    let c1 : field_of front 40 ≡ field_of (front / 2 ^ 37) 3 ++ field_of front 37 = field_of-cut front 3 37 in
    let c2 : field_of front 37 ≡ field_of (front / 2 ^ 34) 3 ++ field_of front 34 = field_of-cut front 3 34 in
    let c3 : field_of both 44 ≡ field_of (both / 2 ^ 10) 34 ++ field_of both 10 = field_of-cut both 34 10 in
    let c4 : field_of back 48 ≡ field_of (back / 2 ^ 38) 10 ++ field_of back 38 = field_of-cut back 10 38 in
    let s1 : field_of (front / 2 ^ 37) 3 ≡ field_of (front / 2 ^ 37 % 2 ^ 3) 3 = sym (field_of-mod (front / 2 ^ 37) 3) in
    let s2 : field_of (front / 2 ^ 34) 3 ≡ field_of (front / 2 ^ 34 % 2 ^ 3) 3 = sym (field_of-mod (front / 2 ^ 34) 3) in
    let s3 : field_of front 34 ≡ field_of (both / 2 ^ 10) 34 = field_of-same_low front (both / 2 ^ 10) 34 (omega arith) in
    let s4 : field_of (back / 2 ^ 38) 10 ≡ field_of both 10 = field_of-same_low (back / 2 ^ 38) both 10 (omega arith) in
    let s5 : field_of back 38 ≡ field_of (back % 2 ^ 38) 38 = sym (field_of-mod back 38) in
    rw (c0, c1, c2, c3, c4, s1, s2, s3, s4, s5) (simp append_assoc)

-- a company and an item in one field
pub both_parts : (both company_bits item_bits company item width : ℕ) → company_bits + item_bits ≡ width → both / 2 ^ item_bits ≡ company
    → both % 2 ^ item_bits ≡ item → field_of both width ≡ field_of company company_bits ++ field_of item item_bits
both_parts both company_bits item_bits company item width widths e0 e1 =
    ap (field_of both) (sym widths) ∙ field_of-cut both company_bits item_bits
    ∙ rw (e0, sym (field_of-mod both item_bits), e1)

drop-front : (xs ys : List Bool) → drop (length xs) (xs ++ ys) ≡ ys
drop-front [] ys = refl
drop-front (x ∷ xs) ys = drop-front xs ys

-- the number of a field that stands behind others
pub field-at : (bits front behind : List Bool) (number width from : ℕ) → bits ≡ front ++ (field_of number width ++ behind) → length front ≡ from
    → number < 2 ^ width → value_of (part_of bits from width) ≡ number
field-at bits front behind number width from split place small =
    let field = field_of number width in
    let dropped : drop from bits ≡ field ++ behind = rw (split, sym place) (drop-front front (field ++ behind)) in
    let taken : take width (field ++ behind) ≡ field = ap (λ n. take n (field ++ behind)) (sym (length-field_of number width)) ∙ take-append_seam field behind in
    rw (dropped, taken) (value_of-field number width small)
