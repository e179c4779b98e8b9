-- Long division bit by bit: it goes on from a remainder.
use Rattle.std.proofs.Common.{◌≡◌, ℕ, zero, suc, ◌<◌, ◌≤◌, Bool, true, false, List, [], ◌∷◌, ◌++◌, length, replicate, refl, sym, ◌∙◌, ap, arith}
use Rattle.std.proofs.lemmas.List.{length-replicate}
use Rattle.gen2_crc.specs.Crc.{differ, minus, divide, remainder_of}

differ-false : (x : Bool) → differ x false ≡ x
differ-false true = refl
differ-false false = refl

differ_assoc : (x a b : Bool) → differ x (differ a b) ≡ differ (differ x a) b
differ_assoc true true true = refl
differ_assoc true true false = refl
differ_assoc true false b = refl
differ_assoc false a b = refl

minus-nil : (xs : List Bool) → minus xs [] ≡ xs
minus-nil [] = refl
minus-nil (x ∷ xs) = refl

pub length-minus : (xs ys : List Bool) → length (minus xs ys) ≡ length xs
length-minus [] ys = refl
length-minus (x ∷ xs) [] = refl
length-minus (x ∷ xs) (y ∷ ys) = ap suc (length-minus xs ys)

-- zeros take nothing off
minus-zeros : (xs : List Bool) (n : ℕ) → minus xs (replicate n false) ≡ xs
minus-zeros [] n = refl
minus-zeros (x ∷ xs) zero = refl
minus-zeros (x ∷ xs) (suc n) = rw (differ-false x, minus-zeros xs n)

-- a divisor taken off zeros is the divisor with zeros behind it
minus-padded : (xs ys : List Bool) (n : ℕ) → length ys ≤ n → minus xs (minus (replicate n false) ys) ≡ minus xs ys
minus-padded [] ys n short = refl
minus-padded (x ∷ xs) [] n short = ap (λ (ys : List Bool). minus (x ∷ xs) ys) (minus-nil (replicate n false)) ∙ minus-zeros (x ∷ xs) n
minus-padded (x ∷ xs) (y ∷ ys) zero short = absurd (omega arith)
minus-padded (x ∷ xs) (y ∷ ys) (suc n) short = ap (λ (rest : List Bool). differ x y ∷ rest) (minus-padded xs ys n (omega arith))

minus_assoc : (xs ys bs : List Bool) → length bs ≤ length ys → minus xs (minus ys bs) ≡ minus (minus xs ys) bs
minus_assoc [] ys bs short = refl
minus_assoc (x ∷ xs) [] [] short = refl
minus_assoc (x ∷ xs) [] (b ∷ bs) short = absurd (omega arith)
minus_assoc (x ∷ xs) (a ∷ ys) [] short = refl
minus_assoc (x ∷ xs) (a ∷ ys) (b ∷ bs) short = rw (differ_assoc x a b, minus_assoc xs ys bs (omega arith))

-- no message leaves the preset
pub remainder_of-none : (preset others : List Bool) → remainder_of preset others [] ≡ preset
unfolding divide
remainder_of-none [] others = refl
remainder_of-none (r ∷ preset) others = ap (λ (rest : List Bool). r ∷ rest) (remainder_of-none preset others)

-- what one step leaves of a dividend with this leading coefficient
unfoldable pub left_of : Bool → List Bool → List Bool → List Bool
left_of true dividend others = minus dividend others
left_of false dividend others = dividend

divide-step : (steps : ℕ) (others dividend : List Bool) (top : Bool) → divide (suc steps) others (top ∷ dividend) ≡ divide steps others (left_of top dividend others)
unfolding divide left_of
divide-step steps others dividend true = refl
divide-step steps others dividend false = refl

left_of-minus : (xs ys others : List Bool) (n : ℕ) (top : Bool) → length ys ≤ n → length others ≤ n → left_of top (minus xs ys) others ≡ minus xs (left_of top (minus (replicate n false) ys) others)
unfolding left_of
left_of-minus xs ys others n true short small =
    sym (minus_assoc xs (minus (replicate n false) ys) others (omega (arith, length-minus (replicate n false) ys, length-replicate n false))
    ∙ ap (λ (zs : List Bool). minus zs others) (minus-padded xs ys n short))
left_of-minus xs ys others n false short small = sym (minus-padded xs ys n short)

length-left_of : (top : Bool) (dividend others : List Bool) → length (left_of top dividend others) ≡ length dividend
unfolding left_of
length-left_of true dividend others = length-minus dividend others
length-left_of false dividend others = refl

-- the remainder after one bit
pub one-bit : (r bit : Bool) (preset others : List Bool) → remainder_of (r ∷ preset) others (bit ∷ []) ≡ left_of (differ bit r) (minus (replicate (suc (length preset)) false) preset) others
unfolding divide
one-bit r bit preset others = divide-step 0 others (minus (replicate (suc (length preset)) false) preset) (differ bit r)

pub length-one_bit : (preset others : List Bool) (bit : Bool) → length (remainder_of preset others (bit ∷ [])) ≡ length preset
unfolding divide
length-one_bit [] others true = refl
length-one_bit [] others false = refl
length-one_bit (r ∷ preset) others bit =
    ap length (one-bit r bit preset others) ∙ length-left_of (differ bit r) (minus (replicate (suc (length preset)) false) preset) others
    ∙ length-minus (replicate (suc (length preset)) false) preset ∙ length-replicate (suc (length preset)) false

-- the division of the rest goes on from the remainder after the first bit
pub first-bit : (preset others : List Bool) (bit : Bool) (message : List Bool) → length others ≤ length preset → 0 < length preset → remainder_of preset others (bit ∷ message) ≡ remainder_of (remainder_of preset others (bit ∷ [])) others message
first-bit [] others bit message small some = absurd (omega arith)
first-bit (r ∷ preset) others bit message small some =
    let n : ℕ = suc (length preset) in
    let xs : List Bool = message ++ replicate n false in
    let after : List Bool = left_of (differ bit r) (minus (replicate n false) preset) others in
    let same : remainder_of (r ∷ preset) others (bit ∷ []) ≡ after = one-bit r bit preset others in
    let long : length after ≡ n = length-left_of (differ bit r) (minus (replicate n false) preset) others ∙ length-minus (replicate n false) preset ∙ length-replicate n false in
    divide-step (length message) others (minus xs preset) (differ bit r)
    ∙ ap (λ (zs : List Bool). divide (length message) others zs) (left_of-minus xs preset others n (differ bit r) (omega arith) small)
    ∙ ap (λ k. divide (length message) others (minus (message ++ replicate k false) after)) (sym long)
    ∙ ap (λ (register : List Bool). remainder_of register others message) (sym same)

pub length-remainder_of : (preset others message : List Bool) → length others ≤ length preset → 0 < length preset → length (remainder_of preset others message) ≡ length preset
length-remainder_of preset others [] small some = ap length (remainder_of-none preset others)
length-remainder_of preset others (bit ∷ message) small some =
    let long : length (remainder_of preset others (bit ∷ [])) ≡ length preset = length-one_bit preset others bit in
    ap length (first-bit preset others bit message small some)
    ∙ length-remainder_of (remainder_of preset others (bit ∷ [])) others message (omega arith) (omega arith) ∙ long
