-- The register after a message and its CRC-16, and after nothing else.
use Rattle.std.proofs.Common.{◌≡◌, ℕ, zero, suc, ◌+◌, Bool, true, false, not, List, [], ◌∷◌, ◌++◌, length, length-append, append_assoc, replicate, refl, sym, ◌∙◌, ap, arith}
use Rattle.std.specs.Prelude.{map}
use Rattle.std.proofs.lemmas.List.{same_from_push}
use Rattle.gen2_crc.specs.Crc.{differ, minus, divide, remainder_of, others16, preset16, register_of, crc16_of, residue}
use Rattle.gen2_crc.specs.laws.Division.{one-bit, left_of, first-bit, length-one_bit, length-minus, remainder_of-none}
use Rattle.gen2_crc.proofs.DivisionSteps.{left_of-true, left_of-false, remainder_of-append}
use Rattle.gen2_crc.specs.laws.CheckNumbers.{length-register_of}
use Rattle.gen2_crc.proofs.Registers.{minus-front}

differ_cancel : (x y z : Bool) → differ x z ≡ differ y z → x ≡ y
differ_cancel true true z same = refl
differ_cancel true false true same = cc
differ_cancel true false false same = cc
differ_cancel false true true same = cc
differ_cancel false true false same = cc
differ_cancel false false z same = refl

minus_cancel : (xs ys zs : List Bool) → length xs ≡ length ys → minus xs zs ≡ minus ys zs → xs ≡ ys
minus_cancel [] [] zs lengths same = refl
minus_cancel [] (y ∷ ys) zs lengths same = absurd (omega arith)
minus_cancel (x ∷ xs) [] zs lengths same = absurd (omega arith)
minus_cancel (x ∷ xs) (y ∷ ys) [] lengths same = same
minus_cancel (x ∷ xs) (y ∷ ys) (z ∷ zs) lengths same =
    let first : differ x z ≡ differ y z = cc in
    let others : minus xs zs ≡ minus ys zs = cc in
    let head : x ≡ y = differ_cancel x y z first in
    let tail : xs ≡ ys = minus_cancel xs ys zs (omega arith) others in
    cc

minus-push : (xs ys : List Bool) (a b : Bool) → length xs ≡ length ys → minus (xs ++ a ∷ []) (ys ++ b ∷ []) ≡ minus xs ys ++ differ a b ∷ []
minus-push [] [] a b lengths = refl
minus-push [] (y ∷ ys) a b lengths = absurd (omega arith)
minus-push (x ∷ xs) [] a b lengths = absurd (omega arith)
minus-push (x ∷ xs) (y ∷ ys) a b lengths = ap (λ (rest : List Bool). differ x y ∷ rest) (minus-push xs ys a b (omega arith))

-- the coefficients but the last, which is 1
lower : List Bool
lower = false ∷ false ∷ false ∷ true ∷ false ∷ false ∷ false ∷ false ∷ false ∷ false ∷ true ∷ false ∷ false ∷ false ∷ false ∷ []

lower-last : others16 ≡ lower ++ true ∷ []
unfolding lower
lower-last = refl

length-lower : length lower ≡ 15
unfolding lower
length-lower = refl

-- a 0 shifted in: what leaves comes back as the last bit
after-zero : (x : Bool) (xs : List Bool) → length xs ≡ 15 → (front : List Bool) × (remainder_of (x ∷ xs) others16 (false ∷ []) ≡ front ++ x ∷ []) × (front ≡ left_of x xs lower)
after-zero true xs long = (
  minus xs lower,
  one-bit true false xs others16 ∙ left_of-true (minus (replicate (suc (length xs)) false) xs) others16
      ∙ ap (λ (bits : List Bool). minus bits others16) (minus-front xs) ∙ ap (λ (divisor : List Bool). minus (xs ++ false ∷ []) divisor) lower-last
      ∙ minus-push xs lower false true (long ∙ sym length-lower),
  sym (left_of-true xs lower),
)
after-zero false xs long = (
  xs,
  one-bit false false xs others16 ∙ left_of-false (minus (replicate (suc (length xs)) false) xs) others16 ∙ minus-front xs,
  sym (left_of-false xs lower),
)

left_cancel : (top : Bool) (xs ys : List Bool) → length xs ≡ length ys → left_of top xs lower ≡ left_of top ys lower → xs ≡ ys
left_cancel true xs ys lengths same = minus_cancel xs ys lower lengths (sym (left_of-true xs lower) ∙ same ∙ left_of-true ys lower)
left_cancel false xs ys lengths same = sym (left_of-false xs lower) ∙ same ∙ left_of-false ys lower

-- so a step with a 0 loses nothing
step_injective : (xs ys : List Bool) → length xs ≡ 16 → length ys ≡ 16 → remainder_of xs others16 (false ∷ []) ≡ remainder_of ys others16 (false ∷ []) → xs ≡ ys
step_injective [] ys p q same = absurd (omega arith)
step_injective (x ∷ xs) [] p q same = absurd (omega arith)
step_injective (x ∷ xs) (y ∷ ys) p q same =
    let left = after-zero x xs (omega arith) in
    let right = after-zero y ys (omega arith) in
    let ends : (left.0 ≡ right.0) × (x ≡ y) = same_from_push left.0 right.0 x y (sym left.1 ∙ same ∙ right.1) in
    let fronts : left_of x xs lower ≡ left_of y ys lower = sym left.2 ∙ ends.0 ∙ right.2 in
    let head : x ≡ y = ends.1 in
    let tail : xs ≡ ys = left_cancel x xs ys (omega arith) (fronts ∙ ap (λ b. left_of b ys lower) (sym head)) in
    cc

feed_injective : (n : ℕ) (xs ys : List Bool) → length xs ≡ 16 → length ys ≡ 16 → remainder_of xs others16 (replicate n false) ≡ remainder_of ys others16 (replicate n false) → xs ≡ ys
feed_injective zero xs ys p q same = sym (remainder_of-none xs others16) ∙ same ∙ remainder_of-none ys others16
feed_injective (suc n) xs ys p q same =
    step_injective xs ys p q (feed_injective n (remainder_of xs others16 (false ∷ [])) (remainder_of ys others16 (false ∷ []))
    (length-one_bit xs others16 false ∙ p) (length-one_bit ys others16 false ∙ q)
    (sym (first-bit xs others16 false (replicate n false) (omega arith) (omega arith)) ∙ same ∙ first-bit ys others16 false (replicate n false) (omega arith) (omega arith)))

-- a message as long as the register may be taken off the register first
moved : (xs ys zs : List Bool) → length xs ≡ length ys → minus (xs ++ zs) ys ≡ minus (replicate (length xs) false ++ zs) (minus xs ys)
moved [] [] zs lengths = refl
moved [] (y ∷ ys) zs lengths = absurd (omega arith)
moved (x ∷ xs) [] zs lengths = absurd (omega arith)
moved (x ∷ xs) (y ∷ ys) zs lengths = ap (λ (rest : List Bool). differ x y ∷ rest) (moved xs ys zs (omega arith))

pub taken_off : (register last : List Bool) → length register ≡ 16 → length last ≡ 16 → remainder_of register others16 last ≡ remainder_of (minus last register) others16 (replicate 16 false)
taken_off register last p q =
    let off : length (minus last register) ≡ length register = length-minus last register ∙ q ∙ sym p in
    ap (λ (bits : List Bool). divide (length last) others16 bits) (moved last register (replicate (length register) false) (q ∙ sym p))
    ∙ ap (λ n. divide n others16 (minus (replicate n false ++ replicate (length register) false) (minus last register))) q
    ∙ ap (λ n. divide 16 others16 (minus (replicate 16 false ++ replicate n false) (minus last register))) (sym off)

-- a shorter message too, with zeros behind it
pub octet_taken_off : (register last : List Bool) → length register ≡ 16 → length last ≡ 8 → remainder_of register others16 last ≡ remainder_of (minus (last ++ replicate 8 false) register) others16 (replicate 8 false)
octet_taken_off register last p q =
    let whole : List Bool = last ++ replicate 8 false in
    let long : length whole ≡ 16 = length-append last (replicate 8 false) ∙ ap (λ n. n + 8) q in
    let off : length (minus whole register) ≡ 16 = length-minus whole register ∙ long in
    let padded : last ++ replicate 16 false ≡ whole ++ replicate 8 false = sym (append_assoc last (replicate 8 false) (replicate 8 false)) in
    ap (λ n. divide n others16 (minus (last ++ replicate (length register) false) register)) q
    ∙ ap (λ n. divide 8 others16 (minus (last ++ replicate n false) register)) p
    ∙ ap (λ (bits : List Bool). divide 8 others16 (minus bits register)) padded
    ∙ ap (λ (bits : List Bool). divide 8 others16 bits) (moved whole register (replicate 8 false) (long ∙ sym p))
    ∙ ap (λ n. divide 8 others16 (minus (replicate n false ++ replicate 8 false) (minus whole register))) long
    ∙ ap (λ n. divide 8 others16 (minus (replicate 8 false ++ replicate n false) (minus whole register))) (sym off)

ones-residue : remainder_of (replicate 16 true) others16 (replicate 16 false) ≡ residue
unfolding divide
ones-residue = refl

head-complement : (x y : Bool) → differ x y ≡ true → x ≡ not y
head-complement true true same = cc
head-complement true false same = refl
head-complement false true same = refl
head-complement false false same = cc

ones-complement : (xs ys : List Bool) → length xs ≡ length ys → minus xs ys ≡ replicate (length ys) true → xs ≡ map not ys
ones-complement [] [] lengths same = refl
ones-complement [] (y ∷ ys) lengths same = absurd (omega arith)
ones-complement (x ∷ xs) [] lengths same = absurd (omega arith)
ones-complement (x ∷ xs) (y ∷ ys) lengths same =
    let first : differ x y ≡ true = cc in
    let others : minus xs ys ≡ replicate (length ys) true = cc in
    let tail : xs ≡ map not ys = ones-complement xs ys (omega arith) others in
    let head : x ≡ not y = head-complement x y first in
    cc

complement-ones : (ys : List Bool) → minus (map not ys) ys ≡ replicate (length ys) true
complement-ones [] = refl
complement-ones (true ∷ ys) = ap (λ (rest : List Bool). true ∷ rest) (complement-ones ys)
complement-ones (false ∷ ys) = ap (λ (rest : List Bool). true ∷ rest) (complement-ones ys)

pub residue_message : (bits front last : List Bool) → bits ≡ front ++ last → length last ≡ 16 → (register_of bits ≡ residue → last ≡ crc16_of front) × (last ≡ crc16_of front → register_of bits ≡ residue)
unfolding register_of crc16_of
residue_message bits front last split long =
    let register : List Bool = register_of front in
    let sixteen : length register ≡ 16 = length-register_of front in
    let whole : register_of bits ≡ remainder_of (minus last register) others16 (replicate 16 false) =
    ap register_of split ∙ remainder_of-append preset16 others16 front last (omega arith) (omega arith) ∙ taken_off register last sixteen long in
    let ones : replicate (length register) true ≡ replicate 16 true = ap (λ n. replicate n true) sixteen in (
      λ ends.
          ones-complement last register (long ∙ sym sixteen)
          (feed_injective 16 (minus last register) (replicate 16 true) (length-minus last register ∙ long) refl (sym whole ∙ ends ∙ sym ones-residue) ∙ sym ones),
      λ complement.
          whole ∙ ap (λ (r : List Bool). remainder_of r others16 (replicate 16 false)) (ap (λ (b : List Bool). minus b register) complement ∙ complement-ones register ∙ ones) ∙ ones-residue,
    )
