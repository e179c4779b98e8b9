-- How an extensible bit vector is written block by block.
use Rattle.std.proofs.Common.{◌≡◌, ℕ, zero, suc, ◌+◌, ◌*◌, ◌/◌, ◌%◌, ◌^◌, ◌<◌, ◌≤◌, Bool, true, false, List, [], ◌∷◌, ◌++◌, length, sym, ◌∙◌, ap, inl, inr, arith, length-append, append_assoc, append-nil}
use Rattle.std.specs.Prelude.{nat_lt}
use Rattle.std.proofs.Math.Nat.{div-one}
use Rattle.std.proofs.lemmas.Bool.{cases_lt}
use Rattle.bit_strings.specs.NumbersInBits.{field_of}
use Rattle.bit_strings.specs.laws.NumbersInBits.{length-field_of, field_of-mod}
use Rattle.bit_strings.specs.Ebv.{ebv_of}
use Rattle.bit_strings.specs.laws.Ebv.{ebv_of-one, ebv_of-two, ebv_of-three, ebv_of-four}

-- the last so many blocks of a number
unfoldable pub last_blocks : ℕ → ℕ → List Bool
last_blocks number zero = []
last_blocks number (suc zero) = false ∷ field_of number 7
last_blocks number (suc (suc left)) = true ∷ field_of (number / 128 ^ suc left) 7 ++ last_blocks number (suc left)

pub length-one : (n : ℕ) → n < 128 → length (ebv_of n) ≡ 8
length-one n small = rw (ebv_of-one n small) (simp length-field_of)

pub length-two : (n : ℕ) → 128 ≤ n → n < 16384 → length (ebv_of n) ≡ 16
length-two n large small = rw (ebv_of-two n large small) (simp (length-append, length-field_of))

pub length-three : (n : ℕ) → 16384 ≤ n → n < 2097152 → length (ebv_of n) ≡ 24
length-three n large small = rw (ebv_of-three n large small) (simp (length-append, length-field_of))

pub length-four : (n : ℕ) → 2097152 ≤ n → length (ebv_of n) ≡ 32
length-four n large = rw (ebv_of-four n large) (simp (length-append, length-field_of))

-- the vector is the blocks that the number takes
pub ebv_of-blocks : (number blocks : ℕ) → 8 * blocks ≡ length (ebv_of number) → ebv_of number ≡ last_blocks number blocks
unfolding last_blocks
ebv_of-blocks number blocks counted =
    elim (cases_lt number 128) [
      | inl one ↦
          let count : 1 ≡ blocks = omega (arith, length-one number one) in
          ebv_of-one number one ∙ ap (λ n. last_blocks number n) count
      | inr above ↦ elim (cases_lt number 16384) [
        | inl two ↦
            let count : 2 ≡ blocks = omega (arith, length-two number above two) in
            ebv_of-two number above two ∙ ap (λ n. last_blocks number n) count
        | inr above2 ↦ elim (cases_lt number 2097152) [
          | inl three ↦
              let count : 3 ≡ blocks = omega (arith, length-three number above2 three) in
              ebv_of-three number above2 three ∙ ap (λ n. last_blocks number n) count
          | inr above3 ↦
              let count : 4 ≡ blocks = omega (arith, length-four number above3) in
              ebv_of-four number above3 ∙ ap (λ n. last_blocks number n) count
        ]
      ]
    ]

-- one block further on
pub last_blocks-more : (number blocks left : ℕ) → left < 4 → blocks ≡ left + 1 → last_blocks number blocks ≡ nat_lt 0 left ∷ field_of (number / 2 ^ (7 * left) % 128) 7 ++ last_blocks number left
unfolding last_blocks
last_blocks-more number blocks zero few step =
    let digit : field_of (number / 1 % 128) 7 ≡ field_of number 7 = field_of-mod (number / 1) 7 ∙ ap (λ n. field_of n 7) (div-one number) in
    let whole : false ∷ (field_of (number / 1 % 128) 7 ++ []) ≡ false ∷ field_of number 7 = rw (append-nil, digit) in
    ap (λ n. last_blocks number n) step ∙ sym whole
last_blocks-more number blocks (suc zero) few step = rw (field_of-mod (number / 128) 7) (ap (λ n. last_blocks number n) step)
last_blocks-more number blocks (suc (suc zero)) few step = rw (field_of-mod (number / 16384) 7) (ap (λ n. last_blocks number n) step)
last_blocks-more number blocks (suc (suc (suc zero))) few step = rw (field_of-mod (number / 2097152) 7) (ap (λ n. last_blocks number n) step)
last_blocks-more number blocks (suc (suc (suc (suc left)))) few step = absurd (omega arith)

pub last_blocks-none : (number left : ℕ) → left ≤ 0 → last_blocks number left ≡ []
unfolding last_blocks
last_blocks-none number left none = let same : left ≡ 0 = omega arith in ap (λ n. last_blocks number n) same

-- the loop's step: the next block stands behind those that stood there
pub block_more : (front whole : List Bool) (number blocks left : ℕ) → left < 4 → blocks ≡ left + 1 → front ++ last_blocks number blocks ≡ whole → ((front ++ nat_lt 0 left ∷ []) ++ field_of (number / 2 ^ (7 * left) % 128) 7) ++ last_blocks number left ≡ whole
block_more front whole number blocks left few step so_far =
    append_assoc (front ++ nat_lt 0 left ∷ []) (field_of (number / 2 ^ (7 * left) % 128) 7) (last_blocks number left)
    ∙ append_assoc front (nat_lt 0 left ∷ []) (field_of (number / 2 ^ (7 * left) % 128) 7 ++ last_blocks number left)
    ∙ ap (λ (more : List Bool). front ++ more) (sym (last_blocks-more number blocks left few step))
    ∙ so_far

pub blocks_all : (front whole : List Bool) (number left : ℕ) → left ≤ 0 → front ++ last_blocks number left ≡ whole → front ≡ whole
blocks_all front whole number left none so_far =
    sym (append-nil front) ∙ ap (λ (more : List Bool). front ++ more) (sym (last_blocks-none number left none)) ∙ so_far
