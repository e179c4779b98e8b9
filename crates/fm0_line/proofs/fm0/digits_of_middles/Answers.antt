-- The lanes of a byte are the second places of four symbols.
use Rattle.std.proofs.Common.{◌≡◌, ◌∙◌, ◌*◌, ◌/◌, ◌%◌, ◌^◌, ◌<◌, ◌++◌, ℕ, zero, suc, List, [], ◌∷◌, map, pow_pos, ap, ap₂, refl, arith}
use Rattle.std.specs.Prelude.{bit_and}
use Rattle.std.specs.Simd.Lanes.{top}
use Rattle.std.proofs.Math.Bool.{cond}
use Rattle.std.proofs.lemmas.Bool.{eq-eqb, ne_eqb}
use Rattle.std.proofs.lemmas.Nat.Bits.{and_pow}
use Rattle.fm0_line.proofs.Places.{seconds, seconds_of}
use Rattle.fm0_line.proofs.fm0.digits_of_middles.Goals as goal
use lib.Dec.{eqb}

place-set : (n k : ℕ) → n < 2 → cond (top 7 (cond (eqb (n * 2 ^ k) (2 ^ k)) 255 0)) 1 0 ≡ n
place-set zero k small = rw (ne_eqb (0 * 2 ^ k) (2 ^ k) (λ none. omega (arith, pow_pos k)))
place-set (suc zero) k small = rw (eq-eqb (1 * 2 ^ k) (2 ^ k) (omega arith))
place-set (suc (suc n)) k small = absurd (omega arith)

place : (byte k : ℕ) → cond (top 7 (cond (eqb (bit_and byte (2 ^ k)) (2 ^ k)) 255 0)) 1 0 ≡ byte / 2 ^ k % 2
place byte k = rw (and_pow byte k) (place-set (byte / 2 ^ k % 2) k (omega arith))

-- the digits of a byte, from their lanes
abbrev lanes : ℕ → List ℕ
lanes byte = map (λ place. cond (top 7 (cond (eqb (bit_and byte place) place) 255 0)) 1 0) (2 ∷ 8 ∷ 32 ∷ 128 ∷ [])

-- a byte and what is left of the word behind it
joined : (word next n : ℕ) (digits : List ℕ) → next ≡ word / 256 → digits ≡ seconds n next → lanes (word % 256) ++ digits ≡ seconds (suc (suc (suc (suc n)))) word
joined word next n digits next_is rest =
    let byte = word % 256 in
    let first : byte / 2 ^ 1 % 2 ≡ word / 2 % 2 = omega arith in
    let second : byte / 2 ^ 3 % 2 ≡ word / 4 / 2 % 2 = omega arith in
    let third : byte / 2 ^ 5 % 2 ≡ word / 4 / 4 / 2 % 2 = omega arith in
    let fourth : byte / 2 ^ 7 % 2 ≡ word / 4 / 4 / 4 / 2 % 2 = omega arith in
    let left : next ≡ word / 4 / 4 / 4 / 4 = omega (arith, next_is) in
    let more : digits ≡ seconds n (word / 4 / 4 / 4 / 4) = rest ∙ ap (seconds n) left in
    let behind : List ℕ → ℕ → List ℕ = λ digits digit. digit ∷ digits in
    ap₂ behind (ap₂ behind (ap₂ behind (ap₂ behind more (place byte 7 ∙ fourth)) (place byte 5 ∙ third)) (place byte 3 ∙ second)) (place byte 1 ∙ first)

-- a word is four bytes
whole : (word : ℕ) → lanes (word % 256) ++ (lanes (word / 256 % 256) ++ (lanes (word / 65536 % 256) ++ lanes (word / 16777216 % 256))) ≡ seconds 16 word
whole word =
    joined word (word / 256) 12 _ refl
    (joined (word / 256) (word / 65536) 8 _ (omega arith) (joined (word / 65536) (word / 16777216) 4 _ (omega arith) (joined (word / 16777216) (word / 16777216 / 256) 0 [] refl refl)))

pub returns : goal.returns
returns c = λ places long is. rw c.to_le_bytes.ensures (whole c.args.stays ∙ ap (seconds 16) is ∙ seconds_of 16 places long)
