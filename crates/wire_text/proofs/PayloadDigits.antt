-- The digits of a Lock's payload.
use Rattle.std.proofs.Common.{◌≡◌, ◌<◌, ◌≤◌, ◌^◌, ◌+◌, ◌*◌, ◌/◌, ◌%◌, ℕ, List, [], ◌∷◌, take, drop, ap, arith, refl, sym, ◌∙◌, length, Option, Some, None, IfSome, IsNone, IsSomeAnd}
use Rattle.text_fields.specs.Hexadecimal.{hex_digit, hex_word}
use Rattle.text_fields.proofs.ToldApart.{hex_word_told}
use Rattle.wire_text.specs.CommandText.{payload_digits}

-- the first four digits spell a word
pub upper_digits : (payload : ℕ) → payload ≤ 1048575 → take 4 (payload_digits payload) ≡ hex_word (payload / 16)
upper_digits n small =
    let first : n / 65536 ≡ n / 16 / 256 / 16 = omega arith in
    let second : n % 65536 / 256 / 16 ≡ n / 16 / 256 % 16 = omega arith in
    let third : n % 65536 / 256 % 16 ≡ n / 16 % 256 / 16 = omega arith in
    let fourth : n % 65536 % 256 / 16 ≡ n / 16 % 256 % 16 = omega arith in
    rw (first, second, third, fourth) refl

pub no_upper : (field : List ℕ) (payload : ℕ) → payload ≤ 1048575 → field ≡ payload_digits payload → take 4 field ≡ hex_word (payload / 16)
no_upper field payload small is = ap (take 4) is ∙ upper_digits payload small

-- the digits of a payload whose first digit and whose other digits are these
two_parts : (first others : ℕ) → others < 2 ^ 16 → payload_digits (first * 65536 + others) ≡ hex_digit first ∷ hex_word others
two_parts first others small =
    let upper : (first * 65536 + others) / 65536 ≡ first = omega arith in
    let lower : (first * 65536 + others) % 65536 ≡ others = omega arith in
    ap (λ (n : ℕ). hex_digit n ∷ hex_word ((first * 65536 + others) % 65536)) upper ∙ ap (λ (n : ℕ). hex_digit first ∷ hex_word n) lower

first_digit : (digit : ℕ) (rest : List ℕ) (word : ℕ) → take 4 (digit ∷ rest) ≡ hex_word word → digit ≡ hex_digit (word / 4096)
first_digit digit rest word upper =
    let same : word / 256 / 16 ≡ word / 4096 = omega arith in
    let first : digit ≡ hex_digit (word / 256 / 16) = cc in
    first ∙ ap hex_digit same

-- the first four digits of a field, and the last four, are those of these words
pub record HasWords (field : List ℕ) (upper lower : ℕ) : Type 0 where
  pub high : upper < 2 ^ 16
  pub low : lower < 2 ^ 16
  pub first : take 4 field ≡ hex_word upper
  pub others : drop 1 field ≡ hex_word lower

pub spelled_payload : (field : List ℕ) (upper lower : ℕ) → length field ≡ 5 → HasWords field upper lower → field ≡ payload_digits (upper / 4096 * 65536 + lower)
spelled_payload [] upper lower five words = absurd (omega (arith, five))
spelled_payload (digit ∷ rest) upper lower five words =
    ap (λ (n : ℕ). n ∷ rest) (first_digit digit rest upper words.first) ∙ ap (λ (list : List ℕ). hex_digit (upper / 4096) ∷ list) words.others
    ∙ sym (two_parts (upper / 4096) lower words.low)

-- the payload that was made of its parts
pub payload_is : (field : List ℕ) (result : Option ℕ) (payload : ℕ) → field ≡ payload_digits payload → payload ≤ 1048575
    → IfSome result (λ n. n ≡ payload) → IfSome result (λ n. (field ≡ payload_digits n) × (n ≤ 1048575))
payload_is field None payload spells small made = tt
payload_is field (Some n) payload spells small made = (spells ∙ ap payload_digits (sym made), omega (arith, made, small))

-- the words of the digits of a payload
pub payload_words : (field : List ℕ) (upper lower n : ℕ) → n ≤ 1048575 → HasWords field upper lower → field ≡ payload_digits n → upper / 4096 * 65536 + lower ≡ n
payload_words field upper lower n small words spells =
    let front = hex_word_told upper (n / 16) words.high (omega arith) (sym words.first ∙ no_upper field n small spells) in
    let back = hex_word_told lower (n % 65536) words.low (omega arith) (sym words.others ∙ ap (drop 1) spells) in
    omega (arith, front, back)

-- a payload that was made where there is room for it
pub payload_made : (result : Option ℕ) (value n : ℕ) → n ≤ 1048575 → value ≡ n → IfSome result (λ payload. payload ≡ value)
    → (IsNone result → 1048575 < value) → IsSomeAnd result (λ payload. payload ≡ n)
payload_made None value n small same made none =
    let above = none refl in
    omega (arith, above, same, small)
payload_made (Some payload) value n small same made none = made ∙ same

pub not_found : {A : Type 0} {x : A} → None ≡ Some x → ⊥
not_found found = cc
