-- Lists of words and their digits.
use Rattle.std.proofs.Common.{◌≡◌, ◌≢◌, ◌<◌, ◌≤◌, ◌^◌, ◌/◌, ◌%◌, ◌+◌, ◌*◌, ℕ, suc, true, List, [], ◌∷◌, ◌++◌, length, map, take, take_all, slice_index, Some, Ok, arith, ap, sym, ◌∙◌, refl, subst}
use Rattle.std.specs.Prelude.{All, None, max, min, slice_get}
use Rattle.std.specs.List.{AllPass, flat_map}
use Rattle.std.specs.Simd.{first_chunks}
use Rattle.std.proofs.lemmas.Bool.Decides.{nat_tests}
use Rattle.std.proofs.lemmas.List.Elements.{All-append, All-cons, All-get_or, All-head, All-nil, All-tail, All-take}
use Rattle.hex.specs.Hex.{decode_pairs, decode_sized, hex_digit_value}
use Rattle.text_fields.specs.Binary.{hyphen}
use Rattle.text_fields.specs.Hexadecimal.{hex_byte, hex_digit, hex_word}
use Rattle.text_fields.specs.WordLists.{AreWordDigits, digit_number, first_word, is_upper_hex_digit, word_number, words_of_digits}

-- the fact of `AllPass is_upper_hex_digit`
abbrev pub IsDigit : ℕ → Type 0
IsDigit digit = is_upper_hex_digit digit ≡ true

abbrev IsSmall : ℕ → Type 0
IsSmall word = word < 2 ^ 16

-- the digit of a digit's number
digit_back : (digit : ℕ) → IsDigit digit → hex_digit (digit_number digit) ≡ digit
digit_back digit is = grind (arith, nat_tests)

pub number_small : (digit : ℕ) → digit_number digit < 16
number_small digit = grind (arith, nat_tests)

-- the number of a number's digit
number_back : (n : ℕ) → n < 16 → digit_number (hex_digit n) ≡ n
number_back n small = grind (arith, nat_tests)

hex_digit_is_digit : (n : ℕ) → n < 16 → IsDigit (hex_digit n)
hex_digit_is_digit n small = grind (arith, nat_tests)

-- the four digits of four numbers below 16
four_back : (a b c d : ℕ) → a < 16 → b < 16 → c < 16 → d < 16
    → hex_word (((a * 16 + b) * 16 + c) * 16 + d) ≡ hex_digit a ∷ hex_digit b ∷ hex_digit c ∷ hex_digit d ∷ []
four_back a b c d a_small b_small c_small d_small =
    let n = ((a * 16 + b) * 16 + c) * 16 + d in
    let first : n / 256 / 16 ≡ a = omega arith in
    let second : n / 256 % 16 ≡ b = omega arith in
    let third : n % 256 / 16 ≡ c = omega arith in
    let fourth : n % 256 % 16 ≡ d = omega arith in
    rw (first, second, third, fourth) refl

-- four digits are the digits of their word
word_spelled : (a b c d : ℕ) → IsDigit a → IsDigit b → IsDigit c → IsDigit d → hex_word (word_number a b c d) ≡ a ∷ b ∷ c ∷ d ∷ []
word_spelled a b c d a_is b_is c_is d_is =
    four_back (digit_number a) (digit_number b) (digit_number c) (digit_number d) (number_small a) (number_small b) (number_small c) (number_small d)
    ∙ rw (digit_back a a_is, digit_back b b_is, digit_back c c_is, digit_back d d_is) refl

word_small : (a b c d : ℕ) → IsSmall (word_number a b c d)
word_small a b c d = omega (arith, number_small a, number_small b, number_small c, number_small d)

-- a word's digits have its number
word_back : (word : ℕ) → IsSmall word
    → word_number (hex_digit (word / 256 / 16)) (hex_digit (word / 256 % 16)) (hex_digit (word % 256 / 16)) (hex_digit (word % 256 % 16)) ≡ word
word_back word small =
    let first = number_back (word / 256 / 16) (omega arith) in
    let second = number_back (word / 256 % 16) (omega arith) in
    let third = number_back (word % 256 / 16) (omega arith) in
    let fourth = number_back (word % 256 % 16) (omega arith) in
    rw (first, second, third, fourth) (omega arith)

-- the digit at a place
pub digit_at : (digits : List ℕ) (place : ℕ) → place < length digits → AllPass is_upper_hex_digit digits → IsDigit (slice_index digits place)
digit_at digits place within are = All-get_or IsDigit digits place 0 within are

-- a digit has the bounds of digits
pub digit_within : (digit : ℕ) → IsDigit digit → max 48 (min digit 70) ≡ digit
digit_within digit is = grind (arith, nat_tests)

-- a digit behind a zero is read as its number
pub digit_read : (digit : ℕ) → IsDigit digit → decode_sized (48 ∷ digit ∷ []) 1 ≡ Ok (digit_number digit ∷ [])
unfolding decode_pairs
digit_read digit is =
    let value : hex_digit_value digit ≡ Some (digit_number digit) = grind (arith, nat_tests) in
    let sum : 0 + digit_number digit ≡ digit_number digit = omega arith in
    rw value (ap (λ (n : ℕ). Ok (n ∷ [])) sum)

-- the number of a byte by its two digits
abbrev pub byte_number : List ℕ → ℕ
byte_number digits = digit_number (slice_index digits 0) * 16 + digit_number (slice_index digits 1)

two_back : (a b : ℕ) → a < 16 → b < 16 → hex_byte (a * 16 + b) ≡ hex_digit a ∷ hex_digit b ∷ []
two_back a b a_small b_small =
    let first : (a * 16 + b) / 16 ≡ a = omega arith in
    let second : (a * 16 + b) % 16 ≡ b = omega arith in
    rw (first, second) refl

-- two digits are the digits of their byte
pub byte_spelled : (digits : List ℕ) (byte : ℕ) → length digits ≡ 2 → AllPass is_upper_hex_digit digits → byte ≡ byte_number digits → digits ≡ hex_byte byte
byte_spelled [] byte two are is = absurd (omega arith)
byte_spelled (a ∷ []) byte two are is = absurd (omega arith)
byte_spelled (a ∷ b ∷ []) byte two are is =
    let a_is = All-head IsDigit a (b ∷ []) are in
    let b_is = All-head IsDigit b [] (All-tail IsDigit a (b ∷ []) are) in
    sym (ap (λ n. hex_byte n) is ∙ two_back (digit_number a) (digit_number b) (number_small a) (number_small b)
    ∙ rw (digit_back a a_is, digit_back b b_is) refl)
byte_spelled (a ∷ b ∷ c ∷ digits) byte two are is = absurd (omega arith)

-- a byte's digits have its number
pub byte_back : (byte : ℕ) → byte < 2 ^ 8 → byte_number (hex_byte byte) ≡ byte
byte_back byte small =
    let high = number_back (byte / 16) (omega arith) in
    let low = number_back (byte % 16) (omega arith) in
    rw (high, low) (omega arith)

pub ruleset byte_digits = (digit_at, byte_spelled, byte_back)

-- four digits in two bytes are those of a word
in_bytes : (a b c d : ℕ) → (a * 16 + b) * 256 + (c * 16 + d) ≡ ((a * 16 + b) * 16 + c) * 16 + d
in_bytes a b c d = omega arith

pub word_is : (digits : List ℕ) → length digits ≡ 4
    → (digit_number (slice_index digits 0) * 16 + digit_number (slice_index digits 1)) * 256
    + (digit_number (slice_index digits 2) * 16 + digit_number (slice_index digits 3)) ≡ first_word digits
word_is [] four = absurd (omega arith)
word_is (a ∷ []) four = absurd (omega arith)
word_is (a ∷ b ∷ []) four = absurd (omega arith)
word_is (a ∷ b ∷ c ∷ []) four = absurd (omega arith)
word_is (a ∷ b ∷ c ∷ d ∷ []) four = in_bytes (digit_number a) (digit_number b) (digit_number c) (digit_number d)
word_is (a ∷ b ∷ c ∷ d ∷ e ∷ digits) four = absurd (omega arith)

pub words_spelled : (digits : List ℕ) → AllPass is_upper_hex_digit digits → length digits % 4 ≡ 0 → digits ≡ flat_map hex_word (words_of_digits digits)
words_spelled [] are four = refl
words_spelled (a ∷ []) are four = absurd (omega arith)
words_spelled (a ∷ b ∷ []) are four = absurd (omega arith)
words_spelled (a ∷ b ∷ c ∷ []) are four = absurd (omega arith)
words_spelled (a ∷ b ∷ c ∷ d ∷ digits) are four =
    let bs = All-tail IsDigit a (b ∷ c ∷ d ∷ digits) are in
    let cs = All-tail IsDigit b (c ∷ d ∷ digits) bs in
    let ds = All-tail IsDigit c (d ∷ digits) cs in
    let rest = words_spelled digits (All-tail IsDigit d digits ds) (omega arith) in
    ap (λ (list : List ℕ). a ∷ b ∷ c ∷ d ∷ list) rest
    ∙ ap (λ (list : List ℕ). list ++ flat_map hex_word (words_of_digits digits))
    (sym (word_spelled a b c d (All-head IsDigit a (b ∷ c ∷ d ∷ digits) are) (All-head IsDigit b (c ∷ d ∷ digits) bs) (All-head IsDigit c (d ∷ digits) cs) (All-head IsDigit d digits ds)))

pub words_small : (digits : List ℕ) → All (λ word. word < 2 ^ 16) (words_of_digits digits)
words_small [] = All-nil IsSmall
words_small (a ∷ []) = All-nil IsSmall
words_small (a ∷ b ∷ []) = All-nil IsSmall
words_small (a ∷ b ∷ c ∷ []) = All-nil IsSmall
words_small (a ∷ b ∷ c ∷ d ∷ digits) = All-cons IsSmall (word_number a b c d) (words_of_digits digits) (word_small a b c d) (words_small digits)

pub words_length : (digits : List ℕ) → length (words_of_digits digits) ≡ length digits / 4
words_length [] = refl
words_length (a ∷ []) = refl
words_length (a ∷ b ∷ []) = refl
words_length (a ∷ b ∷ c ∷ []) = refl
words_length (a ∷ b ∷ c ∷ d ∷ digits) = omega (arith, words_length digits)

pub words_back : (words : List ℕ) → All (λ word. word < 2 ^ 16) words → words_of_digits (flat_map hex_word words) ≡ words
words_back [] small = refl
words_back (word ∷ words) small =
    rw (word_back word (All-head IsSmall word words small), words_back words (All-tail IsSmall word words small)) refl

pub digits_length : (words : List ℕ) → length (flat_map hex_word words) ≡ 4 * length words
digits_length [] = refl
digits_length (word ∷ words) = omega (arith, digits_length words)

byte_passes : (byte : ℕ) → byte < 2 ^ 8 → AllPass is_upper_hex_digit (hex_byte byte)
byte_passes byte fits =
    let low = hex_digit (byte % 16) in
    All-cons IsDigit (hex_digit (byte / 16)) (low ∷ []) (hex_digit_is_digit (byte / 16) (omega arith))
    (All-cons IsDigit low [] (hex_digit_is_digit (byte % 16) (omega arith)) (All-nil IsDigit))

pub word_passes : (word : ℕ) → IsSmall word → AllPass is_upper_hex_digit (hex_word word)
word_passes word fits =
    All-append IsDigit (hex_byte (word / 256)) (hex_byte (word % 256)) (byte_passes (word / 256) (omega arith)) (byte_passes (word % 256) (omega arith))

pub digits_pass : (words : List ℕ) → All (λ word. word < 2 ^ 16) words → AllPass is_upper_hex_digit (flat_map hex_word words)
digits_pass [] small = All-nil IsDigit
digits_pass (word ∷ words) small =
    let first = word_passes word (All-head IsSmall word words small) in
    All-append IsDigit (hex_word word) (flat_map hex_word words) first (digits_pass words (All-tail IsSmall word words small))

-- the digits of words are not the hyphen
pub digits_no_hyphen : (words : List ℕ) → flat_map hex_word words ≢ hyphen ∷ []
digits_no_hyphen words same = omega (arith, digits_length words, ap length same)

-- digits that spell words are upper-case hexadecimal digits
pub digits_upper : (digits : List ℕ) → AreWordDigits digits → AllPass is_upper_hex_digit digits
digits_upper digits are = subst (λ list. AllPass is_upper_hex_digit list) (sym are.spelling) (digits_pass (words_of_digits digits) (words_small digits))

-- ... and so are the first four of them
pub first_upper : (digits front : List ℕ) → AreWordDigits digits → front ≡ take 4 digits → AllPass is_upper_hex_digit front
first_upper digits front are is = subst (λ list. AllPass is_upper_hex_digit list) (sym is) (All-take IsDigit 4 digits (digits_upper digits are))

-- where there are four digits there is a first word, and else there is none
pub first_is : (digits : List ℕ) → 4 ≤ length digits → slice_get (words_of_digits digits) 0 ≡ Some (first_word (take 4 digits))
first_is [] enough = absurd (omega arith)
first_is (a ∷ []) enough = absurd (omega arith)
first_is (a ∷ b ∷ []) enough = absurd (omega arith)
first_is (a ∷ b ∷ c ∷ []) enough = absurd (omega arith)
first_is (a ∷ b ∷ c ∷ d ∷ digits) enough = refl

pub no_word : (digits : List ℕ) → length digits < 4 → slice_get (words_of_digits digits) 0 ≡ None
no_word [] few = refl
no_word (a ∷ []) few = refl
no_word (a ∷ b ∷ []) few = refl
no_word (a ∷ b ∷ c ∷ []) few = refl
no_word (a ∷ b ∷ c ∷ d ∷ digits) few = absurd (omega arith)

-- the words of digits are those of their groups of four
pub words_in_groups : (digits : List ℕ) → map first_word (first_chunks 4 (length digits / 4) digits) ≡ words_of_digits digits
words_in_groups [] = refl
words_in_groups (a ∷ []) = refl
words_in_groups (a ∷ b ∷ []) = refl
words_in_groups (a ∷ b ∷ c ∷ []) = refl
words_in_groups (a ∷ b ∷ c ∷ d ∷ digits) =
    let count : length (a ∷ b ∷ c ∷ d ∷ digits) / 4 ≡ suc (length digits / 4) = omega arith in
    ap (λ (n : ℕ). map first_word (first_chunks 4 n (a ∷ b ∷ c ∷ d ∷ digits))) count
    ∙ ap (λ (words : List ℕ). word_number a b c d ∷ words) (words_in_groups digits)

-- a field of four digits spells their word
pub one_word : (field digits : List ℕ) (word : ℕ) → length field ≡ 4 → AllPass is_upper_hex_digit field → digits ≡ take 4 field → word ≡ first_word digits → field ≡ hex_word word
one_word [] digits word four upper front is = absurd (omega arith)
one_word (a ∷ []) digits word four upper front is = absurd (omega arith)
one_word (a ∷ b ∷ []) digits word four upper front is = absurd (omega arith)
one_word (a ∷ b ∷ c ∷ []) digits word four upper front is = absurd (omega arith)
one_word (a ∷ b ∷ c ∷ d ∷ []) digits word four upper front is =
    words_spelled (a ∷ b ∷ c ∷ d ∷ []) upper refl ∙ ap (λ n. hex_word n) (sym (is ∙ ap (λ ds. first_word ds) front))
one_word (a ∷ b ∷ c ∷ d ∷ e ∷ field) digits word four upper front is = absurd (omega arith)

-- and no other word
pub same_word : (word : ℕ) → IsSmall word → first_word (hex_word word) ≡ word
same_word word small = word_back word small

pub ruleset word_digits = (one_word, same_word, take_all)

pub ruleset first_digits = (first_upper, first_is, no_word)
