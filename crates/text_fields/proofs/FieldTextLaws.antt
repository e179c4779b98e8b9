-- Spellings have visible bytes alone.
use Rattle.std.proofs.Common.{◌≢◌, ◌<◌, ◌^◌, ◌/◌, ◌%◌, ℕ, Bool, true, false, List, [], ◌∷◌, ◌++◌, length, map, arith, ap}
use Rattle.std.specs.Prelude.{All}
use Rattle.std.specs.List.{flat_map}
use Rattle.std.specs.Fmt.{decimal}
use Rattle.std.proofs.lemmas.Bool.Decides.{nat_tests}
use Rattle.std.proofs.lemmas.Fmt.{decimal_is_IsNumeral}
use Rattle.std.proofs.lemmas.List.Elements.{All-append, All-cons, All-from_get_or, All-nil, All-weaker}
use Rattle.std.proofs.lemmas.Str.Parse.{digit_at}
use Rattle.text_fields.specs.Binary.{binary, binary_digit, hyphen, or_hyphen}
use Rattle.text_fields.specs.Hexadecimal.{hex_byte, hex_digit, hex_word, hex_words}
use Rattle.text_fields.specs.Lines.{IsFieldText, line_feed, space}

-- a byte above the space is neither the space nor a line feed
abbrev IsVisible : ℕ → Type 0
IsVisible byte = space < byte

IsFieldText-visible : (text : List ℕ) → text ≢ [] → All IsVisible text → IsFieldText text
IsFieldText-visible text filled visible = record {
  filled = filled;
  no_space = All-weaker IsVisible (λ byte. byte ≢ space) (λ byte above is. omega (arith, above, is)) text visible;
  no_line_feed = All-weaker IsVisible (λ byte. byte ≢ line_feed) (λ byte above is. omega (arith, above, is)) text visible;
}

-- a list or a hyphen is a field, where the list has visible bytes
IsFieldText-or_hyphen : (text : List ℕ) → All IsVisible text → IsFieldText (or_hyphen text)
IsFieldText-or_hyphen [] visible =
    IsFieldText-visible (hyphen ∷ []) (λ empty. cc) (All-cons IsVisible hyphen [] (omega arith) (All-nil IsVisible))
IsFieldText-or_hyphen (byte ∷ bytes) visible = IsFieldText-visible (byte ∷ bytes) (λ empty. cc) visible

pub IsFieldText-decimal : (n : ℕ) → n < 2 ^ 32 → IsFieldText (decimal n)
IsFieldText-decimal n small =
    let numeral = (decimal_is_IsNumeral n (omega arith)).0 in
    IsFieldText-visible (decimal n) (λ empty. let none = ap length empty in omega (arith, none, numeral.0))
    (All-from_get_or IsVisible (decimal n) 0 (λ place within. let digit = digit_at (decimal n) place numeral.1 within in omega (arith, digit.0)))

digits-visible : (bits : List Bool) → All IsVisible (map binary_digit bits)
digits-visible [] = All-nil IsVisible
digits-visible (false ∷ bits) = All-cons IsVisible 48 (map binary_digit bits) (omega arith) (digits-visible bits)
digits-visible (true ∷ bits) = All-cons IsVisible 49 (map binary_digit bits) (omega arith) (digits-visible bits)

pub IsFieldText-binary : (bits : List Bool) → IsFieldText (binary bits)
IsFieldText-binary bits = IsFieldText-or_hyphen (map binary_digit bits) (digits-visible bits)

hex_digit-visible : (n : ℕ) → IsVisible (hex_digit n)
hex_digit-visible n = grind (arith, nat_tests)

hex_byte-visible : (byte : ℕ) → All IsVisible (hex_byte byte)
hex_byte-visible byte =
    All-cons IsVisible (hex_digit (byte / 16)) (hex_digit (byte % 16) ∷ []) (hex_digit-visible (byte / 16))
    (All-cons IsVisible (hex_digit (byte % 16)) [] (hex_digit-visible (byte % 16)) (All-nil IsVisible))

hex_word-visible : (word : ℕ) → All IsVisible (hex_word word)
hex_word-visible word =
    All-append IsVisible (hex_byte (word / 256)) (hex_byte (word % 256)) (hex_byte-visible (word / 256)) (hex_byte-visible (word % 256))

hex_words-visible : (words : List ℕ) → All IsVisible (flat_map hex_word words)
hex_words-visible [] = All-nil IsVisible
hex_words-visible (word ∷ words) =
    All-append IsVisible (hex_word word) (flat_map hex_word words) (hex_word-visible word) (hex_words-visible words)

pub IsFieldText-hex_byte : (byte : ℕ) → IsFieldText (hex_byte byte)
IsFieldText-hex_byte byte = IsFieldText-visible (hex_byte byte) (λ empty. cc) (hex_byte-visible byte)

pub IsFieldText-hex_word : (word : ℕ) → IsFieldText (hex_word word)
IsFieldText-hex_word word = IsFieldText-visible (hex_word word) (λ empty. cc) (hex_word-visible word)

pub IsFieldText-hex_words : (words : List ℕ) → IsFieldText (hex_words words)
IsFieldText-hex_words words = IsFieldText-or_hyphen (flat_map hex_word words) (hex_words-visible words)

pub ruleset field_texts = (IsFieldText-decimal, IsFieldText-binary, IsFieldText-hex_byte, IsFieldText-hex_word, IsFieldText-hex_words)

-- one visible byte
pub IsFieldText-one : (byte : ℕ) → space < byte → IsFieldText (byte ∷ [])
IsFieldText-one byte above = IsFieldText-visible (byte ∷ []) (λ empty. cc) (All-cons IsVisible byte [] above (All-nil IsVisible))

-- two pieces one behind the other
pub IsFieldText-append : (front back : List ℕ) → IsFieldText front → IsFieldText back → IsFieldText (front ++ back)
IsFieldText-append [] back whole whole' = whole'
IsFieldText-append (byte ∷ bytes) back whole whole' = record {
  filled = λ empty. cc;
  no_space = All-append (λ each. each ≢ space) (byte ∷ bytes) back whole.no_space whole'.no_space;
  no_line_feed = All-append (λ each. each ≢ line_feed) (byte ∷ bytes) back whole.no_line_feed whole'.no_line_feed;
}

-- a visible byte before a field
pub IsFieldText-cons : (byte : ℕ) (text : List ℕ) → space < byte → IsFieldText text → IsFieldText (byte ∷ text)
IsFieldText-cons byte text above whole = IsFieldText-append (byte ∷ []) text (IsFieldText-one byte above) whole
