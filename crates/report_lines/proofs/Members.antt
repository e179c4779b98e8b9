-- The members of an object, and what is written for them.
use Rattle.std.proofs.Common.{◌≡◌, ◌<◌, ◌^◌, ◌||◌, ℕ, Bool, true, false, List, [], ◌∷◌, ◌++◌, ◌∙◌, ap, ap₂, refl, sym, subst}
use Rattle.std.proofs.lemmas.Fmt.{IsAscii-decimal}
use Rattle.std.proofs.lemmas.Str.{IsUtf8-append, IsUtf8-from_ascii, IsUtf8-nil}
use Rattle.std.specs.Str.{IsUtf8}
use Rattle.json.proofs.Printed.Utf8.{IsUtf8-are_ascii, IsUtf8-quoted, are_ascii}
use Rattle.json.specs.Print.{quoted}
use Rattle.serde_json.proofs.FreeTexts.{text_of_value}
use Rattle.serde_json.specs.Data.{Data, number, string, object, unsigned}
use Rattle.serde_json.specs.Written.{comma_if, compact_text, has_float, members_have_float, members_text}
use Rattle.report_lines.specs.JsonLines.{members_in}
use Rattle.report_lines.specs.JsonObject.{IsJsonOf, SendsPairs}
use Rattle.text_fields.specs.Lines.{line_feed}

-- a text that is UTF-8, or a number of 64 bits without a sign
abbrev pub IsSimple : Data → Type 0
IsSimple (string text) = IsUtf8 text
IsSimple (number (unsigned n)) = n < 2 ^ 64
IsSimple value = ⊥

-- keys that are ASCII, with such values
abbrev pub AreSimple : List (List ℕ × Data) → Type 0
AreSimple [] = Unit {0}
AreSimple (pair ∷ pairs) = (are_ascii pair.0 ≡ true) × IsSimple pair.1 × AreSimple pairs

-- such a value has no floating-point number, and its text is UTF-8
value_simple : (value : Data) → IsSimple value → (has_float value ≡ false) × IsUtf8 (compact_text value)
value_simple (number (unsigned n)) is = (refl, IsUtf8-from_ascii _ (IsAscii-decimal n is))
value_simple (string text) is = (refl, IsUtf8-quoted text is)
value_simple value is = absurd is

comma_utf8 : (later : Bool) → IsUtf8 (comma_if later)
comma_utf8 true = IsUtf8-are_ascii (44 ∷ []) refl
comma_utf8 false = IsUtf8-nil

members_simple : (later : Bool) (pairs : List (List ℕ × Data)) → AreSimple pairs
    → (members_have_float (members_in pairs) ≡ false) × IsUtf8 (members_text later (members_in pairs))
members_simple later [] are = (refl, IsUtf8-are_ascii (125 ∷ []) refl)
members_simple later (pair ∷ pairs) are =
    let here = value_simple pair.1 are.1 in
    let others = members_simple true pairs are.2 in
    let value = IsUtf8-append (compact_text pair.1) _ here.1 others.1 in
    let key = IsUtf8-append (quoted pair.0) _ (IsUtf8-quoted pair.0 (IsUtf8-are_ascii pair.0 are.0)) (IsUtf8-append (58 ∷ []) _ (IsUtf8-are_ascii (58 ∷ []) refl) value) in
    (ap₂ (λ (one other : Bool). one || other) here.0 others.0, IsUtf8-append (comma_if later) _ (comma_utf8 later) key)

-- what is written for an object
pub written : (pairs : List (List ℕ × Data)) (bytes : List ℕ) → AreSimple pairs → IsJsonOf (SendsPairs pairs) bytes → bytes ≡ compact_text (object (members_in pairs))
written pairs bytes are is = text_of_value (object (members_in pairs)) is.0 bytes is.1 is.2 (members_simple false pairs are).0

-- ... is UTF-8
pub written_utf8 : (pairs : List (List ℕ × Data)) (bytes : List ℕ) → AreSimple pairs → IsJsonOf (SendsPairs pairs) bytes → IsUtf8 bytes
written_utf8 pairs bytes are is =
    subst IsUtf8 (sym (written pairs bytes are is)) (IsUtf8-append (123 ∷ []) _ (IsUtf8-are_ascii (123 ∷ []) refl) (members_simple false pairs are).1)

-- a line that was written for an object of these pairs
pub line_written : (pairs others : List (List ℕ × Data)) (bytes old new : List ℕ) → AreSimple pairs → pairs ≡ others → IsJsonOf (SendsPairs pairs) bytes →
    new ≡ old ++ (bytes ++ line_feed ∷ []) → new ≡ old ++ (compact_text (object (members_in others)) ++ line_feed ∷ [])
line_written pairs others bytes old new are same is more =
    more
    ∙ ap (λ (text : List ℕ). old ++ (text ++ line_feed ∷ [])) (written pairs bytes are is ∙ ap (λ (ps : List (List ℕ × Data)). compact_text (object (members_in ps))) same)
