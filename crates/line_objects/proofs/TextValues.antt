-- A text as a value, where its bytes are one and where not.
use Rattle.std.proofs.Common.{◌≡◌, ◌≢◌, ◌⊎◌, inl, inr, ℕ, Bool, true, false, List, refl, sym, subst}
use Rattle.std.proofs.lemmas.Str.{IsUtf8-from_is_utf8, is_utf8-from_IsUtf8}
use Rattle.std.proofs.lemmas.Slice.Eq.{bytes_eq-Decides}
use Rattle.std.specs.Prelude.{bytes_eq, codes, if◌then◌else◌}
use Rattle.std.specs.Str.{IsUtf8, is_utf8}
use Rattle.serde_json.specs.Data.{null, string}
use Rattle.line_objects.specs.Values.{without_hyphen, text_value}

if_text : (test : Bool) (text : List ℕ) → test ≡ true → string text ≡ (if test then string text else null)
if_text test text is = rw is refl

if_none : (test : Bool) (text : List ℕ) → test ≡ false → null ≡ (if test then string text else null)
if_none test text is = rw is refl

split : (b : Bool) → (b ≡ true) ⊎ (b ≡ false)
split true = inl refl
split false = inr refl

not_equal : (one other : List ℕ) → one ≢ other → bytes_eq one other ≡ false
not_equal one other differ =
    elim (split (bytes_eq one other)) [ inl same ↦ absurd (differ ((bytes_eq-Decides one other).0 same)) | inr not ↦ not ]

-- a text is its value
pub text_is : (field letters : List ℕ) → letters ≡ without_hyphen field → IsUtf8 (without_hyphen field) → string letters ≡ text_value field
text_is field letters same is =
    subst (λ (text : List ℕ). string text ≡ text_value field) (sym same) (if_text (is_utf8 (without_hyphen field)) (without_hyphen field) (is_utf8-from_IsUtf8 (without_hyphen field) is))

-- and other bytes are null
pub text_none : (field : List ℕ) → ¬ IsUtf8 (without_hyphen field) → null ≡ text_value field
text_none field not =
    elim (split (is_utf8 (without_hyphen field))) [
      | inl is ↦ absurd (not (IsUtf8-from_is_utf8 (without_hyphen field) is))
      | inr is ↦ if_none (is_utf8 (without_hyphen field)) (without_hyphen field) is
    ]

-- a text that is no hyphen stands as it is
pub text_told : (text : List ℕ) → IsUtf8 text → text ≢ codes "-" → text_value text ≡ string text
text_told text is other =
    let differs : bytes_eq text (codes "-") ≡ false = not_equal text (codes "-") other in
    let same : without_hyphen text ≡ text = rw differs refl in
    sym (text_is text text (sym same) (subst IsUtf8 (sym same) is))
