-- The fields of a line with one field more.
use Rattle.std.proofs.Common.{◌≡◌, ◌≢◌, ◌==◌, ℕ, Bool, true, false, List, [], ◌∷◌, ◌++◌, ap, refl, ◌∙◌, cond}
use Rattle.std.specs.Prelude.{codes}
use Rattle.std.specs.List.{onto_first}
use Rattle.text_fields.specs.Lines.{fields_of, space}
use Rattle.text_fields.proofs.LineLaws.{some_piece}
use Rattle.bench_lines.specs.LogText.{with_word}

-- a byte more before pieces, behind which a piece stands
byte_before : (cuts : Bool) (byte : ℕ) (pieces : List (List ℕ)) (last : List ℕ) → pieces ≢ []
    → cond cuts ([] ∷ (pieces ++ last ∷ [])) (onto_first byte (pieces ++ last ∷ [])) ≡ cond cuts ([] ∷ pieces) (onto_first byte pieces) ++ last ∷ []
byte_before cuts byte [] last some = absurd (some refl)
byte_before true byte (piece ∷ pieces) last some = refl
byte_before false byte (piece ∷ pieces) last some = refl

pub word_behind : (line : List ℕ) → fields_of (line ++ codes " 0000") ≡ with_word (fields_of line)
word_behind [] = refl
word_behind (byte ∷ line) =
    ap (λ (pieces : List (List ℕ)). cond (byte == space) ([] ∷ pieces) (onto_first byte pieces)) (word_behind line)
    ∙ byte_before (byte == space) byte (fields_of line) (codes "0000") (some_piece space line)

pub whole_fields : (line whole : List ℕ) → whole ≡ line ++ codes " 0000" → fields_of whole ≡ with_word (fields_of line)
whole_fields line whole is = ap (λ (text : List ℕ). fields_of text) is ∙ word_behind line
