-- What a text has gained after several pieces.
use Rattle.std.proofs.Common.{◌≡◌, ℕ, List, [], ◌∷◌, ◌++◌}
use Rattle.std.proofs.lemmas.List.{append_assoc}
use Rattle.text_fields.specs.Lines.{line_with, space}

-- after three fields, the last of them in two pieces
pub three_fields : {s r : List ℕ} (start a b c : List ℕ) → s ≡ start ++ space ∷ a → r ≡ s ++ space ∷ b →
    (r ++ space ∷ []) ++ c ≡ start ++ space ∷ line_with (a ∷ b ∷ c ∷ [])
three_fields start a b c f g = rw (g, f) (simp append_assoc)

-- after the front of a line and the fields behind it, with the end of the line
pub whole_line : {s : List ℕ} (start front fields end : List ℕ) → s ≡ start ++ front
    → s ++ space ∷ (fields ++ end) ≡ start ++ ((front ++ space ∷ fields) ++ end)
whole_line start front fields end f = rw f (simp append_assoc)
