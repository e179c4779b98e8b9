-- What a text has gained after two pieces.
use Rattle.std.proofs.Common.{◌≡◌, ℕ, List, ◌∷◌, ◌++◌}
use Rattle.std.proofs.lemmas.List.{append_assoc}
use Rattle.text_fields.specs.Lines.{space}

-- after a front, and then a space and a name
pub front_and_name : (start middle front name wanted : List ℕ) → middle ≡ start ++ front → name ≡ wanted
    → middle ++ space ∷ name ≡ start ++ (front ++ space ∷ wanted)
front_and_name start middle front name wanted m n = rw (m, n) (append_assoc start front (space ∷ wanted))
