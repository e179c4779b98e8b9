-- Fields of which the first is a number.
use Rattle.std.proofs.Common.{◌≡◌, ℕ, List, ◌∷◌, Some, None, sym, ◌∙◌}
use Rattle.std.specs.Fmt.{decimal}
use Rattle.scenario_lines.proofs.ToldLines.{same_fields}

-- the first field is the number, and the others stand behind it
pub first_number : {others : List (List ℕ)} (field : List ℕ) (rest rest' : List (List ℕ)) (n : ℕ) → others ≡ field ∷ rest
    → others ≡ decimal n ∷ rest' → (field ≡ decimal n) × (rest ≡ rest')
first_number field rest rest' n first spells = same_fields field (decimal n) rest rest' (sym first ∙ spells)

pub not_found : {A : Type 0} {x : A} → None ≡ Some x → ⊥
not_found found = cc
