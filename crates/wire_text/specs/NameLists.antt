-- Values that have names in a text, and the value of a name.
use Rattle.std.specs.Prelude.{◌≡◌, ℕ, List, [], ◌∷◌, Option, Some, None, cond, refl}
use Rattle.std.specs.Str.{bytes_eq}
use Rattle.command_grammar.specs.declared.kinds.CommandKind.TheVariants as kinds
use Rattle.command_grammar.specs.Commands.{all_kinds}
use Rattle.wire_text.specs.CommandText.{command_name}

-- the first of these values that has the name
abbrev pub first_named : {V : Type 0} → (V → List ℕ) → List ℕ → List V → Option V
first_named word name [] = None
first_named word name (value ∷ others) = cond (bytes_eq (word value) name) (Some value) (first_named word name others)

-- each value is the first of these that has its name
abbrev pub EachFound : {V : Type 0} → (V → List ℕ) → List V → Type 0
EachFound word values = (value : _) → first_named word (word value) values ≡ Some value

-- each command is found by its name
pub command_found : EachFound command_name all_kinds
command_found kinds.QueryRep = refl
command_found kind = refl
