-- What a level in the data gives (profile).
use Rattle.std.specs.Prelude.{◌≡◌, Bool, List, [], ◌∷◌, ◌++◌, length}
use Rattle.bit_strings.specs.Family.{IsBadAt}
use Rattle.line_code.specs.Table.{Table}
use Rattle.line_code.specs.Stream.{Streams}
use Rattle.line_code.specs.States.{Buffer, Reads}
use Rattle.line_code.specs.declared.states.Within.{Within}
use Rattle.line_code.specs.declared.states.Within.TheVariants.{Inside, Refused}

-- the answer to one more level, by the levels before it and by the buffer before it and behind it: the buffer
-- ended with the bits of the levels before, and now ends with those of all levels
abbrev pub AfterInside : {C Mark : Type 0} → Table → Bool → List Bool → Bool → Buffer → Within C Mark → Type 0
AfterInside t trext levels level buffer (Inside state) =
    (bits : List Bool) × Reads t trext state (levels ++ level ∷ []) bits × (buffer.new ≡ buffer.stood ++ bits)
AfterInside t trext levels level buffer (Refused place) =
    (place ≡ length levels) × IsBadAt (Streams t trext) (levels ++ level ∷ []) place × (buffer.new ≡ buffer.old)
