-- What a level before the data gives (profile).
use Rattle.std.specs.Prelude.{◌≡◌, Bool, List, [], ◌∷◌, ◌++◌, length}
use Rattle.bit_strings.specs.Family.{IsBadAt}
use Rattle.line_code.specs.Table.{Table}
use Rattle.line_code.specs.Stream.{Streams}
use Rattle.line_code.specs.States.{Seeks, Reads}
use Rattle.line_code.specs.declared.states.Sought.{Sought}
use Rattle.line_code.specs.declared.states.Sought.TheVariants.{Seeking, Inside, Refused}

-- the answer to one more level, by the levels before it
abbrev pub AfterSeeking : {C Mark : Type 0} → Table → Bool → List Bool → Bool → Sought C Mark → Type 0
AfterSeeking t trext levels level (Seeking state) = Seeks t trext state (levels ++ level ∷ [])
AfterSeeking t trext levels level (Inside state) =
    (levels ++ level ∷ [] ≡ t.lead trext) × Reads t trext state (levels ++ level ∷ []) []
AfterSeeking t trext levels level (Refused place) =
    (place ≡ length levels) × IsBadAt (Streams t trext) (levels ++ level ∷ []) place
