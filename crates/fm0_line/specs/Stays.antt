-- Where a level is the same as the one before it: at the boundaries of symbols and in their middles.
use Rattle.std.specs.Prelude.{Bool, true, false, not, List, [], ◌∷◌}

-- whether a level is the same as the one before it
abbrev pub same : Bool → Bool → Bool
same true level = level
same false level = not level

-- of each level, whether it is the same as the one before it
abbrev pub stays : Bool → List Bool → List Bool
stays before [] = []
stays before (level ∷ levels) = same before level ∷ stays level levels

-- of pairs of places the second ones
abbrev pub odds : List Bool → List Bool
odds [] = []
odds (first ∷ []) = []
odds (first ∷ second ∷ more) = second ∷ odds more
