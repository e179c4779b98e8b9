-- Where a list is refused (profile).
use Rattle.std.specs.Prelude.{Bool, List}
use Rattle.bit_strings.specs.Family.{IsBadAt, IsShortAt}
use Rattle.line_code.specs.declared.refusal.LineRefusal.{LineRefusal}
use Rattle.line_code.specs.declared.refusal.LineRefusal.TheVariants.{Invalid, Unfinished}

-- the refusal of a list by a family of lists
abbrev pub RefusesStream : (List Bool → Type 0) → List Bool → LineRefusal → Type 0
RefusesStream X levels (Invalid place) = IsBadAt X levels place
RefusesStream X levels (Unfinished count) = IsShortAt X levels count
