-- That a lead with the extension of its pilot is told from one without it, as facts on a code's table.
use Rattle.std.specs.Prelude.{ℕ, ◌+◌, ◌≤◌, Bool, true, false, not, List, [], ◌∷◌}
use Rattle.line_code.specs.TableFacts.{with_level_flipped}
use Rattle.line_code.specs.Stream.{Streams}
use Rattle.line_code.specs.Table.{Table}

-- 1 where two levels differ
abbrev pub difference : Bool → Bool → ℕ
difference false false = 0
difference false true = 1
difference true false = 1
difference true true = 0

-- in how many places two lists of levels differ, as far as both go
abbrev pub differing_places : List Bool → List Bool → ℕ
differing_places [] others = 0
differing_places (level ∷ levels) [] = 0
differing_places (level ∷ levels) (other ∷ others) = difference level other + differing_places levels others

-- the lead with the extended pilot differs from the one without it in two places at least, so that one inverted level does not
-- make the one into the other (6.3.1.3.2.2 and 6.3.1.3.2.4)
abbrev pub PreamblesDiffer : Table → Type 0
PreamblesDiffer t = 2 ≤ differing_places (t.lead false) (t.lead true)

-- no levels are a stream with the one and with the other
abbrev pub HasOnePreamble : Table → Type 0
HasOnePreamble t = (trext : Bool) (levels : List Bool) → Streams t trext levels → ¬ Streams t (not trext) levels

-- no stream with the one and with one level inverted is a stream with the other
abbrev pub KeepsPreamble : Table → Type 0
KeepsPreamble t = (trext : Bool) (levels : List Bool) (at : ℕ) → Streams t trext levels → ¬ Streams t (not trext) (with_level_flipped levels at)
