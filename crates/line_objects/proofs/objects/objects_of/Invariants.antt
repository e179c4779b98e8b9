use Rattle.std.proofs.Common.{◌≡◌, ◌++◌, ℕ, List, length}
use Rattle.std.specs.Prelude.{Option}
use Rattle.text_fields.specs.Lines.{lines_of}
use Rattle.line_objects.specs.Objects.{objects_of}
use Rattle.line_objects.specs.Values.{AreUris}
use Rattle.line_objects.proofs.objects.objects_of.Given as goal

-- the objects so far and those of the lines that are left are all
abbrev pub invariant-loop-line : goal.invariant-loop-line
invariant-loop-line l = (uris : List ℕ → Option (List ℕ)) → AreUris uris
    → l.text.items ++ objects_of uris l.set (lines_of l.rest) ≡ objects_of uris l.set (lines_of l.plain)

abbrev pub decreases-loop-line : goal.decreases-loop-line
decreases-loop-line l = length l.rest
