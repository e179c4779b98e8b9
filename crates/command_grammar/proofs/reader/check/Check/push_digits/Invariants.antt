use Rattle.std.proofs.Common.{◌≡◌, ◌≤◌, List, Bool, ◌++◌}
use Rattle.bit_strings.specs.NumbersInBits.{field_of}
use Rattle.command_grammar.specs.reading.CheckNumbers.{IsRegisterOf, check_kept}
use Rattle.command_grammar.proofs.reader.check.Check.push_digits.Given as goal

-- some bits were taken, and with the places still to come they are the whole field
abbrev pub invariant-loop-places : goal.invariant-loop-places
invariant-loop-places l =
    ((read : List Bool) × (read ++ field_of l.value l.places ≡ field_of l.value l.width) × ((front : List Bool) → IsRegisterOf l.initial.self front → IsRegisterOf l.self (front ++ read)))
    × (check_kept l.self ≡ check_kept l.initial.self)
    × (l.places ≤ l.width)

abbrev pub decreases-loop-places : goal.decreases-loop-places
decreases-loop-places l = l.places
