use Rattle.text_fields.proofs.WantedFields.{StillWanted}
use Rattle.text_fields.proofs.exact.are_filled.Given as goal

abbrev pub invariant-loop : goal.invariant-loop
invariant-loop l = StillWanted l.counter l.count l.fields l.left
