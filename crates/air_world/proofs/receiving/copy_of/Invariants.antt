use Rattle.air_world.proofs.Names.{◌≡◌, take}
use Rattle.air_world.proofs.receiving.copy_of.Given as goal

abbrev pub invariant-loop-word : goal.invariant-loop-word
invariant-loop-word l = l.copy ≡ take l.word-index l.epc
