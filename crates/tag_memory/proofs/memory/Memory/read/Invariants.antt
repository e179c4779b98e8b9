use Rattle.std.proofs.Common.{◌≡◌, take}
use Rattle.tag_memory.proofs.memory.Memory.read.Given as goal

abbrev pub invariant-loop-word : goal.invariant-loop-word
invariant-loop-word l = l.out ≡ take l.word-index l.word-items
