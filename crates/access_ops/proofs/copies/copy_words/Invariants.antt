use Rattle.std.proofs.Common.{◌≡◌, take}
use Rattle.access_ops.proofs.copies.copy_words.Given as goal

abbrev pub invariant-loop-word : goal.invariant-loop-word
invariant-loop-word l = l.copy ≡ take l.word-index l.words
