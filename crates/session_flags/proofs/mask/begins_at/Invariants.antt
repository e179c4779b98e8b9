use Rattle.std.proofs.Common.{◌≡◌, ◌+◌, drop}
use Rattle.bit_strings.specs.Words.{bits_of_words}
use Rattle.session_flags.specs.MaskMatch.{begins_with}
use Rattle.session_flags.proofs.mask.begins_at.Given as goal

abbrev pub invariant-loop-at : goal.invariant-loop-at
invariant-loop-at l = begins_with (drop l.start (bits_of_words l.words)) l.mask ≡ begins_with (drop (l.start + l.at) (bits_of_words l.words)) (drop l.at l.mask)
