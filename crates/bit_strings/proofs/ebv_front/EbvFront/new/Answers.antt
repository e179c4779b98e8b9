use Rattle.std.proofs.Common.{refl, arith}
use Rattle.bit_strings.specs.NumbersInBits.{field_of}
use Rattle.bit_strings.proofs.EbvReading.{no_front, cut_front}
use Rattle.bit_strings.proofs.ebv_front.EbvFront.new.Goals as goal

pub invariant_of-result : goal.invariant_of-result
unfolding field_of
invariant_of-result c = (omega arith, cut_front _ no_front)

pub returns-clause-none : goal.returns-clause-none
unfolding field_of
returns-clause-none c = refl

pub returns-clause-begun : goal.returns-clause-begun
unfolding field_of
returns-clause-begun c = cut_front _ no_front
