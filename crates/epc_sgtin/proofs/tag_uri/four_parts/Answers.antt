-- There are more than four parts.
use Rattle.std.proofs.Common.{length, ap, arith}
use Rattle.epc_sgtin.proofs.UriReading.{pieces_there}
use Rattle.epc_sgtin.proofs.tag_uri.four_parts.Goals as goal

-- four cuts leave at least five
pub returns-in-Some-clause-none : goal.returns-in-Some-clause-none
returns-in-Some-clause-none c = λ four.
    omega (
      arith,
      four,
      ap length c.in_ok-first.ensures.pieces,
      ap length c.in_ok-second.ensures.pieces,
      ap length c.in_ok-third.ensures.pieces,
      ap length c.in-Some.ensures.pieces,
      pieces_there c.in-Some.field-0.1.now,
    )
