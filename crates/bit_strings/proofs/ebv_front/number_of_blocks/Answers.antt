use Rattle.bit_strings.proofs.EbvReading.{number_in_is}
use Rattle.bit_strings.proofs.ebv_front.number_of_blocks.Goals as goal

pub returns : goal.returns
returns c = λ number vector ebv same. number_in_is c.args.bits number vector ebv same
