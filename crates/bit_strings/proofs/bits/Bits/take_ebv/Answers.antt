use Rattle.bit_strings.proofs.EbvOneAnswer.{one_answer}
use Rattle.bit_strings.proofs.bits.Bits.take_ebv.Goals as goal

pub returns-clause-only : goal.returns-clause-only
returns-clause-only c = λ other holds. one_answer c.args.self.now.items c.args.from c.read_vector.result other c.read_vector.ensures holds
