use Rattle.std.proofs.Common.{sym, arith}
use Rattle.bit_strings.proofs.EbvWriting.{length-one, length-two, length-three, length-four}
use Rattle.bit_strings.proofs.ebv.blocks_of.Goals as goal

pub returns-in-0-to-127-clause-count : goal.returns-in-0-to-127-clause-count
returns-in-0-to-127-clause-count c = sym (length-one c.args.value (omega arith))

pub returns-in-128-to-16383-clause-count : goal.returns-in-128-to-16383-clause-count
returns-in-128-to-16383-clause-count c = sym (length-two c.args.value (omega arith) (omega arith))

pub returns-in-16384-to-2097151-clause-count : goal.returns-in-16384-to-2097151-clause-count
returns-in-16384-to-2097151-clause-count c = sym (length-three c.args.value (omega arith) (omega arith))

pub returns-in_default-clause-count : goal.returns-in_default-clause-count
returns-in_default-clause-count c = sym (length-four c.args.value (omega arith))
