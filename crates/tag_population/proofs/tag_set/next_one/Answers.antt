use Rattle.std.proofs.Common.{arith}
use Rattle.std.proofs.lemmas.Nat.Bits.{ones_shl}
use Rattle.tag_population.proofs.TagSetBits.{no_one, next_one_there}
use Rattle.tag_population.proofs.tag_set.next_one.Goals as goal

pub returns-then-rest-eq0 : goal.returns-then-rest-eq0
returns-then-rest-eq0 c = no_one c.args.word c.args.from _ (ones_shl 64 c.args.from (omega (arith, c.if-from-ge-WORD.false))) c.if-rest-eq0.true

pub returns-else-rest-eq0 : goal.returns-else-rest-eq0
returns-else-rest-eq0 c = next_one_there c.args.word c.args.from _ c.lowest_one.result (ones_shl 64 c.args.from (omega (arith, c.if-from-ge-WORD.false))) c.lowest_one.ensures
