use Rattle.std.proofs.Common.{◌-◌, ◌∙◌, arith}
use Rattle.command_grammar.proofs.reading.KnownBits.{same_bits, known_more}
use Rattle.command_grammar.proofs.reader.known_bits.KnownBits.take_inside.Goals as goal

pub returns-clause-reads : goal.returns-clause-reads
returns-clause-reads c = λ yes.
    known_more c.args.self.now (c.args.self.now.behind - 1) c.args.bit (same_bits c.args.bit c.next.result c.if-bit-next.false ∙ c.next.ensures) (omega (arith, c.if-self-eq0.false))
