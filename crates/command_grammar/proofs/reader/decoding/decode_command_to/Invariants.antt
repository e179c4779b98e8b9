use Rattle.std.proofs.Common.{take}
use Rattle.command_grammar.specs.reading.Framing.{FramerStandsFor}
use Rattle.command_grammar.proofs.reader.decoding.decode_command_to.Given as goal

abbrev pub invariant-loop-bit : goal.invariant-loop-bit
invariant-loop-bit l = record { stands : FramerStandsFor l.framer (take l.bit-index l.bits) }
