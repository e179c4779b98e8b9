use Rattle.std.proofs.Common.{[], refl}
use Rattle.command_grammar.proofs.reading.Resuming.{read_all}
use Rattle.command_grammar.proofs.reader.framer.Framer.new.Goals as goal

pub invariant_of-result : goal.invariant_of-result
invariant_of-result c = (c.new.ensures.sound, [], read_all c.new.result 0 [] c.new.ensures.digits c.new.ensures.stands refl)
