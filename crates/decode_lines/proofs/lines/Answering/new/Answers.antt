use Rattle.decode_lines.proofs.AnsweredLines.{begins}
use Rattle.decode_lines.proofs.lines.Answering.new.Goals as goal

pub returns-clause-stands : goal.returns-clause-stands
returns-clause-stands c = begins _ _ c.new-3.ensures.items c.new-2.ensures.bytes
