-- A line that asks for something is not faulty.
use Rattle.encode_lines.proofs.OneReading.{not_faulty}
use Rattle.encode_lines.proofs.encoder.Encoder.encode_line.Goals as goal

pub unreachable-requires : goal.unreachable-requires
unreachable-requires c = not_faulty c.args.line.now c.requires.0 c.in-Err.field-0 c.requires.1 c.in-Err.ensures.refused
