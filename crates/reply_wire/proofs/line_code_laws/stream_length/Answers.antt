use Rattle.reply_wire.specs.laws.Codes.{length-stream, lead_short, stream_least, stream_most}
use Rattle.reply_wire.proofs.line_code_laws.stream_length.Goals as goal

pub returns : goal.returns
returns c = record { exact = length-stream; lead = lead_short; least = stream_least; most = stream_most }
