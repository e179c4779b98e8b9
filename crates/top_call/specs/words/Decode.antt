-- Profile: what `decode` writes for the bytes that it read.
use Rattle.std.specs.Prelude.{true}
use Rattle.decode_lines.specs.DecodeLines.{Decodes, IsDecodeFaultText, AskForDecoding}
use Rattle.top_call.specs.Job.{Job}

-- the answers to the lines of the bytes
abbrev pub decode_job : Job
decode_job = record {
  input = true;
  allows = AskForDecoding;
  writes = Decodes;
  refuses = IsDecodeFaultText;
  promises = λ bytes text. Unit {0};
}
