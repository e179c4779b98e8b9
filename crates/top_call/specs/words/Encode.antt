-- Profile: what `encode` writes for the bytes that it read. The whole input is checked before a line is written.
use Rattle.std.specs.Prelude.{true}
use Rattle.encode_lines.specs.EncodeLines.{Encodes, IsEncodeFaultText, AskForEncoding}
use Rattle.round_trip.specs.ReadBack.{ComesBack}
use Rattle.top_call.specs.Job.{Job}

-- the lines that `decode` reads for the lines of the bytes; it reads each of them back
abbrev pub encode_job : Job
encode_job = record {
  input = true;
  allows = AskForEncoding;
  writes = Encodes;
  refuses = IsEncodeFaultText;
  promises = ComesBack;
}
