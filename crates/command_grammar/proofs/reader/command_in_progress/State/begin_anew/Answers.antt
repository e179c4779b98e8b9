use Rattle.std.proofs.Common.{[], refl}
use Rattle.command_grammar.proofs.reading.Resuming.{resumes_none, no_digits}
use Rattle.command_grammar.proofs.reader.command_in_progress.State.begin_anew.Goals as goal

pub returns : goal.returns
returns c = record {
  stands = record { counted = refl; served = tt; reads = resumes_none c.args.self.now.kind [] c.args.self.now.fields };
  digits = no_digits _ refl refl;
  sound = tt;
}
