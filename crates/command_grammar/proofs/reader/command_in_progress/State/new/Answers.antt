use Rattle.command_grammar.specs.declared.kinds.CommandKind.TheVariants as kinds
use Rattle.std.proofs.Common.{[], refl}
use Rattle.command_grammar.proofs.reading.Resuming.{resumes_none, no_digits}
use Rattle.command_grammar.proofs.reader.command_in_progress.State.new.Goals as goal

pub returns-clause-stands : goal.returns-clause-stands
returns-clause-stands c = record { counted = refl; served = tt; reads = resumes_none kinds.Nak [] c.new.result }

pub returns-clause-digits : goal.returns-clause-digits
returns-clause-digits c = no_digits _ refl refl
