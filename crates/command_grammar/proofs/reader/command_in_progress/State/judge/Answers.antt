use Rattle.std.proofs.Common.{refl}
use Rattle.command_grammar.specs.Commands.{command_of}
use Rattle.command_grammar.proofs.reading.Resuming.{whole_spells, open_short}
use Rattle.command_grammar.proofs.reader.command_in_progress.State.judge.Goals as goal

pub returns-in-Whole-clause-judges : goal.returns-in-Whole-clause-judges
returns-in-Whole-clause-judges c = λ bits stands. (command_of c.args.self.now.kind c.args.self.now.fields, whole_spells c.args.self.now bits c.in-Whole.is stands)

pub returns-in-Code : goal.returns-in-Code
returns-in-Code c = record { judges = λ bits stands. open_short c.args.self.now bits c.in-Code.is stands; taken = refl }
