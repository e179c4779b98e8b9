use Rattle.line_code.specs.laws.Lead.{seeks_begins}
use Rattle.line_code.specs.laws.Reading.{reads_begins}
use Rattle.line_code.proofs.laws.states_begin_streams.Goals as goal

pub returns-clause-seeking : goal.returns-clause-seeking
returns-clause-seeking c = seeks_begins

pub returns-clause-inside : goal.returns-clause-inside
returns-clause-inside c = reads_begins
