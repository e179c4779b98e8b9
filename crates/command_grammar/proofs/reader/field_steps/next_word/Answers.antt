use Rattle.std.proofs.Common.{◌-◌, arith}
use Rattle.command_grammar.proofs.reading.FieldStages.{no_words, more_words}
use Rattle.command_grammar.proofs.reader.field_steps.next_word.Goals as goal

pub returns-then-left-eq0-clause-reads : goal.returns-then-left-eq0-clause-reads
returns-then-left-eq0-clause-reads c = λ fields rest. no_words c.args.left fields rest (omega arith)

pub returns-clause-reads : goal.returns-clause-reads
returns-clause-reads c = λ fields rest. more_words c.args.left (c.args.left - 1) fields rest (omega arith)
