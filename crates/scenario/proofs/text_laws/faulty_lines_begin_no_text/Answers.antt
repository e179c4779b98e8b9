-- The laws are lemmas of their own.
use Rattle.scenario.proofs.FirstLines.{lines_before, lines_upto}
use Rattle.scenario.proofs.text_laws.faulty_lines_begin_no_text.Goals as goal

pub returns-clause-before : goal.returns-clause-before
returns-clause-before c = lines_before

pub returns-clause-faulty : goal.returns-clause-faulty
returns-clause-faulty c = lines_upto c.line_laws.ensures
