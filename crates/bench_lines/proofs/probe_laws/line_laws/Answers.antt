use Rattle.bench_lines.proofs.LineTexts.{lines_lawful}
use Rattle.bench_lines.proofs.TagLines.{tags_lawful}
use Rattle.bench_lines.proofs.probe_laws.line_laws.Goals as goal

pub returns-clause-lines : goal.returns-clause-lines
returns-clause-lines c = lines_lawful (record {
  told = c.commands_are_told_apart.ensures;
  not_faulty = c.spelled_commands_are_not_faulty.ensures;
  one_fault = c.commands_have_one_fault.ensures;
  bits_told = c.bits_are_told_apart.ensures;
})

pub returns-clause-tags : goal.returns-clause-tags
returns-clause-tags c = tags_lawful (record {
  told = c.lines_are_told_apart.ensures;
  not_faulty = c.spelled_lines_are_not_faulty.ensures;
  one_fault = c.lines_have_one_fault.ensures;
})
