use Rattle.scenario.proofs.text_laws.line_laws.Goals as goal

pub returns : goal.returns
returns c = record {
  lines_are_field_texts = c.lines_are_field_texts.ensures;
  lines_are_told_apart = c.lines_are_told_apart.ensures;
  lines_begin_with_one_keyword = c.lines_begin_with_one_keyword.ensures;
  spelled_lines_are_not_faulty = c.spelled_lines_are_not_faulty.ensures;
  lines_have_one_fault = c.lines_have_one_fault.ensures;
  lines_begin_or_are_faulty = c.lines_begin_or_are_faulty.ensures;
  lines_say_something_or_are_faulty = c.lines_say_something_or_are_faulty.ensures;
}
