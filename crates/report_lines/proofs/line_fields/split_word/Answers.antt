use Rattle.std.proofs.Common.{sym, ◌∙◌}
use Rattle.text_fields.specs.Lines.{space}
use Rattle.text_fields.proofs.LineLaws.{some_piece}
use Rattle.report_lines.proofs.line_fields.split_word.Goals as goal

pub unreachable-requires : goal.unreachable-requires
unreachable-requires c = some_piece space c.args.line.now (sym c.new-fields.ensures ∙ c.in-None.ensures.none)
