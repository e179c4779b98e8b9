use Rattle.std.proofs.Common.{◌∙◌, ◌++◌, ap, map}
use Rattle.std.specs.String.{string_bytes}
use Rattle.text_fields.specs.Lines.{text_with}
use Rattle.scenario.specs.ScenarioText.{group_line}
use Rattle.scenario_lines.specs.Spelling.{line_text}
use Rattle.scenario.proofs.PrintedLines.{gains-line, items-more}
use Rattle.scenario.proofs.printing.push_groups.Goals as goal

pub loop-group-preserved : goal.loop-group-preserved
loop-group-preserved c =
    let gained = gains-line _ (group_line c.group-item.result) (record { is = c.loop-group.invariant }) c.in_ok-push_group.ensures in
    gained.is ∙ ap (λ said. string_bytes c.args.text.now ++ text_with (map line_text said))
    (items-more group_line _ _ c.group-item.result c.loop-group-test.true c.group-item.is)
