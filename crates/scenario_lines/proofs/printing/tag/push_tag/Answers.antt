use Rattle.std.proofs.Common.{[], ◌∷◌}
use Rattle.std.proofs.lemmas.Result.{IfOk-equal}
use Rattle.text_fields.specs.Lines.{line_feed, line_with}
use Rattle.scenario_lines.specs.Spelling.{tag_spec_fields}
use Rattle.scenario_lines.proofs.LinePieces.{whole_line}
use Rattle.scenario_lines.proofs.printing.tag.push_tag.Goals as goal

pub returns : goal.returns
returns c = IfOk-equal _ _ _ _ c.end_with_tag.ensures
    (whole_line _ _ (line_with (tag_spec_fields c.args.tag.now)) (line_feed ∷ []) c.in_ok-push_str.ensures.bytes)
