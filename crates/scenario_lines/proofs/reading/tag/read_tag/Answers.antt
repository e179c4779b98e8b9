-- The tag that fields spell is read, and no other.
use Rattle.scenario_lines.proofs.OneTag.{no_tag_misread, only_whole_tag}
use Rattle.scenario_lines.specs.Reading.{tag_value}
use Rattle.scenario_lines.proofs.reading.tag.read_tag.Goals as goal

pub returns-in-Ok-clause-only : goal.returns-in-Ok-clause-only
returns-in-Ok-clause-only c = λ tag is spells.
    let ok = c.in-Ok.ensures.ok in
    only_whole_tag (tag_value c.in-Ok.parts) c.args.others c.whole_tag.result ok.0 ok.1 c.whole_tag.ensures.ok c.whole_tag.ensures.refused tag is spells

pub returns-in-Err-clause-only : goal.returns-in-Err-clause-only
returns-in-Err-clause-only c = λ tag is spells. absurd (no_tag_misread c.args.others c.in-Err.fault c.in-Err.ensures.refused tag is.form spells)
