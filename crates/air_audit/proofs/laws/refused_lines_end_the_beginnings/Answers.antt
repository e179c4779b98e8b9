use Rattle.air_audit.proofs.Completed.{first-that-begins-none}
use Rattle.air_audit.proofs.laws.refused_lines_end_the_beginnings.Goals as goal

pub returns : goal.returns
returns c = first-that-begins-none (record { frame = c.one_answer.ensures.frame; command = c.spelling_laws.ensures.one })
