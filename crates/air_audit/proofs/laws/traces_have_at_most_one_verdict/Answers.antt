use Rattle.air_audit.proofs.OneVerdict.{verdict-one}
use Rattle.air_audit.proofs.laws.traces_have_at_most_one_verdict.Goals as goal

pub returns : goal.returns
returns c = verdict-one (record { frame = c.one_answer.ensures.frame; command = c.spelling_laws.ensures.one })
