use Rattle.top_call.proofs.laws.grammatical_inputs_are_not_refused.Goals as goal

pub returns : goal.returns
returns c form bytes text allowed refused = (c.jobs_are_lawful.ensures form).not_refused bytes text allowed refused
