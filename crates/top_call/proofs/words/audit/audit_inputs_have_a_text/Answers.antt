use Rattle.air_audit.specs.ScenarioAndTrace.{scenario_part}
use Rattle.top_call.specs.words.Audit.{Audits}
use Rattle.top_call.proofs.AuditTexts.{audited-text}
use Rattle.top_call.proofs.RunEnds.{some_text}
use Rattle.top_call.proofs.words.audit.audit_inputs_have_a_text.Goals as goal

pub returns : goal.returns
returns c = λ bytes. some_text (Audits bytes) (scenario_part bytes) (audited-text c.traces_have_a_verdict.ensures bytes) (c.texts_are_scenarios_or_faulty.ensures (scenario_part bytes))
