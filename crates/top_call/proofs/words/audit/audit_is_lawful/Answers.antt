use Rattle.air_audit.specs.ScenarioAndTrace.{scenario_part}
use Rattle.top_call.proofs.AuditEnds.{same-audit}
use Rattle.top_call.proofs.AuditTexts.{received-said}
use Rattle.top_call.proofs.RunEnds.{same_refusal, text_not_refused}
use Rattle.top_call.proofs.words.audit.audit_is_lawful.Goals as goal

pub returns : goal.returns
returns c = record {
  one_text = same-audit c.scenarios_are_told_apart.ensures c.traces_have_at_most_one_verdict.ensures;
  one_fault_line = λ bytes. same_refusal c.texts_have_one_fault.ensures (scenario_part bytes);
  allowed = λ bytes text writes. (writes.scenario, writes.legal, writes.spelled);
  not_refused = λ bytes. text_not_refused c.scenario_texts_are_not_faulty.ensures (scenario_part bytes);
  unread = λ unread bytes text refused. absurd (cc);
  kept = received-said (record {
    told_apart = c.scenarios_are_told_apart.ensures;
    lists = c.list_lines_are_received.ensures;
    legal = c.histories_keep_tags_legal.ensures;
  });
}
