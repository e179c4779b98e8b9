use Rattle.std.proofs.Common.{subst}
use Rattle.report_lines.specs.declared.mode.Mode.{Mode}
use Rattle.runs.specs.Report.{report_text_of}
use Rattle.top_call.specs.words.Run.{Reports}
use Rattle.top_call.proofs.AuditEnds.{own_trace}
use Rattle.top_call.proofs.RunEnds.{same_of_scenario, same_refusal, text_not_refused}
use Rattle.top_call.proofs.words.run.run_is_lawful.Goals as goal

pub returns : goal.returns
returns c mode = record {
  one_text = λ bytes one other left right.
      same_of_scenario c.scenarios_are_told_apart.ensures (report_text_of mode) bytes one other
      (left.scenario, left.legal, left.spelled) (right.scenario, right.legal, right.spelled) left.report right.report;
  one_fault_line = same_refusal c.texts_have_one_fault.ensures;
  allowed = λ bytes text writes. (writes.scenario, writes.legal, writes.spelled);
  not_refused = text_not_refused c.scenario_texts_are_not_faulty.ensures;
  unread = λ unread bytes text refused. absurd (cc);
  kept = λ bytes text writes. record {
    headline = record {
      reports = writes;
      headline = c.headline.ensures.scenario mode writes.scenario writes.legal;
      heard_as_listed = c.headline.ensures.heard_as_listed mode writes.scenario writes.legal;
    };
    inventory = record { reports = writes; rounds = c.rounds_are_complete.ensures writes.scenario writes.legal };
    own_trace = λ is. own_trace c.own_traces_are_audited.ensures bytes text (subst (λ (m : Mode). Reports m bytes text) is writes);
  };
}
