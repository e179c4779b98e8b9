use Rattle.bench_lines.specs.ProbeText.{probe_rules}
use Rattle.top_call.proofs.Ends.{same_fault_text}
use Rattle.top_call.proofs.ProbeEnds.{same_text, text_not_refused}
use Rattle.top_call.proofs.words.probe.probe_is_lawful.Goals as goal

pub returns : goal.returns
returns c = record {
  one_text = same_text c.probes_are_told_apart.ensures c.probes_have_one_text.ensures;
  one_fault_line = same_fault_text probe_rules c.probe_texts_have_one_fault.ensures;
  allowed = λ bytes text writes. record { tag = writes.tag; said = writes.said; is = writes.is };
  not_refused = text_not_refused c.probe_texts_are_not_faulty.ensures;
  unread = λ unread bytes text refused. absurd (cc);
  kept = λ bytes text writes. tt;
}
