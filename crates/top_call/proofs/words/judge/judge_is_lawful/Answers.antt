use Rattle.bench_lines.specs.LogText.{log_rules}
use Rattle.top_call.proofs.Ends.{same_fault_text}
use Rattle.top_call.proofs.JudgeEnds.{same_text, says_yes, text_not_refused}
use Rattle.top_call.proofs.words.judge.judge_is_lawful.Goals as goal

pub returns : goal.returns
returns c = record {
  one_text = same_text c.log_texts_have_one_verdict.ensures.one;
  one_fault_line = same_fault_text log_rules c.log_texts_have_one_fault.ensures;
  allowed = λ bytes text writes. record { tag = writes.judged.tag; log = writes.judged.log; is = writes.judged.is };
  not_refused = text_not_refused c.log_texts_are_not_faulty.ensures;
  unread = λ unread bytes text refused. absurd (cc);
  kept = says_yes c.log_texts_have_one_verdict.ensures.one c.logs_that_tags_make_are_explained.ensures;
}
