-- What is judged of the log, or the line of the first fault.
use Rattle.std.proofs.Common.{◌≡◌}
use Rattle.bench_lines.specs.Answers.{verdict_in}
use Rattle.bench_lines.specs.VerdictLine.{line_of_verdict}
use Rattle.top_call.specs.words.Judge.{judge_job}
use Rattle.top_call.proofs.Ends.{ends_so}
use Rattle.top_call.proofs.words.judge.write_judged.Goals as goal

pub returns-in_ok-push_verdict-in-Ok : goal.returns-in_ok-push_verdict-in-Ok
returns-in_ok-push_verdict-in-Ok g c =
    let new = c.new-line.ensures in
    let pushed = c.in_ok-push_verdict-in-Ok.ensures in
    let printed : c.as_bytes.result.now ≡ line_of_verdict (verdict_in c.in-Ok.verdict) = let lent = c.as_bytes.ensures.value in cc in
    ends_so judge_job c.args.input.now _ _ _ _ c.write_text.ensures (record { verdict = verdict_in c.in-Ok.verdict; judged = c.in-Ok.ensures.ok; line = printed })

pub returns-in-Err-Line : goal.returns-in-Err-Line
returns-in-Err-Line g c =
    let here = c.in-Err-Line in
    ends_so judge_job c.args.input.now _ _ _ _ c.write_text-in-Err-Line.ensures
    (rw c.as_slice.ensures.value (record {
      number = here.fault.line;
      reason = here.fault.reason;
      first = rw here.field-0-is at here.ensures.refused;
      line = rw here.field-0-is at c.fault_text-line.ensures;
    }))
