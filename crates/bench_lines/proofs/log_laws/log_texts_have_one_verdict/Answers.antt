use Rattle.std.proofs.Common.{List, subst}
use Rattle.log_judge.specs.Log.{LogEntry, LoggedTag}
use Rattle.log_judge.specs.Verdicts.{IsVerdict}
use Rattle.bench_lines.proofs.LegalLogs.{log_legal}
use Rattle.bench_lines.proofs.log_laws.log_texts_have_one_verdict.Goals as goal

pub returns : goal.returns
returns c = record {
  some = λ bytes tag log is.
      let found = c.logs_have_one_verdict.ensures.some tag log (log_legal bytes tag log is) in
      (found.0, record { tag = tag; log = log; is = is; right = found.1 });
  one = λ bytes one other left right.
      let same = c.logs_are_told_apart.ensures bytes left.tag right.tag left.log right.log left.is right.is in
      c.logs_have_one_verdict.ensures.one right.tag right.log one other
      (subst (λ (tag : LoggedTag). IsVerdict tag right.log one) same.0 (subst (λ (log : List LogEntry). IsVerdict left.tag log one) same.1 left.right)) right.right;
}
