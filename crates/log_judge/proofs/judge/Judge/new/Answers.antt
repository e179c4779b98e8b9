use Rattle.std.proofs.Common.{ap}
use Rattle.log_judge.specs.declared.judge.Findings.{Findings}
use Rattle.log_judge.specs.Answers.{verdict_in}
use Rattle.log_judge.proofs.Judged.{begun, heard_so}
use Rattle.log_judge.proofs.judge.Judge.new.Goals as goal

pub returns : goal.returns
returns c =
    let findings = c.in_ok-findings.ensures.ok in
    heard_so _ _ _ _ _ c.in_ok-known.known 2 _ (ap (λ (f : Findings). verdict_in f.verdict) findings) c.in_ok-known.ensures (ap (λ (f : Findings). f.line) findings)
    (begun (record { image = c.args.image.now; locks = c.args.locks }))
