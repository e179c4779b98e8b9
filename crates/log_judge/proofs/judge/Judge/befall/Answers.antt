use Rattle.std.proofs.Common.{◌+◌, ap, refl, subst, sym}
use Rattle.log_judge.specs.declared.judge.Findings.{Findings}
use Rattle.log_judge.specs.Answers.{verdict_in}
use Rattle.log_judge.specs.JudgeStanding.{HasHeardLog, JudgeValue}
use Rattle.log_judge.proofs.Judged.{befallen_on, heard_so}
use Rattle.log_judge.proofs.judge.Judge.befall.Goals as goal

pub returns-clause-heard : goal.returns-clause-heard
returns-clause-heard c =
    let old = c.self.inside.findings.value in
    let findings = c.deref_mut.ensures.value in
    λ tag log has.
    heard_so tag _ (verdict_in old.verdict) _ c.befall-known.result _ (old.line + 1) _ (ap (λ (f : Findings). verdict_in f.verdict) findings) refl (ap (λ (f : Findings). f.line + 1) findings)
    (befallen_on tag log (verdict_in old.verdict) c.self.inside.known old.line c.args.event c.befall-known.result (subst (λ (j : JudgeValue). HasHeardLog tag log j) (sym c.self.view_is) has) c.befall-known.ensures)
