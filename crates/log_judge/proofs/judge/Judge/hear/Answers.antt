use Rattle.std.proofs.Common.{◌+◌, ◌∙◌, Some, ap, refl, subst, sym}
use Rattle.log_judge.specs.declared.judge.Findings.{Findings}
use Rattle.log_judge.specs.Answers.{seen_in, verdict_in}
use Rattle.log_judge.specs.JudgeStanding.{HasHeardLog, JudgeValue, verdict_noted}
use Rattle.log_judge.proofs.Judged.{heard_on, heard_so}
use Rattle.log_judge.proofs.judge.Judge.hear.Goals as goal

pub returns-clause-heard : goal.returns-clause-heard
returns-clause-heard g c =
    let old = c.self.inside.findings.value in
    let shown = c.hear-known.result.1 in
    let line = c.note.ensures.line ∙ ap (λ (f : Findings). f.line + 2) c.deref_mut-2.ensures.value ∙ ap (λ (f : Findings). f.line + 2) c.deref_mut.ensures.value in
    let verdict = c.note.ensures.verdict ∙ ap (λ (f : Findings). verdict_noted (verdict_in f.verdict) shown c.note.new.self.line) c.deref_mut-2.ensures.value
    ∙ ap (λ (f : Findings). verdict_noted (verdict_in f.verdict) shown c.note.new.self.line) c.deref_mut.ensures.value
    ∙ ap (verdict_noted (verdict_in old.verdict) shown) line in
    λ tag log has.
    heard_so tag _ (verdict_noted (verdict_in old.verdict) shown (old.line + 2)) _ c.hear-known.result.0 _ (old.line + 2) _ verdict refl line
    (heard_on tag log (verdict_in old.verdict) c.self.inside.known old.line (Some c.args.command.now) (seen_in c.args.seen.now) shown c.hear-known.result.0
    (record { heard_is = c.requires.legal; seen_is = c.number.ensures.small }) (subst (λ (j : JudgeValue). HasHeardLog tag log j) (sym c.self.view_is) has) c.hear-known.ensures)
