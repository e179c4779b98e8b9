-- The verdict, or the line of the first fault.
use Rattle.std.proofs.Common.{◌⊎◌, ℕ, List, refl, inl, inr}
use Rattle.checked_lines.specs.FaultWords.{reason_word}
use Rattle.checked_lines.specs.declared.fault.FaultReason.{FaultReason}
use Rattle.bench_lines.specs.Judged.{IsJudged}
use Rattle.bench_lines.specs.LogText.{IsFirstLogFault, IsLogText}
use Rattle.bench_lines.specs.VerdictLine.{line_of_verdict}
use Rattle.log_judge.specs.Log.{LogEntry, LoggedTag}
use Rattle.log_judge.specs.Verdicts.{Verdict}
use Rattle.text_fields.specs.FaultLine.{fault_line}
use Rattle.top_call.specs.Job.{Defines}
use Rattle.top_call.specs.words.Judge.{judge_job}
use Rattle.top_call.proofs.words.judge.judge_inputs_have_a_text.Goals as goal

-- each log has a verdict
abbrev HaveVerdicts : Type 0
HaveVerdicts = (bytes : List ℕ) (tag : LoggedTag) (log : List LogEntry) → IsLogText bytes tag log → (verdict : Verdict) × IsJudged bytes verdict

judged_text : HaveVerdicts → (bytes : List ℕ) → ((tag : LoggedTag) × (log : List LogEntry) × IsLogText bytes tag log)
    ⊎ ((number : ℕ) × (fault : FaultReason) × IsFirstLogFault bytes number fault) → (text : List ℕ) × Defines judge_job bytes text
judged_text have bytes (inl found) =
    let verdict = have bytes found.0 found.1 found.2 in
    (line_of_verdict verdict.0, inl (record { verdict = verdict.0; judged = verdict.1; line = refl }))
judged_text have bytes (inr faulty) =
    (fault_line faulty.0 (reason_word faulty.1), inr (record { number = faulty.0; reason = faulty.1; first = faulty.2; line = refl }))

pub returns : goal.returns
returns c bytes = judged_text c.log_texts_have_one_verdict.ensures.some bytes (c.texts_are_logs_or_faulty.ensures bytes)
