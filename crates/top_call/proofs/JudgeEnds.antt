-- The texts of `judge`, by the laws of logs and of verdicts.
use Rattle.std.proofs.Common.{◌≡◌, ℕ, List, sym, ◌∙◌, ap}
use Rattle.checked_lines.specs.TextRules.{IsFaultText}
use Rattle.checked_lines.specs.declared.fault.FaultReason.{FaultReason}
use Rattle.bench_lines.specs.Judged.{IsJudged}
use Rattle.bench_lines.specs.LogText.{IsFirstLogFault, IsLogText, log_rules}
use Rattle.bench_lines.specs.VerdictLine.{line_of_verdict}
use Rattle.log_judge.specs.Log.{AreDrawn, LogEntry, LoggedTag, tag_with}
use Rattle.log_judge.specs.Verdicts.{IsVerdict, Verdict, Yes}
use Rattle.log_judge.specs.laws.Logs.{Deed, log_made}
use Rattle.top_call.specs.words.Judge.{IsSomeLog, TellsVerdict, SaysYesOfTags}

-- what the laws of logs say: a log that bytes say has one verdict,
abbrev pub HasOneVerdict : Type 0
HasOneVerdict = (bytes : List ℕ) (one other : Verdict) → IsJudged bytes one → IsJudged bytes other → one ≡ other

-- and no fault,
abbrev pub AreNotFaulty : Type 0
AreNotFaulty = (bytes : List ℕ) (tag : LoggedTag) (log : List LogEntry) (number : ℕ) (fault : FaultReason) → IsLogText bytes tag log → IsFirstLogFault bytes number fault → ⊥

-- and a log that a tag makes is judged yes
abbrev pub AreExplained : Type 0
AreExplained = (tag : LoggedTag) (words : List ℕ) (deeds : List Deed) → AreDrawn words → IsVerdict tag (log_made deeds (tag_with tag words)) Yes

pub same_text : HasOneVerdict → (bytes one other : List ℕ) → TellsVerdict bytes one → TellsVerdict bytes other → one ≡ other
same_text once bytes one other left right =
    left.line ∙ ap (λ (verdict : Verdict). line_of_verdict verdict) (once bytes left.verdict right.verdict left.judged right.judged) ∙ sym right.line

pub text_not_refused : AreNotFaulty → (bytes text : List ℕ) → IsSomeLog bytes → IsFaultText log_rules bytes text → ⊥
text_not_refused not_faulty bytes text allowed refused =
    not_faulty bytes allowed.tag allowed.log refused.number refused.reason allowed.is refused.first

pub says_yes : HasOneVerdict → AreExplained → (bytes text : List ℕ) → TellsVerdict bytes text → SaysYesOfTags bytes text
says_yes once explained bytes text judges tag words deeds drawn is =
    let yes : IsJudged bytes Yes = record { tag = tag; log = log_made deeds (tag_with tag words); is = is; right = explained tag words deeds drawn } in
    judges.line ∙ ap (λ (verdict : Verdict). line_of_verdict verdict) (once bytes judges.verdict Yes judges.judged yes)
