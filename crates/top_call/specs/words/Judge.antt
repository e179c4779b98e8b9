-- Profile: what `judge` writes for the bytes that it read: a log of one tag. The whole input is read before anything is written.
use Rattle.std.specs.Prelude.{◌≡◌, ℕ, true, List}
use Rattle.checked_lines.specs.TextRules.{IsFaultText}
use Rattle.bench_lines.specs.Judged.{IsJudged}
use Rattle.bench_lines.specs.LogText.{IsLogText, log_rules}
use Rattle.bench_lines.specs.VerdictLine.{line_of_verdict}
use Rattle.log_judge.specs.Log.{AreDrawn, LogEntry, LoggedTag, tag_with}
use Rattle.log_judge.specs.Verdicts.{Verdict, Yes}
use Rattle.log_judge.specs.laws.Logs.{Deed, log_made}
use Rattle.top_call.specs.Job.{Job}

-- the bytes are the text of a log
pub record IsSomeLog (bytes : List ℕ) : Type 0 where
  pub tag : LoggedTag
  pub log : List LogEntry
  pub is : IsLogText bytes tag log

-- the text is what is judged of the log that the bytes say
pub record TellsVerdict (bytes text : List ℕ) : Type 0 where
  pub verdict : Verdict
  pub judged : IsJudged bytes verdict
  pub line : text ≡ line_of_verdict verdict

-- of a log that a tag makes by the tables, whatever it draws, the answer is yes
abbrev pub SaysYesOfTags : List ℕ → List ℕ → Type 0
SaysYesOfTags bytes text =
    (tag : LoggedTag) (words : List ℕ) (deeds : List Deed) → AreDrawn words → IsLogText bytes tag (log_made deeds (tag_with tag words)) → text ≡ line_of_verdict Yes

-- whether a log can be that of a tag that follows the tables
abbrev pub judge_job : Job
judge_job = record { input = true; allows = IsSomeLog; writes = TellsVerdict; refuses = IsFaultText log_rules; promises = SaysYesOfTags }
