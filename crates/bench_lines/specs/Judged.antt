-- What a call says of a text that it judges.
use Rattle.std.specs.Prelude.{◌≡◌, ℕ, List}
use Rattle.checked_lines.specs.TextRules.{IsUnread}
use Rattle.checked_lines.specs.declared.fault.Unread.{Unread}
use Rattle.checked_lines.specs.declared.fault.Unread.TheVariants.{Line, OutOfMemory}
use Rattle.log_judge.specs.Log.{LogEntry, LoggedTag}
use Rattle.log_judge.specs.Verdicts.{IsVerdict, Verdict}
use Rattle.bench_lines.specs.LogText.{IsFaultyTag, IsLogText, log_rules}

-- the bytes are the text of a log that is judged so
pub record IsJudged (bytes : List ℕ) (verdict : Verdict) : Type 0 where
  pub tag : LoggedTag
  pub log : List LogEntry
  pub is : IsLogText bytes tag log
  pub right : IsVerdict tag log verdict

-- the bytes have this first faulty line, or there was no memory
abbrev pub IsRefusedFor : List ℕ → Unread → Type 0
IsRefusedFor bytes unread = IsUnread log_rules bytes unread

-- the second line, of these fields, says no tag; or there was no memory
abbrev pub IsNoTagFor : List (List ℕ) → Unread → Type 0
IsNoTagFor fields (Line fault) = (fault.line ≡ 2) × IsFaultyTag fields fault.reason
IsNoTagFor fields OutOfMemory = Unit {0}
