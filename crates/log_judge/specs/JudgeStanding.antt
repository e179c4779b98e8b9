-- A log that is judged entry by entry: what stands behind a part of it.
use Rattle.std.specs.Prelude.{◌≡◌, ℕ, List}
use Rattle.log_judge.specs.Log.{LogEntry, LoggedTag, last_line}
use Rattle.log_judge.specs.Explaining.{ByTables, WithLiberties}
use Rattle.log_judge.specs.Verdicts.{IsVerdict, Verdict, Yes, Profile, No}
use Rattle.log_judge.specs.laws.Known.{Known}
use Rattle.log_judge.specs.laws.StandingLaws.{StandsBehind}
use Rattle.log_judge.specs.Answers.{want_in}
use Rattle.log_judge.specs.declared.shown.Shown.{Shown}
use Rattle.log_judge.specs.declared.shown.Shown.TheVariants as shown

-- what a contract sees of a judge: its verdict up to here, what is known of the tag, and the number of the last line
pub record JudgeValue : Type 0 where
  pub verdict : Verdict
  pub known : Known
  pub line : ℕ

-- Where some words explain the log, what is known stands for it in either manner; behind a liberty in the manner that takes them.
abbrev pub Stands : LoggedTag → List LogEntry → Known → Verdict → Type 0
Stands tag log known Yes = StandsBehind ByTables tag log known × StandsBehind WithLiberties tag log known
Stands tag log known (Profile number want) = StandsBehind WithLiberties tag log known
Stands tag log known (No number want) = Unit {0}

-- The judge has heard this log of this tag.
pub record HasHeardLog (tag : LoggedTag) (log : List LogEntry) (judge : JudgeValue) : Type 0 where
  pub line : judge.line ≡ last_line log
  pub verdict : IsVerdict tag log judge.verdict
  pub stands : Stands tag log judge.known judge.verdict

-- the verdict behind an exchange that shows this, where its answer has this line
abbrev pub verdict_noted : Verdict → Shown → ℕ → Verdict
verdict_noted verdict shown.Explained line = verdict
verdict_noted Yes (shown.Excused want) line = Profile line (want_in want)
verdict_noted (Profile number earlier) (shown.Excused want) line = Profile number earlier
verdict_noted (No number earlier) (shown.Excused want) line = No number earlier
verdict_noted Yes (shown.Refused want) line = No line (want_in want)
verdict_noted (Profile number earlier) (shown.Refused want) line = No line (want_in want)
verdict_noted (No number earlier) (shown.Refused want) line = No number earlier
