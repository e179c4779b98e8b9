-- How far the text of a log is read, entry by entry.
use Rattle.std.specs.Prelude.{ℕ, ◌+◌, List, [], ◌∷◌, ◌++◌, Option, Some, None}
use Rattle.checked_lines.specs.laws.ReadingOn.{HasReadTo}
use Rattle.command_grammar.specs.declared.commands.Command.{Command}
use Rattle.log_judge.specs.Answers.{seen_in}
use Rattle.log_judge.specs.declared.answer.Answer.{Answer}
use Rattle.log_judge.specs.JudgeStanding.{HasHeardLog, JudgeValue}
use Rattle.log_judge.specs.Log.{Exchange, Befalls, LogEntry, LoggedTag, lines_in}
use Rattle.text_fields.specs.Lines.{lines_of}
use Rattle.bench_lines.specs.declared.log_entries.SaidEntry.{SaidEntry}
use Rattle.bench_lines.specs.declared.log_entries.SaidEntry.TheVariants as said
use Rattle.checked_lines.specs.declared.fault.FaultyLine.{FaultyLine}
use Rattle.bench_lines.specs.LogText.{IsFirstLogFault, IsLogText, log_rules, start, within}

-- The lines that are read say this log of this tag, and these are left.
abbrev pub HasReadLog : List ℕ → LoggedTag → List LogEntry → List (List ℕ) → Type 0
HasReadLog bytes tag log left = HasReadTo log_rules start 1 (lines_of bytes) (within tag log) (3 + lines_in log) left

-- the entry that is said, or none at the end
abbrev pub entry_in : SaidEntry → Command → Answer → Option LogEntry
entry_in said.Hears command answer = Some (Exchange (Some command) (seen_in answer))
entry_in said.HearsNoCommand command answer = Some (Exchange None (seen_in answer))
entry_in (said.Befalls event) command answer = Some (Befalls event)
entry_in said.End command answer = None

-- how many lines of the log an entry takes
abbrev pub lines_said : SaidEntry → ℕ
lines_said said.Hears = 2
lines_said said.HearsNoCommand = 2
lines_said (said.Befalls event) = 1
lines_said said.End = 0

-- behind the log one entry more is read, or it was all
abbrev pub HasReadEntry : List ℕ → LoggedTag → List LogEntry → Option LogEntry → List (List ℕ) → Type 0
HasReadEntry bytes tag log None left = IsLogText bytes tag log
HasReadEntry bytes tag log (Some entry) left = HasReadLog bytes tag (log ++ entry ∷ []) left

-- the judge has heard it behind the log, or nothing more
abbrev pub HasHeardEntry : LoggedTag → List LogEntry → Option LogEntry → JudgeValue → Type 0
HasHeardEntry tag log None judge = HasHeardLog tag log judge
HasHeardEntry tag log (Some entry) judge = HasHeardLog tag (log ++ entry ∷ []) judge

-- the fault is the first of the bytes
abbrev pub IsFaultOf : List ℕ → FaultyLine → Type 0
IsFaultOf bytes fault = IsFirstLogFault bytes fault.line fault.reason
