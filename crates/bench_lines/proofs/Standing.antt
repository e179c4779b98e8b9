-- A judge that has heard what is read of a log.
use Rattle.std.proofs.Common.{◌≡◌, ◌≢◌, ◌+◌, ℕ, List, [], ◌∷◌, ◌++◌, arith, refl}
use Rattle.std.specs.Prelude.{Some, None}
use Rattle.command_grammar.specs.declared.commands.Command.{Command}
use Rattle.log_judge.specs.Answers.{seen_in}
use Rattle.log_judge.specs.JudgeStanding.{HasHeardLog, JudgeValue}
use Rattle.log_judge.specs.declared.answer.Answer.{Answer}
use Rattle.log_judge.specs.Log.{Befalls, Exchange, LogEntry, LoggedTag, lines_in}
use Rattle.text_fields.specs.Lines.{lines_of}
use Rattle.bench_lines.specs.ReadEntries.{HasHeardEntry, HasReadEntry, HasReadLog, entry_in, lines_said}
use Rattle.bench_lines.specs.declared.log_entries.SaidEntry.{SaidEntry}
use Rattle.bench_lines.specs.declared.log_entries.SaidEntry.TheVariants as said
use Rattle.bench_lines.proofs.Entries.{lines_pushed}

-- So many lines of the log in these bytes are read, the judge has heard them, and this is left.
pub record StandsAt (bytes rest : List ℕ) (judge : JudgeValue) (count : ℕ) : Type 0 where
  pub tag : LoggedTag
  pub log : List LogEntry
  pub read : HasReadLog bytes tag log (lines_of rest)
  pub heard : HasHeardLog tag log judge
  pub counted : lines_in log ≡ count

module _ (bytes rest left : List ℕ) (judge next : JudgeValue) (count : ℕ) (command : Command) (answer : Answer) where
  -- an entry more
  pub stands_on : (entry : SaidEntry) (at : StandsAt bytes rest judge count) → entry ≢ said.End
      → HasReadEntry bytes at.tag at.log (entry_in entry command answer) (lines_of left)
      → HasHeardEntry at.tag at.log (entry_in entry command answer) next → StandsAt bytes left next (count + lines_said entry)
  stands_on said.Hears at more read heard =
      let entry = Exchange (Some command) (seen_in answer) in
      record { tag = at.tag; log = at.log ++ entry ∷ []; read = read; heard = heard; counted = omega (arith, lines_pushed at.log entry, at.counted) }
  stands_on said.HearsNoCommand at more read heard =
      let entry = Exchange None (seen_in answer) in
      record { tag = at.tag; log = at.log ++ entry ∷ []; read = read; heard = heard; counted = omega (arith, lines_pushed at.log entry, at.counted) }
  stands_on (said.Befalls event) at more read heard =
      record { tag = at.tag; log = at.log ++ Befalls event ∷ []; read = read; heard = heard; counted = omega (arith, lines_pushed at.log (Befalls event), at.counted) }
  stands_on said.End at more read heard = absurd (more refl)
