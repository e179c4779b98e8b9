-- The entries of a log, as they are read.
use Rattle.std.proofs.Common.{◌≡◌, ◌≢◌, ◌<◌, ◌+◌, ℕ, List, [], ◌∷◌, ◌++◌, arith, refl, sym, subst}
use Rattle.std.specs.Prelude.{Option}
use Rattle.checked_lines.specs.laws.ReadingOn.{HasReadTo, all_read, extra_read, fault_read, one_read, unended_read}
use Rattle.command_grammar.specs.declared.commands.Command.{Command}
use Rattle.log_judge.specs.Log.{LogEntry, LoggedTag, Seen, Exchange, line_count, lines_in}
use Rattle.bench_lines.specs.ProbeAnswers.{HasEffect}
use Rattle.bench_lines.specs.ProbeLine.{SpellsProbeLine}
use Rattle.bench_lines.specs.ProbeText.{most_stimuli}
use Rattle.bench_lines.specs.Stimuli.{Stimulus, StimulusEffect, Does}
use Rattle.bench_lines.specs.Stimuli as said
use Rattle.text_fields.specs.Lines.{fields_of, lines_of}
use Rattle.bench_lines.specs.SeenLine.{BeginsAsAnswer, SpellSeen}
use Rattle.bench_lines.specs.LogText.{LogGoesTo, IsFaultyNext, IsFaultySeen, IsFirstLogFault, IsLogText, LogStanding, asked, behind_effect, ended, log_rules, start, within}
use Rattle.bench_lines.specs.ReadEntries.{HasReadLog}
use Rattle.checked_lines.specs.declared.fault.FaultReason.{FaultReason}
use Rattle.checked_lines.specs.declared.fault.FaultReason.TheVariants.{End, Extra}

-- how many lines a log has with an entry more
pub lines_pushed : (log : List LogEntry) (entry : LogEntry) → lines_in (log ++ entry ∷ []) ≡ lines_in log + line_count entry
lines_pushed [] entry = omega arith
lines_pushed (first ∷ log) entry = let more = lines_pushed log entry in omega (arith, more)

pub exchange_pushed : (log : List LogEntry) (heard : Option Command) (seen : Option Seen) → lines_in (log ++ Exchange heard seen ∷ []) ≡ lines_in log + 2
exchange_pushed log heard seen = lines_pushed log (Exchange heard seen)

-- a line that leads on
read_on : (bytes : List ℕ) (from to : LogStanding) (number : ℕ) (rest line behind : List ℕ) → HasReadTo log_rules start 1 (lines_of bytes) from number (lines_of rest)
    → lines_of rest ≡ line ∷ lines_of behind → LogGoesTo from line to → HasReadTo log_rules start 1 (lines_of bytes) to (number + 1) (lines_of behind)
read_on bytes from to number rest line behind so_far cut goes =
    one_read log_rules start 1 (lines_of bytes) from number (lines_of rest) (record { line = line; rest = behind; cut = cut }) to so_far goes

renumbered : (bytes : List ℕ) (standing : LogStanding) (one other : ℕ) (left : List (List ℕ)) → one ≡ other → HasReadTo log_rules start 1 (lines_of bytes) standing one left
    → HasReadTo log_rules start 1 (lines_of bytes) standing other left
renumbered bytes standing one other left same so_far = subst (λ (number : ℕ). HasReadTo log_rules start 1 (lines_of bytes) standing number left) same so_far

-- an answer line
pub answer_read : (bytes : List ℕ) (tag : LoggedTag) (log : List LogEntry) (heard : Option Command) (seen : Option Seen) (count : ℕ) (rest line behind : List ℕ)
    → lines_in log + 1 ≡ count → HasReadTo log_rules start 1 (lines_of bytes) (asked tag log heard) (3 + count) (lines_of rest) → lines_of rest ≡ line ∷ lines_of behind
    → (begins : BeginsAsAnswer (fields_of line)) → SpellSeen begins.others seen → count < most_stimuli
    → HasReadLog bytes tag (log ++ Exchange heard seen ∷ []) (lines_of behind)
answer_read bytes tag log heard seen count rest line behind counted so_far cut begins spells room =
    let to = within tag (log ++ Exchange heard seen ∷ []) in
    let lines = exchange_pushed log heard seen in
    renumbered bytes to (3 + count + 1) (3 + lines_in (log ++ Exchange heard seen ∷ [])) (lines_of behind) (omega (arith, lines, counted))
    (read_on bytes (asked tag log heard) to (3 + count) rest line behind so_far cut
    (record { begins = begins; seen = seen; spells = spells; room = omega (arith, counted, room); leads = refl }))

pub answer_faulty : (bytes : List ℕ) (tag : LoggedTag) (log : List LogEntry) (heard : Option Command) (count : ℕ) (rest line behind : List ℕ) (fault : FaultReason)
    → lines_in log + 1 ≡ count → HasReadTo log_rules start 1 (lines_of bytes) (asked tag log heard) (3 + count) (lines_of rest) → lines_of rest ≡ line ∷ lines_of behind
    → IsFaultySeen count (fields_of line) fault → IsFirstLogFault bytes (3 + count) fault
answer_faulty bytes tag log heard count rest line behind fault counted so_far cut faulty =
    fault_read log_rules start 1 (lines_of bytes) (asked tag log heard) (3 + count) (lines_of rest) (record { line = line; rest = behind; cut = cut }) fault so_far
    (subst (λ (count : ℕ). IsFaultySeen count (fields_of line) fault) (sym counted) faulty)

pub answer_missing : (bytes : List ℕ) (tag : LoggedTag) (log : List LogEntry) (heard : Option Command) (count : ℕ) (rest : List ℕ)
    → HasReadTo log_rules start 1 (lines_of bytes) (asked tag log heard) (3 + count) (lines_of rest) → lines_of rest ≡ rest ∷ [] → IsFirstLogFault bytes (3 + count) End
answer_missing bytes tag log heard count rest so_far last =
    unended_read log_rules start 1 (lines_of bytes) (asked tag log heard) (3 + count) rest so_far last (λ none may. may)

-- behind the end
pub end_read : (bytes : List ℕ) (tag : LoggedTag) (log : List LogEntry) (number : ℕ) (rest : List ℕ) → HasReadTo log_rules start 1 (lines_of bytes) (ended tag log) number (lines_of rest)
    → rest ≡ [] → IsLogText bytes tag log
end_read bytes tag log number rest so_far none = all_read log_rules start 1 (lines_of bytes) (ended tag log) number rest so_far none tt

pub end_passed : (bytes : List ℕ) (tag : LoggedTag) (log : List LogEntry) (number : ℕ) (rest : List ℕ) → HasReadTo log_rules start 1 (lines_of bytes) (ended tag log) number (lines_of rest)
    → rest ≢ [] → IsFirstLogFault bytes number Extra
end_passed bytes tag log number rest so_far some = extra_read log_rules start 1 (lines_of bytes) (ended tag log) number rest so_far (λ line. refl) some

-- a line where no answer is awaited
pub next_faulty : (bytes : List ℕ) (tag : LoggedTag) (log : List LogEntry) (count : ℕ) (rest line behind : List ℕ) (fault : FaultReason) → lines_in log ≡ count
    → HasReadLog bytes tag log (lines_of rest) → lines_of rest ≡ line ∷ lines_of behind → IsFaultyNext count (fields_of line) fault → IsFirstLogFault bytes (3 + count) fault
next_faulty bytes tag log count rest line behind fault counted so_far cut faulty =
    fault_read log_rules start 1 (lines_of bytes) (within tag log) (3 + count) (lines_of rest) (record { line = line; rest = behind; cut = cut }) fault
    (renumbered bytes (within tag log) (3 + lines_in log) (3 + count) (lines_of rest) (omega (arith, counted)) so_far)
    (subst (λ (count : ℕ). IsFaultyNext count (fields_of line) fault) (sym counted) faulty)

pub next_missing : (bytes : List ℕ) (tag : LoggedTag) (log : List LogEntry) (count : ℕ) (rest : List ℕ) → lines_in log ≡ count → HasReadLog bytes tag log (lines_of rest)
    → lines_of rest ≡ rest ∷ [] → IsFirstLogFault bytes (3 + count) End
next_missing bytes tag log count rest counted so_far last =
    unended_read log_rules start 1 (lines_of bytes) (within tag log) (3 + count) rest
    (renumbered bytes (within tag log) (3 + lines_in log) (3 + count) (lines_of rest) (omega (arith, counted)) so_far) last (λ none may. may)

-- the end, or what is done to the tag
pub next_ends : (bytes : List ℕ) (tag : LoggedTag) (log : List LogEntry) (count : ℕ) (rest line behind : List ℕ) → lines_in log ≡ count
    → HasReadLog bytes tag log (lines_of rest) → lines_of rest ≡ line ∷ lines_of behind → (¬ BeginsAsAnswer (fields_of line)) → SpellsProbeLine (fields_of line) said.End
    → HasReadTo log_rules start 1 (lines_of bytes) (ended tag log) (3 + (count + 1)) (lines_of behind)
next_ends bytes tag log count rest line behind counted so_far cut other spells =
    renumbered bytes (ended tag log) (3 + lines_in log + 1) (3 + (count + 1)) (lines_of behind) (omega (arith, counted))
    (read_on bytes (within tag log) (ended tag log) (3 + lines_in log) rest line behind so_far cut (record { other = other; says = said.End; spells = spells; leads = refl }))

pub next_does : (bytes : List ℕ) (tag : LoggedTag) (log : List LogEntry) (stimulus : Stimulus) (effect : StimulusEffect) (count : ℕ) (rest line behind : List ℕ) → lines_in log ≡ count
    → HasReadLog bytes tag log (lines_of rest) → lines_of rest ≡ line ∷ lines_of behind → (¬ BeginsAsAnswer (fields_of line)) → SpellsProbeLine (fields_of line) (Does stimulus)
    → count < most_stimuli → HasEffect stimulus effect → HasReadTo log_rules start 1 (lines_of bytes) (behind_effect tag log effect) (3 + (count + 1)) (lines_of behind)
next_does bytes tag log stimulus effect count rest line behind counted so_far cut other spells room has =
    let to = behind_effect tag log effect in
    renumbered bytes to (3 + lines_in log + 1) (3 + (count + 1)) (lines_of behind) (omega (arith, counted))
    (read_on bytes (within tag log) to (3 + lines_in log) rest line behind so_far cut (record {
      other = other;
      says = Does stimulus;
      spells = spells;
      leads = record { room = omega (arith, counted, room); effect = effect; has = has; leads = refl };
    }))

-- an event is an entry by itself
pub event_read : (bytes : List ℕ) (tag : LoggedTag) (log : List LogEntry) (entry : LogEntry) (count : ℕ) (left : List (List ℕ)) → lines_in log ≡ count → line_count entry ≡ 1
    → HasReadTo log_rules start 1 (lines_of bytes) (within tag (log ++ entry ∷ [])) (3 + (count + 1)) left → HasReadLog bytes tag (log ++ entry ∷ []) left
event_read bytes tag log entry count left counted one so_far =
    let lines = lines_pushed log entry in
    renumbered bytes (within tag (log ++ entry ∷ [])) (3 + (count + 1)) (3 + lines_in (log ++ entry ∷ [])) left (omega (arith, lines, counted, one)) so_far
