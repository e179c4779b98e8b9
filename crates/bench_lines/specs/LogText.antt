-- Profile: the text of a log of one tag, by its rules: where it stands behind some of its lines says which tag and which log they tell.
use Rattle.std.specs.Prelude.{◌≡◌, ◌≢◌, ◌⊎◌, ℕ, ◌+◌, ◌<◌, ◌≤◌, List, [], ◌∷◌, ◌++◌, codes, Option, Some, None}
use Rattle.checked_lines.specs.TextRules.{TextRules, IsFirstFault, IsText}
use Rattle.command_grammar.specs.declared.commands.Command.{Command}
use Rattle.log_judge.specs.Log.{LogEntry, LoggedTag, Seen, lines_in}
use Rattle.log_judge.specs.Log as entries
use Rattle.bench_lines.specs.ProbeAnswers.{HasEffect}
use Rattle.bench_lines.specs.ProbeLineFaults.{IsFaultyProbeLine}
use Rattle.bench_lines.specs.ProbeLine.{SpellsProbeLine, SpellsTag}
use Rattle.bench_lines.specs.ProbeText.{IsFaultyTagLine, IsStimulusTooMuch, most_stimuli}
use Rattle.bench_lines.specs.Stimuli.{ProbeLine, Stimulus, StimulusEffect}
use Rattle.bench_lines.specs.Stimuli as said
use Rattle.scenario_lines.specs.declared.tag.TagSpec.{TagSpec}
use Rattle.text_fields.specs.Lines.{fields_of}
use Rattle.text_fields.specs.declared.fields_fault.FieldsFault.{FieldsFault}
use Rattle.text_fields.specs.declared.fields_fault.FieldsFault.TheVariants as reasons
use Rattle.bench_lines.specs.SeenLine.{AreFaultySeen, BeginsAsAnswer, SpellSeen}
use Rattle.checked_lines.specs.declared.fault.FaultReason.{FaultReason}
use Rattle.checked_lines.specs.declared.fault.FaultReason.TheVariants.{Extra, End, Version, Word, Order, Limit, Shape, Number}

-- the first line of the text of a log, its version
abbrev pub log_version_line : List ℕ
log_version_line = codes "judge 1"

-- where the text of a log stands behind some of its lines
pub data LogStanding : Type 0 where
  -- before the first line of the log's text
  start : LogStanding
  -- behind the version line of the log's text
  begun : LogStanding
  -- behind the line of this tag and those of this log
  within : (tag : LoggedTag) (log : List LogEntry) → LogStanding
  -- behind the line of this tag, those of this log and one more, with which this was sent, or bits that spell no command: an answer line is needed
  asked : (tag : LoggedTag) (log : List LogEntry) (heard : Option Command) → LogStanding
  -- behind the `end` line of the log's text
  ended : (tag : LoggedTag) (log : List LogEntry) → LogStanding

-- The line of the tag is that of a probe, but for the words that the tag draws, which nobody knows: with one word behind them, its fields
-- are those of a tag line.
abbrev pub with_word : List (List ℕ) → List (List ℕ)
with_word fields = fields ++ codes "0000" ∷ []

-- what a log knows of its tag: the memory and the locks
abbrev pub logged_tag : TagSpec → LoggedTag
logged_tag tag = record { image = tag.image; locks = tag.locks }

-- the line says the tag of a log, and leads there
pub record TellsLoggedTag (line : List ℕ) (to : LogStanding) : Type 0 where
  pub tag : TagSpec
  pub spells : SpellsTag (with_word (fields_of line)) tag
  pub leads : to ≡ within (logged_tag tag) []

-- what is sent waits for its answer; an event has none
abbrev pub behind_effect : LoggedTag → List LogEntry → StimulusEffect → LogStanding
behind_effect tag log (said.Hears command) = asked tag log (Some command)
behind_effect tag log said.Nothing = asked tag log None
behind_effect tag log (said.Befalls event) = within tag (log ++ entries.Befalls event ∷ [])

-- there is room for a line more, and this is done to the tag
pub record DoesNext (tag : LoggedTag) (log : List LogEntry) (stimulus : Stimulus) (to : LogStanding) : Type 0 where
  pub room : lines_in log < most_stimuli
  pub effect : StimulusEffect
  pub has : HasEffect stimulus effect
  pub leads : to ≡ behind_effect tag log effect

-- what a line of a probe leads to behind this log
abbrev pub LogLeadsTo : LoggedTag → List LogEntry → ProbeLine → LogStanding → Type 0
LogLeadsTo tag log (said.Does stimulus) to = DoesNext tag log stimulus to
LogLeadsTo tag log said.End to = to ≡ ended tag log

-- The fields are those of a line of a probe, and lead there. A line that begins as an answer is none of these.
pub record TellsNextEntry (tag : LoggedTag) (log : List LogEntry) (fields : List (List ℕ)) (to : LogStanding) : Type 0 where
  pub other : ¬ BeginsAsAnswer fields
  pub says : ProbeLine
  pub spells : SpellsProbeLine fields says
  pub leads : LogLeadsTo tag log says to

-- the fields say what the tag was seen to answer, and lead there
pub record TellsSeen (tag : LoggedTag) (log : List LogEntry) (heard : Option Command) (fields : List (List ℕ)) (to : LogStanding) : Type 0 where
  pub begins : BeginsAsAnswer fields
  pub seen : Option Seen
  pub spells : SpellSeen begins.others seen
  pub room : lines_in log + 1 < most_stimuli
  pub leads : to ≡ within tag (log ++ entries.Exchange heard seen ∷ [])

-- the line may stand here in the text of a log, and leads there
abbrev pub LogGoesTo : LogStanding → List ℕ → LogStanding → Type 0
LogGoesTo start line to = (line ≡ log_version_line) × (to ≡ begun)
LogGoesTo begun line to = TellsLoggedTag line to
LogGoesTo (within tag log) line to = TellsNextEntry tag log (fields_of line) to
LogGoesTo (asked tag log heard) line to = TellsSeen tag log heard (fields_of line) to
LogGoesTo (ended tag log) line to = ⊥

-- the first reason for which the tag line of a log says no tag
abbrev pub IsFaultyTag : List (List ℕ) → FaultReason → Type 0
IsFaultyTag fields fault = IsFaultyTagLine (with_word fields) fault

-- the line begins as an answer, and is faulty for this reason, wherever it stands
pub record IsFaultyAsAnswer (fields : List (List ℕ)) (fault : FieldsFault) : Type 0 where
  pub begins : BeginsAsAnswer fields
  pub faulty : AreFaultySeen begins.others fault

-- the line doesn't begin so, and is faulty for this reason, wherever it stands
pub record IsFaultyAsOther (fields : List (List ℕ)) (fault : FieldsFault) : Type 0 where
  pub other : ¬ BeginsAsAnswer fields
  pub faulty : IsFaultyProbeLine fields fault

-- a word of the line is unknown
abbrev pub HasUnknownWord : List (List ℕ) → Type 0
HasUnknownWord fields = IsFaultyAsAnswer fields reasons.Word ⊎ IsFaultyAsOther fields reasons.Word

-- the first reason for which a line is faulty that stands where no answer is awaited, behind the tag and so many lines
abbrev pub IsFaultyNext : ℕ → List (List ℕ) → FaultReason → Type 0
IsFaultyNext count fields Word = HasUnknownWord fields
IsFaultyNext count fields Order = (¬ HasUnknownWord fields) × BeginsAsAnswer fields
IsFaultyNext count fields Limit = (¬ HasUnknownWord fields) × (¬ BeginsAsAnswer fields) × IsStimulusTooMuch count fields
IsFaultyNext count fields Shape = (¬ IsStimulusTooMuch count fields) × IsFaultyAsOther fields reasons.Shape
IsFaultyNext count fields Number = (¬ IsStimulusTooMuch count fields) × IsFaultyAsOther fields reasons.Number
IsFaultyNext count fields fault = ⊥

-- the first reason for which a line is faulty that stands where an answer is awaited, behind the tag and so many lines of the log
abbrev pub IsFaultySeen : ℕ → List (List ℕ) → FaultReason → Type 0
IsFaultySeen count fields Word = HasUnknownWord fields
IsFaultySeen count fields Order = (¬ HasUnknownWord fields) × (¬ BeginsAsAnswer fields)
IsFaultySeen count fields Limit = (¬ HasUnknownWord fields) × BeginsAsAnswer fields × (most_stimuli ≤ count)
IsFaultySeen count fields Shape = (count < most_stimuli) × IsFaultyAsAnswer fields reasons.Shape
IsFaultySeen count fields Number = (count < most_stimuli) × IsFaultyAsAnswer fields reasons.Number
IsFaultySeen count fields fault = ⊥

-- the first reason for which a line of a log that has its line feed is faulty, by where it stands
abbrev pub IsFaultyLogLine : LogStanding → List ℕ → FaultReason → Type 0
IsFaultyLogLine start line fault = (fault ≡ Version) × (line ≢ log_version_line)
IsFaultyLogLine begun line fault = IsFaultyTag (fields_of line) fault
IsFaultyLogLine (within tag log) line fault = IsFaultyNext (lines_in log) (fields_of line) fault
IsFaultyLogLine (asked tag log heard) line fault = IsFaultySeen (lines_in log + 1) (fields_of line) fault
IsFaultyLogLine (ended tag log) line fault = fault ≡ Extra

-- a text ends behind its end
abbrev pub LogMayEnd : LogStanding → Type 0
LogMayEnd (ended tag log) = Unit {0}
LogMayEnd standing = ⊥

-- behind it nothing may stand, and before it a line is needed
abbrev pub unended_log_reason : LogStanding → FaultReason
unended_log_reason (ended tag log) = Extra
unended_log_reason standing = End

-- the rules of the text of a log
abbrev pub log_rules : TextRules LogStanding FaultReason
log_rules = record { start = start; leads = LogGoesTo; is_faulty = IsFaultyLogLine; may_end = LogMayEnd; unended = unended_log_reason }

-- the bytes are the text of this log of this tag
abbrev pub IsLogText : List ℕ → LoggedTag → List LogEntry → Type 0
IsLogText bytes tag log = IsText log_rules bytes (ended tag log)

-- the first faulty line of the bytes by the rules of a log, counted from 1, with its first reason
abbrev pub IsFirstLogFault : List ℕ → ℕ → FaultReason → Type 0
IsFirstLogFault bytes line fault = IsFirstFault log_rules bytes line fault
