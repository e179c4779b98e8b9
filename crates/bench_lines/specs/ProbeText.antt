-- Profile: the text of a probe, and the first faulty line of bytes that are none.
use Rattle.std.specs.Prelude.{◌≡◌, ◌≢◌, ℕ, ◌<◌, ◌≤◌, List, [], ◌∷◌, ◌++◌, length}
use Rattle.text_fields.specs.Lines.{fields_of}
use Rattle.text_fields.specs.declared.fields_fault.FieldsFault.TheVariants as reasons
use Rattle.checked_lines.specs.TextRules.{TextRules, Faulty, Whole, HasOutcomeFrom, IsFirstFault, IsText}
use Rattle.checked_lines.specs.declared.fault.FaultReason.{FaultReason}
use Rattle.checked_lines.specs.declared.fault.FaultReason.TheVariants.{Extra, End, Version, Word, Limit, Shape, Number}
use Rattle.scenario_lines.specs.declared.keywords.Keyword.TheVariants as keywords
use Rattle.scenario_lines.specs.declared.tag.TagSpec.{TagSpec}
use Rattle.scenario_lines.specs.Names.{keyword_text}
use Rattle.scenario_lines.specs.Reading.{MisreadsTag}
use Rattle.bench_lines.specs.Stimuli.{Stimulus, ProbeLine}
use Rattle.bench_lines.specs.Stimuli as lines
use Rattle.bench_lines.specs.declared.probe_line.LineWord.TheVariants as words
use Rattle.bench_lines.specs.ProbeLine.{SpellsProbeLine, SpellsTag, version_line}
use Rattle.bench_lines.specs.ProbeLineFaults.{BeginsWithWord, IsFaultyProbeLine}

-- how many lines of a probe may stand between that of the tag and the end
abbrev pub most_stimuli : ℕ
most_stimuli = 70000

-- where the text of a probe stands behind some of its lines
pub data ProbeStanding : Type 0 where
  -- before the first line of the probe
  start : ProbeStanding
  -- behind the version line of the probe
  begun : ProbeStanding
  -- behind the line of this tag, and lines that say that this is done to it
  within : (tag : TagSpec) (said : List Stimulus) → ProbeStanding
  -- behind the line of this tag, lines that say that this is done to it, and the end
  ended : (tag : TagSpec) (said : List Stimulus) → ProbeStanding

-- where it stands behind a line more
abbrev pub after : TagSpec → List Stimulus → ProbeLine → ProbeStanding
after tag said (lines.Does stimulus) = within tag (said ++ stimulus ∷ [])
after tag said lines.End = ended tag said

-- the line is not one too many
abbrev pub HasRoom : ℕ → ProbeLine → Type 0
HasRoom count (lines.Does stimulus) = count < most_stimuli
HasRoom count lines.End = Unit {0}

-- the line says one that may stand behind these, and leads there
pub record GoesOn (tag : TagSpec) (said : List Stimulus) (line : List ℕ) (to : ProbeStanding) : Type 0 where
  pub says : ProbeLine
  pub spells : SpellsProbeLine (fields_of line) says
  pub room : HasRoom (length said) says
  pub leads : to ≡ after tag said says

-- the line says the tag of a probe, and leads there
pub record TellsTag (line : List ℕ) (to : ProbeStanding) : Type 0 where
  pub tag : TagSpec
  pub spells : SpellsTag (fields_of line) tag
  pub leads : to ≡ within tag []

-- the line may stand here in the text of a probe, and leads there
abbrev pub ProbeGoesTo : ProbeStanding → List ℕ → ProbeStanding → Type 0
ProbeGoesTo start line to = (line ≡ version_line) × (to ≡ begun)
ProbeGoesTo begun line to = TellsTag line to
ProbeGoesTo (within tag said) line to = GoesOn tag said line to
ProbeGoesTo (ended tag said) line to = ⊥

-- the first field is the one of a tag line
pub record BeginsAsTag (fields : List (List ℕ)) : Type 0 where
  pub others : List (List ℕ)
  pub first : fields ≡ keyword_text keywords.Tag ∷ others

-- the first reason for which the tag line of a probe says no tag
abbrev pub IsFaultyTagLine : List (List ℕ) → FaultReason → Type 0
IsFaultyTagLine fields Word = ¬ BeginsAsTag fields
IsFaultyTagLine fields fault = (begins : BeginsAsTag fields) × MisreadsTag begins.others fault

-- as many lines stand before it as may, and it isn't the end
pub record IsStimulusTooMuch (count : ℕ) (fields : List (List ℕ)) : Type 0 where
  pub full : most_stimuli ≤ count
  pub needs : ¬ BeginsWithWord fields words.End

-- the first reason for which a line is faulty that stands behind the tag and so many lines
abbrev pub IsFaultyBehindTag : ℕ → List (List ℕ) → FaultReason → Type 0
IsFaultyBehindTag count fields Word = IsFaultyProbeLine fields reasons.Word
IsFaultyBehindTag count fields Limit = (¬ IsFaultyProbeLine fields reasons.Word) × IsStimulusTooMuch count fields
IsFaultyBehindTag count fields Shape = (¬ IsStimulusTooMuch count fields) × IsFaultyProbeLine fields reasons.Shape
IsFaultyBehindTag count fields Number = (¬ IsStimulusTooMuch count fields) × IsFaultyProbeLine fields reasons.Number
IsFaultyBehindTag count fields fault = ⊥

-- the first reason for which a line of a probe that has its line feed is faulty, by where it stands
abbrev pub IsFaultyInProbe : ProbeStanding → List ℕ → FaultReason → Type 0
IsFaultyInProbe start line fault = (fault ≡ Version) × (line ≢ version_line)
IsFaultyInProbe begun line fault = IsFaultyTagLine (fields_of line) fault
IsFaultyInProbe (within tag said) line fault = IsFaultyBehindTag (length said) (fields_of line) fault
-- behind the end of a probe nothing may stand
IsFaultyInProbe (ended tag said) line fault = fault ≡ Extra

-- a text has an end
abbrev pub MayEnd : ProbeStanding → Type 0
MayEnd (ended tag said) = Unit {0}
MayEnd standing = ⊥

-- before the end a line is needed, and behind it there is none
abbrev pub unended_reason : ProbeStanding → FaultReason
unended_reason (ended tag said) = Extra
unended_reason standing = End

-- the rules of the texts of probes
abbrev pub probe_rules : TextRules ProbeStanding FaultReason
probe_rules = record { start = start; leads = ProbeGoesTo; is_faulty = IsFaultyInProbe; may_end = MayEnd; unended = unended_reason }

-- the bytes are the text of a probe of this tag, to which this is done
abbrev pub IsProbe : (bytes : List ℕ) → TagSpec → List Stimulus → Type 0
IsProbe bytes tag said = IsText probe_rules bytes (ended tag said)

-- the bytes are the text of a probe
pub record IsProbeText (bytes : List ℕ) : Type 0 where
  pub tag : TagSpec
  pub said : List Stimulus
  pub is : IsProbe bytes tag said

-- the first faulty line of the bytes by the rules of a probe, counted from 1, with its first reason
abbrev pub IsFirstProbeFault : List ℕ → ℕ → FaultReason → Type 0
IsFirstProbeFault bytes number fault = IsFirstFault probe_rules bytes number fault

-- of the lines behind that of the tag, whatever that says, the first faulty one
abbrev pub IsFirstFaultBehind : List (List ℕ) → ℕ → FaultReason → Type 0
IsFirstFaultBehind behind number fault = (tag : TagSpec) → HasOutcomeFrom probe_rules (within tag []) 3 behind (Faulty number fault)

-- the lines say what is done to the tag, one after another, and then the end, behind whose line feed nothing stands
abbrev pub SayStimuli : List (List ℕ) → List Stimulus → Type 0
SayStimuli [] said = ⊥
SayStimuli (line ∷ behind) [] = SpellsProbeLine (fields_of line) lines.End × (behind ≡ [] ∷ [])
SayStimuli (line ∷ behind) (stimulus ∷ said) = SpellsProbeLine (fields_of line) (lines.Does stimulus) × SayStimuli behind said

-- what the lines behind that of the tag say, which is not too much
pub record AreStimuli (behind : List (List ℕ)) (said : List Stimulus) : Type 0 where
  pub say : SayStimuli behind said
  pub few : length said ≤ most_stimuli

-- they end the text of a probe of whatever tag, to which this is done
pub record EndProbe (behind : List (List ℕ)) : Type 0 where
  pub said : List Stimulus
  pub are : AreStimuli behind said
  pub whole : (tag : TagSpec) → HasOutcomeFrom probe_rules (within tag []) 3 behind (Whole (ended tag said))
