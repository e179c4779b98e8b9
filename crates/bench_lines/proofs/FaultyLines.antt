-- The faults of a line as its reader tells them.
use Rattle.std.proofs.Common.{◌≡◌, ◌≤◌, ℕ, List, ◌∷◌, inl}
use Rattle.std.specs.Prelude.{IfErr, IsErrAnd, Result}
use Rattle.text_fields.specs.declared.fields_fault.FieldsFault.{FieldsFault}
use Rattle.checked_lines.specs.laws.HandedOn.{fault_handed_on}
use Rattle.bench_lines.specs.declared.probe_line.LineWord.{LineWord}
use Rattle.bench_lines.specs.declared.probe_line.LineWord.TheVariants as words
use Rattle.text_fields.specs.declared.fields_fault.FieldsFault.TheVariants as reasons
use Rattle.bench_lines.specs.ProbeLineFaults.{AreFaultyBehind, BeginsWithWord, IsFaultyProbeLine}
use Rattle.bench_lines.specs.laws.ProbeLineLaws.{ProbeLineLaws}
use Rattle.bench_lines.specs.ProbeText.{IsStimulusTooMuch, most_stimuli}
use Rattle.bench_lines.specs.Stimuli as lines
use Rattle.bench_lines.specs.Stimuli.{Stimulus}
use Rattle.bench_lines.specs.ProbeLine.{SpellsProbeLine, line_word}
use Rattle.bench_lines.proofs.LineTexts.{stimulus_is_no_end, word_or_word}

-- behind a word
pub faulty_behind : {T : Type 0} (result : Result T FieldsFault) (cause : FieldsFault) (fields others : List (List ℕ)) (word : LineWord) → IsErrAnd result (λ fault. fault ≡ cause)
    → fields ≡ line_word word ∷ others → AreFaultyBehind word others cause → IfErr result (IsFaultyProbeLine fields)
faulty_behind result cause fields others word is first faulty =
    fault_handed_on result cause (IsFaultyProbeLine fields) is (inl (record { word = word; begins = record { others = others; first = first }; behind = faulty }))

-- another word
pub begins_with_bits : (fields others : List (List ℕ)) → fields ≡ line_word words.Bits ∷ others → ¬ BeginsWithWord fields words.End
begins_with_bits fields others first begins = word_or_word fields others begins.others words.Bits words.End (λ same. cc) first begins.first

pub begins_with_event : (fields others : List (List ℕ)) → fields ≡ line_word words.Event ∷ others → ¬ BeginsWithWord fields words.End
begins_with_event fields others first begins = word_or_word fields others begins.others words.Event words.End (λ same. cc) first begins.first

pub ruleset no_ends = (begins_with_bits, begins_with_event)

-- what is said is known, and has no room
pub one_too_many : ProbeLineLaws → (count : ℕ) (fields : List (List ℕ)) (stimulus : Stimulus) → SpellsProbeLine fields (lines.Does stimulus) → most_stimuli ≤ count
    → (¬ IsFaultyProbeLine fields reasons.Word) × IsStimulusTooMuch count fields
one_too_many laws count fields stimulus spells full =
    (laws.not_faulty fields (lines.Does stimulus) reasons.Word spells, record { full = full; needs = stimulus_is_no_end fields stimulus spells })
