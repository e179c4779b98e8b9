-- Profile: why a line of a probe says nothing, whatever stands before it.
use Rattle.std.specs.Prelude.{◌≡◌, ◌≢◌, ℕ, ◌≤◌, Bool, List, [], ◌∷◌, length, ◌⊎◌}
use Rattle.text_fields.specs.Binary.{binary}
use Rattle.text_fields.specs.NamedFields.{AreFaulty, AreFilled}
use Rattle.text_fields.specs.declared.fields_fault.FieldsFault.{FieldsFault}
use Rattle.text_fields.specs.declared.fields_fault.FieldsFault.TheVariants as reasons
use Rattle.wire_text.specs.CommandText.{IsFaultyCommand}
use Rattle.bench_lines.specs.declared.probe_line.LineWord.{LineWord}
use Rattle.bench_lines.specs.declared.probe_line.LineWord.TheVariants as words
use Rattle.bench_lines.specs.ProbeLine.{IsProbeEvent, line_word, most_line_bits, probe_events}

-- the line begins with this word
pub record BeginsWithWord (fields : List (List ℕ)) (word : LineWord) : Type 0 where
  pub others : List (List ℕ)
  pub first : fields ≡ line_word word ∷ others

-- the first reason for which the fields behind `bits` are no list of bits
abbrev pub AreFaultyBits : List (List ℕ) → FieldsFault → Type 0
AreFaultyBits others reasons.Word = ⊥
AreFaultyBits others reasons.Shape = ¬ AreFilled 1 others
AreFaultyBits others reasons.Number = AreFilled 1 others × ((bits : List Bool) → length bits ≤ most_line_bits → others ≢ binary bits ∷ [])

-- nothing may stand behind `end`
abbrev pub AreFaultyEnd : List (List ℕ) → FieldsFault → Type 0
AreFaultyEnd others reasons.Word = ⊥
AreFaultyEnd others reasons.Shape = others ≢ []
AreFaultyEnd others reasons.Number = ⊥

-- the first reason for which the fields behind the word say nothing
abbrev pub AreFaultyBehind : LineWord → List (List ℕ) → FieldsFault → Type 0
AreFaultyBehind words.Bits others fault = AreFaultyBits others fault
AreFaultyBehind words.Event others fault = AreFaulty probe_events IsProbeEvent others fault
AreFaultyBehind words.End others fault = AreFaultyEnd others fault

-- the line begins with one of the words, and says nothing
pub record MisspellsWord (fields : List (List ℕ)) (fault : FieldsFault) : Type 0 where
  pub word : LineWord
  pub begins : BeginsWithWord fields word
  pub behind : AreFaultyBehind word begins.others fault

-- it begins with none of them, and says no command
pub record MisspellsCommand (fields : List (List ℕ)) (fault : FieldsFault) : Type 0 where
  pub other : (word : LineWord) → ¬ BeginsWithWord fields word
  pub faulty : IsFaultyCommand fields fault

-- the first reason for which the fields say no line that may stand behind that of the tag
abbrev pub IsFaultyProbeLine : List (List ℕ) → FieldsFault → Type 0
IsFaultyProbeLine fields fault = MisspellsWord fields fault ⊎ MisspellsCommand fields fault
