-- Profile: the lines of a probe, and the one spelling of each.
use Rattle.std.specs.Prelude.{◌≡◌, ◌≢◌, ℕ, ◌≤◌, List, [], ◌∷◌, length, codes}
use Rattle.text_fields.specs.Binary.{binary}
use Rattle.text_fields.specs.NamedFields.{Vocabulary, spelled_fields}
use Rattle.command_fields.specs.declared.choices.FlagName.TheVariants.{S0}
use Rattle.command_grammar.specs.Commands.{IsLegalCommand}
use Rattle.wire_text.specs.CommandText.{command_fields, flag_word}
use Rattle.air_events.specs.declared.Event.{Event}
use Rattle.air_events.specs.declared.Event.TheVariants as events
use Rattle.scenario_lines.specs.declared.keywords.EventKind.{EventKind}
use Rattle.scenario_lines.specs.declared.keywords.EventKind.TheVariants as kinds
use Rattle.scenario_lines.specs.declared.keywords.Keyword.TheVariants as keywords
use Rattle.scenario_lines.specs.declared.tag.TagSpec.{TagSpec}
use Rattle.scenario_lines.specs.Names.{event_kind, event_word, keyword_text}
use Rattle.scenario_lines.specs.Spelling.{tag_spec_fields}
use Rattle.scenario_lines.specs.TagForm.{IsTag}
use Rattle.bench_lines.specs.declared.probe_line.LineWord.{LineWord}
use Rattle.bench_lines.specs.declared.probe_line.LineWord.TheVariants as words
use Rattle.bench_lines.specs.Stimuli.{ProbeLine}
use Rattle.bench_lines.specs.Stimuli as lines

-- the first line of a probe, its version
abbrev pub version_line : List ℕ
version_line = codes "probe 1"

-- how many bits a `bits` line of a probe may have
abbrev pub most_line_bits : ℕ
most_line_bits = 8240

-- the fields of the second line say the tag, as those of a scenario do
pub record SpellsTag (fields : List (List ℕ)) (tag : TagSpec) : Type 0 where
  pub spelling : fields ≡ keyword_text keywords.Tag ∷ tag_spec_fields tag
  pub is : IsTag tag

-- an event of the one tag that there is: its kind and, where the persistence of a flag ends, the flag
abbrev pub probe_event_fields : EventKind → ℕ
probe_event_fields kinds.Timeout = 0
probe_event_fields kinds.Off = 0
probe_event_fields kinds.On = 0
probe_event_fields kinds.Expire = 1

-- the fields behind the kind of an event: the flag of an expiry
abbrev pub other_event_fields : Event → List (List ℕ)
other_event_fields events.Timeout = []
other_event_fields events.Off = []
other_event_fields events.On = []
other_event_fields (events.Expire flag) = flag_word flag ∷ []

abbrev pub probe_events : Vocabulary EventKind Event
probe_events = record { name = event_word; count = probe_event_fields; kind = event_kind; others = other_event_fields }

-- S0 has no expiry (6.3.2.2)
abbrev pub IsProbeEvent : Event → Type 0
IsProbeEvent event = event ≢ events.Expire S0

-- the first field of a line of a probe that is no command
abbrev pub line_word : LineWord → List ℕ
line_word words.Bits = codes "bits"
line_word words.Event = codes "event"
line_word words.End = codes "end"

-- the fields of a line behind that of the tag: a command as it is written everywhere, bits, or an event; or the end
abbrev pub probe_line_fields : ProbeLine → List (List ℕ)
probe_line_fields (lines.Does (lines.SendsCommand command)) = command_fields command
probe_line_fields (lines.Does (lines.SendsBits bits)) = line_word words.Bits ∷ binary bits ∷ []
probe_line_fields (lines.Does (lines.Brings event)) = line_word words.Event ∷ spelled_fields probe_events event
probe_line_fields lines.End = line_word words.End ∷ []

-- each number of the line is in its range
abbrev pub IsProbeLine : ProbeLine → Type 0
IsProbeLine (lines.Does (lines.SendsCommand command)) = IsLegalCommand command
IsProbeLine (lines.Does (lines.SendsBits bits)) = length bits ≤ most_line_bits
IsProbeLine (lines.Does (lines.Brings event)) = IsProbeEvent event
IsProbeLine lines.End = Unit {0}

-- the fields say the line
pub record SpellsProbeLine (fields : List (List ℕ)) (line : ProbeLine) : Type 0 where
  pub spelling : fields ≡ probe_line_fields line
  pub is : IsProbeLine line
