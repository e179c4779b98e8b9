-- Profile: which scenarios have a text.
use Rattle.std.specs.Prelude.{◌≡◌, ◌≢◌, ℕ, ◌<◌, ◌≤◌, [], length, All, None, IfSome, ◌⊎◌}
use Rattle.air_events.specs.declared.Several.{Several}
use Rattle.air_events.specs.declared.Several.TheVariants.{Break}
use Rattle.air_events.specs.TagNumbers.{most_tags}
use Rattle.air_events.specs.declared.Entry.{Entry}
use Rattle.air_events.specs.Entries.{Rises}
use Rattle.access_ops.specs.declared.OpList.{OpList}
use Rattle.command_grammar.specs.declared.commands.Command.TheVariants as commands
use Rattle.pie_line.specs.Link.{IsLegalLink}
use Rattle.scenario_lines.specs.declared.version.Version.{Version}
use Rattle.scenario_lines.specs.declared.version.Version.TheVariants.{One, Two}
use Rattle.scenario_lines.specs.TagForm.{IsTag, epc_length}
use Rattle.access_ops.specs.laws.OperationLaws.{IsLegalOp}
use Rattle.scenario_lines.specs.LineForm.{IsEvent, IsPlace, IsChoice, IsExchange, IsRound, IsSelection, IsEpc}
use Rattle.scenario.specs.declared.values.Step.{Step}
use Rattle.scenario.specs.declared.values.Step.TheVariants as steps
use Rattle.scenario.specs.declared.values.Scenario.{Scenario}
use Rattle.scenario.specs.declared.values.TagGroup.{TagGroup}
use Rattle.scenario.specs.EntryLines.{air_lines}
use Rattle.scenario.specs.Groups.{tags_of}

-- the limits on the numbers of tags, by the version, of air lines and steps, and of the operations of one round
abbrev pub most_tags_of : Version → ℕ
most_tags_of One = 256
most_tags_of Two = most_tags

abbrev pub most_air_lines : ℕ
most_air_lines = 4096

abbrev pub most_steps : ℕ
most_steps = 1024

abbrev pub most_ops : ℕ
most_ops = 32

-- no operation and no EPC that is named
abbrev pub no_operations : OpList
no_operations = record { only = None; ops = [] }

-- what is said of one exchange says something
abbrev pub SaysSomething : Entry → Type 0
SaysSomething entry = (entry.events ≢ []) ⊎ (entry.missed ≢ []) ⊎ (entry.choice ≢ None)

-- what is said of one exchange, where there are so many tags
pub record IsEntry (tags : ℕ) (entry : ℕ × Entry) : Type 0 where
  pub exchange : IsExchange entry.0
  pub events : All (λ event. IsEvent event.0 event.1 × (event.1 < tags)) entry.1.events
  pub missed : All (λ tag. IsPlace tag × (tag < tags)) entry.1.missed
  pub choice : IfSome entry.1.choice IsChoice
  pub something : SaysSomething entry.1

-- the operations of a round, and the one EPC that they are for, where one is named
pub record IsOpList (operations : OpList) : Type 0 where
  pub only : IfSome operations.only IsEpc
  pub ops : All IsLegalOp operations.ops
  pub few : length operations.ops ≤ most_ops

-- how many tags a group has
abbrev pub IsCount : Version → ℕ → Type 0
IsCount One count = count ≡ 1
IsCount Two count = 1 ≤ count

-- A group of tags. Copies differ in the last word of their EPC, so where there are several it has one.
pub record IsGroup (version : Version) (group : TagGroup) : Type 0 where
  pub count : IsCount version group.count
  pub tag : IsTag group.spec
  pub differ : 1 < group.count → 1 ≤ epc_length group.spec

-- in a scenario of this version, what the channel may give where several tags reply and nothing is chosen
abbrev pub IsDefault : Version → Several → Type 0
IsDefault One several = several ≡ Break
IsDefault Two several = Unit {0}

-- a step, where there are so many tags
abbrev pub IsStep : Version → ℕ → Step → Type 0
IsStep version tags (steps.Select (commands.Select target action bank pointer mask)) =
    IsSelection (record { target = target; action = action; bank = bank; pointer = pointer; mask = mask })
IsStep version tags (steps.Select command) = ⊥
IsStep version tags steps.Nak = Unit {0}
IsStep version tags (steps.Event event tag) = IsEvent event tag × (tag < tags)
IsStep version tags (steps.Round spec operations) = IsRound version spec × IsOpList operations

-- the scenario keeps the limits of its version, and so has a text
pub record IsScenario (scenario : Scenario) : Type 0 where
  pub link : IsLegalLink scenario.link
  pub several : IsDefault scenario.version scenario.several
  pub groups : All (IsGroup scenario.version) scenario.groups
  pub entries : All (IsEntry (length (tags_of scenario.groups))) scenario.entries
  pub rising : Rises 0 scenario.entries
  pub steps : All (IsStep scenario.version (length (tags_of scenario.groups))) scenario.steps
  pub few_tags : length (tags_of scenario.groups) ≤ most_tags_of scenario.version
  pub few_air_lines : length (air_lines scenario.entries) ≤ most_air_lines
  pub few_steps : length scenario.steps ≤ most_steps
