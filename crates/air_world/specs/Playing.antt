-- Profile: a run that is under way. A contract says of each part of it what the past becomes, and what is told.
use Rattle.std.specs.Prelude.{◌≡◌, ◌≢◌, ℕ, ◌+◌, ◌*◌, ◌≤◌, ◌^◌, ◌||◌, Bool, List, ◌∷◌, [], ◌++◌, Option, Some, Result, length, min}
use Rattle.access_ops.specs.OpRunValue.{OpRunValue, OpRunStandsFor, turns_left}
use Rattle.access_ops.specs.declared.OpList.{OpList}
use Rattle.access_ops.specs.laws.OperationLaws.{Expects}
use Rattle.air_channel.specs.Air.{AirValue, NamesTags, last_exchange}
use Rattle.air_events.specs.Cursor.{AreEntriesLeft}
use Rattle.air_events.specs.Entries.{entry_at}
use Rattle.air_events.specs.declared.Entry.{Entry}
use Rattle.air_model.specs.Channel.{HasFewLevels}
use Rattle.tag_machine.specs.TagsInExchange.{AreLegalTags}
use Rattle.air_model.specs.Past.{Start, Record, Item, exchanged, ended, exchanges_in, rounds_in, tags_behind}
use Rattle.air_model.specs.Reception.{reception_of, reception_with}
use Rattle.air_model.specs.declared.got.Got.{Got}
use Rattle.air_model.specs.declared.got.Got.TheVariants as gots
use Rattle.air_world.specs.NewAir.{new_air}
use Rattle.air_world.specs.Saying.{IsBehind}
use Rattle.air_world.specs.Telling.{EndsOrFails, IsCutOff, lines_to_tell}
use Rattle.reply_wire.specs.Codes.{table_of}
use Rattle.pie_line.specs.Link.{LinkValue}
use Rattle.q_round.specs.declared.round.RoundEnd.{RoundEnd}
use Rattle.reply_grammar.specs.Reception.{reception_from}
use Rattle.reply_grammar.specs.declared.expected.Expect.{Expect}
use Rattle.reply_grammar.specs.declared.expected.Received.{Received}
use Rattle.reply_wire.specs.Received.{IsReceived}
use Rattle.report_lines.specs.ReportLine.{ReportLine}
use Rattle.report_lines.specs.declared.mode.PlayFault.{PlayFault}
use Rattle.runs.specs.NextItem.{expectation_of}
use Rattle.runs.specs.Report.{exchange_lines}
use Rattle.runs.specs.ScenarioHistory.{start_of}
use Rattle.scenario.specs.Limits.{IsScenario, IsStep}
use Rattle.scenario.specs.declared.values.Scenario.{Scenario}
use Rattle.scenario.specs.declared.values.Step.{Step}
use Rattle.scenario_lines.specs.declared.version.Version.{Version}

-- what is kept of a run beside the air: what is said of later exchanges, how many exchanges were made, and how many rounds ended
pub record RunValue : Type 0 where
  pub entries : List (ℕ × Entry)
  pub exchanges : ℕ
  pub rounds : ℕ

-- what is said of each exchange names tags that there are
abbrev pub NamesItsTags : Start → Type 0
NamesItsTags start = (exchange : ℕ) → NamesTags (length start.tags) (entry_at start.entries exchange)

-- what is said of each exchange gives no more levels than the longest stream has
abbrev pub GivesFewLevels : Start → Type 0
GivesFewLevels start = (exchange : ℕ) → HasFewLevels (entry_at start.entries exchange).choice

-- how many exchanges there were on an air, so many before a run, and behind so many of the run
abbrev pub counted_on : ℕ → ℕ → ℕ
counted_on earlier exchanges = min (earlier + exchanges) last_exchange

-- the air, which had so many exchanges before the run, and the run are what a past made of them
pub record RunIsAt (start : Start) (earlier : ℕ) (past : List Item) (air : AirValue) (run : RunValue) : Type 0 where
  pub names : NamesItsTags start
  pub few : GivesFewLevels start
  pub link : air.link ≡ start.link
  pub several : air.several ≡ start.several
  pub tags : air.tags ≡ tags_behind start past
  pub legal : AreLegalTags air.tags
  pub exchanges : air.exchanges ≡ counted_on earlier (exchanges_in past)
  pub made : run.exchanges ≡ exchanges_in past
  pub entries : AreEntriesLeft run.entries start.entries (exchanges_in past)
  pub rounds : run.rounds ≡ rounds_in past

-- how a run began: its start, how many exchanges there were on its air before, and what its listener was
pub record Begun (A : Type 0) : Type 0 where
  pub start : Start
  pub earlier : ℕ
  pub first : A

-- the air and the run are what a past made of them since the run began, and the listener has heard the lines of that past
pub record StandsAt {A : Type 0} (hears : A → List ReportLine → A → Type 0) (begun : Begun A) (past : List Item) (air : AirValue) (run : RunValue) (report : A) : Type 0 where
  pub at : RunIsAt begun.start begun.earlier past air run
  pub heard : hears begun.first (lines_to_tell begun.start past) report

-- the air, the run and its listener stand behind a past, or the run was cut off by the first fault of the listener, which has heard a front
-- of the lines of that past
abbrev pub StandsOrFails : {A T : Type 0} → (A → List ReportLine → A → Type 0) → (A → Option PlayFault) → Result T PlayFault → Begun A → (past : List Item) → AirValue → RunValue → A → Type 0
StandsOrFails hears failed result begun past air run report =
    EndsOrFails result (StandsAt hears begun past air run report) (IsCutOff hears failed begun.first report (lines_to_tell begun.start past))

-- What is received of the stream of an exchange is what its record says, where the command of an inventory awaits it, or one of an operation.
pub record IsHeard (link : LinkValue) (sent : Record) (air : AirValue) (got : Got) : Type 0 where
  pub inventory : (expect : Expect) (received : Received) → expectation_of sent.command ≡ Some expect → got ≢ gots.Silence
      → IsReceived (table_of air.link.code) air.link.trext expect air.stream received → reception_from received ≡ reception_of expect sent.given
  pub operations : (expect : Expect) (extended : Bool) (received : Received) → Expects sent.command expect extended → got ≢ gots.Silence
      → IsReceived (table_of air.link.code) (extended || air.link.trext) expect air.stream received → reception_from received ≡ reception_with link.trext extended expect sent.given

-- behind an exchange of which this is the record, when its lines are heard, but not yet what it lists
pub record IsSentAndHeard {A : Type 0} (hears : A → List ReportLine → A → Type 0) (begun : Begun A) (past : List Item) (sent : Record) (air : AirValue) (run : RunValue) (report : A) (got : Got) : Type 0 where
  pub at : RunIsAt begun.start begun.earlier (exchanged sent ∷ past) air run
  pub behind : IsBehind begun.start.link sent air got
  pub received : IsHeard begun.start.link sent air got
  pub heard : hears begun.first (lines_to_tell begun.start past ++ exchange_lines begun.start.link sent) report

-- a run of a scenario on its air, to which no command was sent yet
pub record IsNewRun (scenario : Scenario) (air : AirValue) (run : RunValue) : Type 0 where
  pub is : IsScenario scenario
  pub fresh : air ≡ new_air (start_of scenario)
  pub at : RunIsAt (start_of scenario) 0 [] air run

-- a run of a scenario begins, with this listener
abbrev pub begun_with : {A : Type 0} → Scenario → A → Begun A
begun_with scenario first = record { start = start_of scenario; earlier = 0; first = first }

-- a step that a scenario of some version may have, where there are so many tags
pub record IsPlayable (tags : ℕ) (step : Step) : Type 0 where
  pub version : Version
  pub is : IsStep version tags step

-- so many more exchanges fit before their number has no room
abbrev pub HasRoomForExchanges : ℕ → List Item → Type 0
HasRoomForExchanges more past = exchanges_in past + more ≤ 2 ^ 34

-- how many exchanges a slot has at most: the slot command, the ACK, one command for the handle and four for each of 32 operations
abbrev pub most_in_slot : ℕ
most_in_slot = 131

-- how many exchanges a round has at most: those of 70,000 slots
abbrev pub most_in_round : ℕ
most_in_round = 9170000

-- how many slot commands a round has at most
abbrev pub most_slots : ℕ
most_slots = 70000

-- the air, the run and its listener stand behind some past, and so many more exchanges fit
pub record IsUnderway {A : Type 0} (hears : A → List ReportLine → A → Type 0) (more : ℕ) (air : AirValue) (run : RunValue) (report : A) : Type 0 where
  pub begun : Begun A
  pub past : List Item
  pub stands : StandsAt hears begun past air run report
  pub room : HasRoomForExchanges more past

-- the air, the run and its listener stand behind some past, between two steps, and so many more steps fit
pub record IsBetweenSteps {A : Type 0} (hears : A → List ReportLine → A → Type 0) (steps : ℕ) (air : AirValue) (run : RunValue) (report : A) : Type 0 where
  pub begun : Begun A
  pub past : List Item
  pub stands : StandsAt hears begun past air run report
  pub room : HasRoomForExchanges (most_in_round * steps) past
  pub rounds : rounds_in past + steps ≤ 2 ^ 31

-- this past ends with a round that ended so
pub record IsEndedBy (end : RoundEnd) (past : List Item) : Type 0 where
  pub number : ℕ
  pub slots : ℕ
  pub before : List Item
  pub is : past ≡ ended number end slots ∷ before

-- no operation of this list was begun with the tag that sent some EPC, and some RN16 before it
pub record IsAtFirstOperation (run : OpRunValue) (list : OpList) : Type 0 where
  pub epc : List ℕ
  pub rn : ℕ
  pub stands : OpRunStandsFor run list epc rn []
  pub turns : turns_left list run ≤ 5 * length list.ops + 2
