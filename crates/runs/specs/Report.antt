-- Profile: the report of a run, as lines in the order of what happens.
use Rattle.std.specs.Prelude.{ℕ, ◌+◌, List, [], ◌∷◌, ◌++◌, length, map, filter}
use Rattle.air_model.specs.Channel.{heard_levels, wave_for}
use Rattle.air_model.specs.Past.{Start, Record, Item, befell, exchanged, operated, ended, tags_behind}
use Rattle.runs.specs.History.{history_of}
use Rattle.runs.specs.Listing.{Listed, listed_by, listing_of}
use Rattle.runs.specs.Said.{said_lines}
use Rattle.runs.specs.ScenarioHistory.{start_of}
use Rattle.report_lines.specs.ModeLines.{keeps}
use Rattle.report_lines.specs.ModeSpelling.{text_in}
use Rattle.report_lines.specs.declared.mode.Mode.{Mode}
use Rattle.pie_line.specs.Link.{LinkValue, blf_of}
use Rattle.report_lines.specs.ReportLine.{ReportLine, BlfLine, TxLine, RxLine, ListLine, OpLine, RoundLine, SeenLine, TagLine, DoneLine}
use Rattle.report_lines.specs.SeenCounts.{seen_counts}
use Rattle.scenario.specs.declared.values.Scenario.{Scenario}
use Rattle.scenario.specs.declared.values.Step.{Step}
use Rattle.tag_machine.specs.TagValue.{TagValue}

-- first: the backscatter link frequency
abbrev pub first_lines : LinkValue → List ReportLine
first_lines link = BlfLine (blf_of link).0 (blf_of link).1 ∷ []

-- the intervals of the frame, how many tags replied, and the levels that came
abbrev pub wave_lines : LinkValue → Record → List ReportLine
wave_lines link sent =
    TxLine sent.exchange (wave_for link sent.command) ∷ RxLine sent.exchange (length sent.replies) (heard_levels link sent.given) ∷ []

-- for each exchange: who said what, and the waves
abbrev pub exchange_lines : LinkValue → Record → List ReportLine
exchange_lines link sent = said_lines link sent ++ wave_lines link sent

-- a line for what an exchange lists
abbrev pub list_line : Listed → ReportLine
list_line listed = ListLine listed.round listed.slot listed.pc listed.epc

-- the lines of what happened once
abbrev pub item_lines : LinkValue → Item → List ReportLine
item_lines link (befell event number) = []
item_lines link (exchanged sent) = exchange_lines link sent ++ map list_line (listed_by sent)
item_lines link (operated round slot index result) = OpLine round slot index result ∷ []
item_lines link (ended round end slots) = RoundLine round end slots ∷ []

-- the lines of a past, which has the latest first
abbrev pub past_lines : LinkValue → List Item → List ReportLine
past_lines link [] = first_lines link
past_lines link (item ∷ past) = past_lines link past ++ item_lines link item

-- after the steps: how often each pair of PC and EPC was listed, in the order in which they came first
abbrev pub seen_lines : List Listed → List ReportLine
seen_lines listing = map (λ seen. SeenLine seen.count seen.pc seen.epc) (seen_counts (map (λ listed. (listed.pc, listed.epc)) listing))

-- then each tag, numbered from a number on
abbrev pub tag_lines : ℕ → List TagValue → List ReportLine
tag_lines number [] = []
tag_lines number (tag ∷ tags) = TagLine number tag ∷ tag_lines (number + 1) tags

-- what follows the steps
abbrev pub last_lines : Start → List Item → List ReportLine
last_lines start past = seen_lines (listing_of past) ++ tag_lines 0 (tags_behind start past) ++ DoneLine ∷ []

-- all that the one history of these steps has to tell
abbrev pub run_lines : Start → List Step → List ReportLine
run_lines start steps =
    let past = history_of start steps in past_lines start.link past ++ last_lines start past

-- the report: of these the lines that its mode keeps
abbrev pub report_of : Mode → Start → List Step → List ReportLine
report_of mode start steps = filter (keeps mode) (run_lines start steps)

-- the report of a scenario, as the text of its mode
abbrev pub report_text_of : Mode → Scenario → List ℕ
report_text_of mode scenario = text_in mode scenario.link (report_of mode (start_of scenario) scenario.steps)
