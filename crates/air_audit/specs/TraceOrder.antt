-- Profile: where a trace stands after some of its lines, and which line may follow. The tags' answers are those of the standard's
-- state tables, and what comes of them is what the channel gives by the entries.
use Rattle.std.specs.Prelude.{◌≡◌, ℕ, zero, suc, ◌+◌, List, [], ◌∷◌, length, Option, Some, None, slice_get}
use Rattle.command_grammar.specs.declared.commands.Command.{Command}
use Rattle.command_grammar.specs.declared.commands.Command.TheVariants as commands
use Rattle.pie_line.specs.Link.{LinkValue, blf_of}
use Rattle.tag_machine.specs.TagValue.{TagValue}
use Rattle.air_model.specs.Channel.{heard_levels}
use Rattle.air_model.specs.Past.{Start, Record, Item, befell, exchanged, operated, ended as round_ended, exchanges_in, next_record, tags_behind}
use Rattle.report_lines.specs.ReportLine.{ReportLine, BlfLine, RxLine, TagLine, DoneLine}
use Rattle.runs.specs.Listing.{Listed, listed_by}
use Rattle.runs.specs.Report.{list_line}
use Rattle.report_lines.specs.ReadLines.{text_of}
use Rattle.air_audit.specs.TraceLineWords.{word_of_line}
use Rattle.air_audit.specs.TraceLines.{Sends}
use Rattle.air_audit.specs.declared.trace_line_words.Word.{Word}
use Rattle.air_audit.specs.declared.trace_line_words.Word.TheVariants as words

-- The round and the slot of a record, which no line of its exchange says: the round is the number of the Query commands so far,
-- and the slot that of the slot commands from the last Query on. Both are 0 before any Query.
pub record Place : Type 0 where
  pub round : ℕ
  pub slot : ℕ

-- a QueryRep or QueryAdjust begins the next slot of a round
abbrev pub next_slot : (round slot : ℕ) → Place
next_slot zero slot = record { round = 0; slot = 0 }
next_slot (suc round) slot = record { round = suc round; slot = slot + 1 }

abbrev pub place_of_command : Place → Command → Place
place_of_command place (commands.Query dr line_code trext sel session target q) = record { round = place.round + 1; slot = 1 }
place_of_command place (commands.QueryRep session) = next_slot place.round place.slot
place_of_command place (commands.QueryAdjust session updn) = next_slot place.round place.slot
place_of_command place command = place

-- the place in a round of the latest record of a trace
abbrev pub place_in : List Item → Place
place_in [] = record { round = 0; slot = 0 }
place_in (befell event number ∷ past) = place_in past
place_in (exchanged sent ∷ past) = place_of_command (place_in past) sent.command
place_in (operated round slot index result ∷ past) = place_in past
place_in (round_ended round end slots ∷ past) = place_in past

-- the record of a command that a tx line sends next
abbrev pub record_of : Start → List Item → Command → Record
record_of start past command =
    let place = place_of_command (place_in past) command in next_record start place.round place.slot command past

-- where a trace stands after some of its lines
pub data TraceStanding : Type 0 where
  -- before the first line of the trace
  begun : TraceStanding
  -- behind the first line or an exchange
  between : (past : List Item) → TraceStanding
  -- behind the tx line of an exchange, whose rx line must follow
  sending : (past : List Item) → (sent : Record) → TraceStanding
  -- behind an exchange that lists an EPC, whose list line must follow
  listing : (past : List Item) → (listed : Listed) → TraceStanding
  -- behind the lines of so many tags, of one at least
  telling : (past : List Item) → (told : ℕ) → TraceStanding
  -- behind the last line
  ended : (past : List Item) → TraceStanding

-- behind an exchange that lists these: one EPC, or none
abbrev pub behind_exchange : List Item → List Listed → TraceStanding
behind_exchange past [] = between past
behind_exchange past (listed ∷ others) = listing past listed

-- the first line of a trace, which says the backscatter link frequency
abbrev pub link_line : LinkValue → ReportLine
link_line link = BlfLine (blf_of link).0 (blf_of link).1

-- how many tags replied, and the levels that the interrogator hears
abbrev pub rx_line : Start → Record → ReportLine
rx_line start sent = RxLine sent.exchange (length sent.replies) (heard_levels start.link sent.given)

-- behind the lines of so many tags: the line of the next tag, or the last line where there is none
abbrev pub told_line : ℕ → Option TagValue → ReportLine
told_line told None = DoneLine
told_line told (Some tag) = TagLine told tag

abbrev pub behind_told : List Item → ℕ → Option TagValue → TraceStanding
behind_told past told None = ended past
behind_told past told (Some tag) = telling past (told + 1)

-- the tag whose line comes next
abbrev pub next_tag : Start → List Item → ℕ → Option TagValue
next_tag start past told = slice_get (tags_behind start past) told

-- the line is this one, and leads there
pub record IsTheLine (expected : ReportLine) (behind : TraceStanding) (line : List ℕ) (to : TraceStanding) : Type 0 where
  pub text : line ≡ text_of expected
  pub leads : to ≡ behind

-- the line is the next of the tags' lines
abbrev pub TellsNextTag : Start → List Item → ℕ → List ℕ → TraceStanding → Type 0
TellsNextTag start past told line to =
    let next = next_tag start past told in IsTheLine (told_line told next) (behind_told past told next) line to

-- the line sends the next command
pub record SendsNext (start : Start) (past : List Item) (line : List ℕ) (to : TraceStanding) : Type 0 where
  pub command : Command
  pub sends : Sends (exchanges_in past + 1) line command
  pub leads : to ≡ sending past (record_of start past command)

-- the line, which begins with this word, may follow, and leads there
abbrev pub GoesOnAs : Start → TraceStanding → Word → List ℕ → TraceStanding → Type 0
GoesOnAs start begun word line to = IsTheLine (link_line start.link) (between []) line to
GoesOnAs start (between past) words.Tx line to = SendsNext start past line to
-- nothing in it is judged
GoesOnAs start (between past) words.Unjudged line to = to ≡ between past
GoesOnAs start (between past) words.OfTags line to = TellsNextTag start past 0 line to
GoesOnAs start (sending past sent) words.Rx line to = IsTheLine (rx_line start sent) (behind_exchange (exchanged sent ∷ past) (listed_by sent)) line to
GoesOnAs start (listing past listed) word line to = IsTheLine (list_line listed) (between past) line to
GoesOnAs start (telling past told) words.OfTags line to = TellsNextTag start past told line to
GoesOnAs start standing word line to = ⊥

-- the line may follow, and leads there
abbrev pub TraceGoesOn : Start → TraceStanding → List ℕ → TraceStanding → Type 0
TraceGoesOn start from line to = GoesOnAs start from (word_of_line line) line to
