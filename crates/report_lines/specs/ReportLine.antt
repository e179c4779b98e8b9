-- Profile: the lines of the report of a run, and the one spelling of each.
use Rattle.std.specs.Prelude.{ℕ, Bool, true, false, List, [], ◌∷◌, ◌++◌, map, codes}
use Rattle.std.specs.List.{flat_map}
use Rattle.std.specs.Fmt.{decimal}
use Rattle.text_fields.specs.Binary.{binary, binary_digit}
use Rattle.text_fields.specs.Hexadecimal.{hex_byte, hex_word, hex_words}
use Rattle.access_ops.specs.declared.op_next.OpResult.{OpResult}
use Rattle.access_ops.specs.declared.op_next.OpResult.TheVariants as results
use Rattle.text_fields.specs.Lines.{line_feed, line_with}
use Rattle.wire_text.specs.CommandText.{command_fields, side_letter}
use Rattle.command_grammar.specs.declared.commands.Command.{Command}
use Rattle.reply_grammar.specs.declared.expected.Reply.{Reply}
use Rattle.wire_text.specs.ReplyText.{reply_fields}
use Rattle.wave_dump.specs.Exchanged.{Exchanged}
use Rattle.wave_dump.specs.declared.exchanged.Gave.{Gave}
use Rattle.wave_dump.specs.declared.exchanged.Gave.TheVariants as gave
use Rattle.q_round.specs.declared.round.RoundEnd.{RoundEnd}
use Rattle.q_round.specs.declared.round.RoundEnd.TheVariants as ends
use Rattle.wire_text.specs.PasswordsAndLocks.{locks_text}
use Rattle.session_flags.specs.declared.flags.Flags.{Flags}
use Rattle.tag_machine.specs.declared.states.StateName.{StateName}
use Rattle.tag_machine.specs.declared.states.StateName.TheVariants as names
use Rattle.tag_machine.specs.StateNames.{name_of}
use Rattle.tag_machine.specs.TagValue.{TagValue}

-- what a run tells at one time, with the values that its line has
pub data ReportLine : Type 0 where
  -- the backscatter link frequency, as a numerator and a denominator in nanoseconds
  BlfLine : (numerator denominator : ℕ) → ReportLine
  -- a command was sent in an exchange
  ExchangeLine : (exchange : ℕ) → (command : Command) → ReportLine
  -- a tag missed it, as the scenario says
  MissedLine : (exchange tag : ℕ) → ReportLine
  -- a tag answered it: with the extended preamble or by the link's TRext, and what it sent
  AnswerLine : (exchange tag : ℕ) → (extended : Bool) → (reply : Reply) → ReportLine
  -- the intervals of the frame that was sent in an exchange, in nanoseconds
  TxLine : (exchange : ℕ) → (intervals : List ℕ) → ReportLine
  -- how many tags replied in an exchange, and the levels that came
  RxLine : (exchange count : ℕ) → (levels : List Bool) → ReportLine
  -- an exchange is over: what the channel gave, beside all that was sent and came
  GivenLine : (exchanged : Exchanged) → ReportLine
  -- a tag was listed: PC and EPC, with the round and the slot
  ListLine : (round slot pc : ℕ) → (epc : List ℕ) → ReportLine
  -- an operation with a listed tag had its result: its number, counted from 1, with the round and the slot
  OpLine : (round slot index : ℕ) → (result : OpResult) → ReportLine
  -- a round ended: how it ended, and how many slots it had
  RoundLine : (round : ℕ) → (end : RoundEnd) → (slots : ℕ) → ReportLine
  -- how often a PC and an EPC were listed
  SeenLine : (count pc : ℕ) → (epc : List ℕ) → ReportLine
  -- what a tag is in the end
  TagLine : (number : ℕ) → (tag : TagValue) → ReportLine
  -- the end of the report
  DoneLine : ReportLine

-- how a round ended, as a word
abbrev pub end_word : RoundEnd → List ℕ
end_word ends.Quiet = codes "quiet"
end_word ends.Limit = codes "limit"

-- the state of a tag, as a word (6.3.2.4 Tag states and slot counter); that of a tag without power is profile
abbrev pub state_word : StateName → List ℕ
state_word names.Ready = codes "ready"
state_word names.Arbitrate = codes "arbitrate"
state_word names.InReply = codes "reply"
state_word names.Acknowledged = codes "acknowledged"
state_word names.Opened = codes "open"
state_word names.Secured = codes "secured"
state_word names.Killed = codes "killed"
state_word names.Unpowered = codes "off"

-- the inventoried flags of S0 to S3, and SL as a binary digit
abbrev pub flags_word : Flags → List ℕ
flags_word flags =
    side_letter flags.s0 ++ side_letter flags.s1 ++ side_letter flags.s2 ++ side_letter flags.s3 ++ binary_digit flags.sl ∷ []

-- a tag: its state, its flags, its lock bits, and its four banks
abbrev pub tag_fields : ℕ → TagValue → List (List ℕ)
tag_fields number tag =
    codes "tag" ∷ decimal number ∷ state_word (name_of tag.state) ∷ flags_word tag.body.flags ∷ locks_text tag.body.locks
    ∷ hex_words tag.body.memory.reserved ∷ hex_words tag.body.memory.epc ∷ hex_words tag.body.memory.tid
    ∷ hex_words tag.body.memory.user ∷ []

-- how an operation ended: the words of a Read behind it, where there are any, and an error code as two digits (Annex I)
abbrev pub result_fields : OpResult → List (List ℕ)
result_fields (results.Ok []) = codes "ok" ∷ []
result_fields (results.Ok (word ∷ words)) = codes "ok" ∷ hex_words (word ∷ words) ∷ []
result_fields (results.TagError code) = codes "error" ∷ hex_byte code ∷ []
result_fields results.Silent = codes "silent" ∷ []
result_fields results.Broken = codes "broken" ∷ []
result_fields results.Denied = codes "denied" ∷ []

-- a reply with the extended preamble, or by the link's TRext
abbrev pub preamble_word : Bool → List ℕ
preamble_word true = codes "extended"
preamble_word false = codes "plain"

-- what the channel gave: nothing, a tag's reply whole or broken at a level, counted from 0, or a raw stream
abbrev pub given_fields : Gave → List (List ℕ)
given_fields gave.Silence = codes "silence" ∷ []
given_fields (gave.Whole tag reply) = codes "whole" ∷ decimal tag ∷ []
given_fields (gave.Broken tag place) = codes "broken" ∷ decimal tag ∷ decimal place ∷ []
given_fields gave.Raw = codes "raw" ∷ []

-- the fields of a line of a report
abbrev pub report_fields : ReportLine → List (List ℕ)
report_fields (BlfLine numerator denominator) = codes "blf" ∷ (decimal numerator ++ codes "/" ++ decimal denominator) ∷ []
report_fields (ExchangeLine exchange command) = codes "exchange" ∷ decimal exchange ∷ command_fields command
report_fields (MissedLine exchange tag) = codes "missed" ∷ decimal exchange ∷ decimal tag ∷ []
report_fields (AnswerLine exchange tag extended reply) =
    codes "answer" ∷ decimal exchange ∷ decimal tag ∷ preamble_word extended ∷ reply_fields reply
report_fields (TxLine exchange intervals) = codes "tx" ∷ decimal exchange ∷ map decimal intervals
report_fields (RxLine exchange count levels) = codes "rx" ∷ decimal exchange ∷ decimal count ∷ binary levels ∷ []
report_fields (GivenLine exchanged) = codes "given" ∷ decimal exchanged.number ∷ given_fields exchanged.given
report_fields (ListLine round slot pc epc) = codes "list" ∷ decimal round ∷ decimal slot ∷ hex_word pc ∷ hex_words epc ∷ []
report_fields (OpLine round slot index result) = codes "op" ∷ decimal round ∷ decimal slot ∷ decimal index ∷ result_fields result
report_fields (RoundLine round end slots) = codes "round" ∷ decimal round ∷ end_word end ∷ decimal slots ∷ []
report_fields (SeenLine count pc epc) = codes "seen" ∷ decimal count ∷ hex_word pc ∷ hex_words epc ∷ []
report_fields (TagLine number tag) = tag_fields number tag
report_fields DoneLine = codes "done" ∷ []

-- a line with its line feed
abbrev pub report_line_text : ReportLine → List ℕ
report_line_text line = line_with (report_fields line) ++ line_feed ∷ []

-- lines as text, each spelled so
abbrev pub text_by : (ReportLine → List ℕ) → List ReportLine → List ℕ
text_by text_of lines = flat_map text_of lines

-- lines of a report as text, each with its line feed
abbrev pub report_text : List ReportLine → List ℕ
report_text lines = text_by report_line_text lines
