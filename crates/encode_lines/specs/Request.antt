-- Profile: the lines that `encode` reads. A line is a list of fields; the first says what is encoded.
use Rattle.std.specs.Prelude.{◌≡◌, ◌≢◌, ◌⊎◌, ℕ, ◌+◌, ◌*◌, ◌≤◌, List, [], ◌∷◌, length, take, drop, codes, refl}
use Rattle.std.specs.Fmt.{decimal}
use Rattle.text_fields.specs.Lines.{fields_of}
use Rattle.text_fields.specs.Binary.{binary, binary_digit}
use Rattle.text_fields.specs.CodeNames.{code_word}
use Rattle.bit_strings.specs.declared.code.Code.TheVariants.{Fm0, M2, M4, M8}
use Rattle.wire_text.specs.NameLists.{EachFound}
use Rattle.text_fields.specs.NamedFields.{AreFilled, HaveShape, NameNothing}
use Rattle.pie_line.specs.declared.frame.Lead.{Lead}
use Rattle.pie_line.specs.declared.frame.Lead.TheVariants.{Preamble, FrameSync}
use Rattle.command_grammar.specs.Commands.{IsLegalCommand}
use Rattle.wire_text.specs.CommandText.{command_fields, commands}
use Rattle.line_code.specs.TableFacts.{longest_lead}
use Rattle.reply_grammar.specs.Replies.{longest_reply}
use Rattle.reply_grammar.specs.declared.expected.Reply.{Reply as OneReply}
use Rattle.wire_text.specs.ReplyText.{expect_word, reply_fields, replies, IsExpect, IsReplyForm, IsReplyText}
use Rattle.checked_lines.specs.declared.fault.FaultReason.{FaultReason}
use Rattle.checked_lines.specs.declared.fault.FaultReason.TheVariants.{Word, Shape, Number}
use Rattle.encode_lines.specs.declared.request.Durations.{Durations}
use Rattle.encode_lines.specs.declared.request.LineKind.{LineKind}
use Rattle.encode_lines.specs.declared.request.LineKind.TheVariants.{Stream as StreamKind, Pie as PieKind, Command as CommandKind, Reply as ReplyKind, Heard as HeardKind}
use Rattle.encode_lines.specs.declared.request.Request.{Request}
use Rattle.encode_lines.specs.declared.request.Request.TheVariants.{Stream, Pie, Command, Reply, Heard}

-- the most bits of a frame that `encode` is asked for, which each command has room in
abbrev pub most_frame_bits : ℕ
most_frame_bits = 8240

-- how many intervals the longest frame has that `encode` is asked for: seven of its header (6.3.1.2.8), and two a bit
abbrev pub most_frame_intervals : ℕ
most_frame_intervals = 7 + 2 * most_frame_bits

-- how many levels the longest stream has: the longest lead, and 16 for each bit of the longest reply and for the dummy
abbrev pub longest_levels : ℕ
longest_levels = longest_lead + 16 * (longest_reply + 1)

-- the longest duration of a link, in nanoseconds
abbrev pub longest_duration : ℕ
longest_duration = 999999

-- the header of a frame (6.3.1.2.8)
abbrev pub lead_word : Lead → List ℕ
lead_word Preamble = codes "preamble"
lead_word FrameSync = codes "sync"

-- the first field of an encode line of this kind
abbrev pub kind_word : LineKind → List ℕ
kind_word (StreamKind code) = code_word code
kind_word PieKind = codes "pie"
kind_word CommandKind = codes "command"
kind_word ReplyKind = codes "reply"
kind_word HeardKind = codes "heard"

-- all kinds of encode lines, each of which has a word of its own
abbrev pub all_encode_kinds : List LineKind
all_encode_kinds = StreamKind Fm0 ∷ StreamKind M2 ∷ StreamKind M4 ∷ StreamKind M8 ∷ PieKind ∷ CommandKind ∷ ReplyKind ∷ HeardKind ∷ []

-- each kind of encode lines is the first of all kinds with its word
pub kind_found : EachFound kind_word all_encode_kinds
kind_found (StreamKind Fm0) = refl
kind_found (StreamKind M2) = refl
kind_found (StreamKind M4) = refl
kind_found (StreamKind M8) = refl
kind_found kind = refl

-- the kind of the encode line of a request, which its first field says
abbrev pub encode_request_kind : Request → LineKind
encode_request_kind (Stream code trext bits) = StreamKind code
encode_request_kind (Pie durations lead bits) = PieKind
encode_request_kind (Command command) = CommandKind
encode_request_kind (Reply expect reply) = ReplyKind
encode_request_kind (Heard code trext expect reply) = HeardKind

-- the one spelling of a request, behind the first field
abbrev pub request_fields : Request → List (List ℕ)
request_fields (Stream code trext bits) = (binary_digit trext ∷ []) ∷ binary bits ∷ []
request_fields (Pie durations lead bits) =
    decimal durations.tari ∷ decimal durations.rtcal ∷ decimal durations.trcal ∷ decimal durations.pw ∷ lead_word lead ∷ binary bits ∷ []
request_fields (Command command) = command_fields command
request_fields (Reply expect reply) = expect_word expect ∷ reply_fields reply
request_fields (Heard code trext expect reply) = code_word code ∷ (binary_digit trext ∷ []) ∷ expect_word expect ∷ reply_fields reply

-- each duration is in its range
abbrev pub AreDurations : Durations → Type 0
AreDurations durations =
    (durations.tari ≤ longest_duration) × (durations.rtcal ≤ longest_duration) × (durations.trcal ≤ longest_duration) × (durations.pw ≤ longest_duration)

-- the limits on the numbers and lists of a line: a stream has the bits of the longest reply at most
abbrev pub IsWithinEncodeLimits : Request → Type 0
IsWithinEncodeLimits (Stream code trext bits) = length bits ≤ longest_reply
IsWithinEncodeLimits (Pie durations lead bits) = AreDurations durations × (length bits ≤ most_frame_bits)
IsWithinEncodeLimits (Command command) = IsLegalCommand command
IsWithinEncodeLimits (Reply expect reply) = IsExpect expect × IsReplyForm reply
IsWithinEncodeLimits (Heard code trext expect reply) = IsExpect expect × IsReplyForm reply

-- behind a first field of this kind, these other fields of an encode line ask for this request
pub record AsksToEncodeBehind (kind : LineKind) (others : List (List ℕ)) (request : Request) : Type 0 where
  pub same_kind : kind ≡ encode_request_kind request
  pub spelling : others ≡ request_fields request
  pub limits : IsWithinEncodeLimits request

-- the encode line asks for this request
pub record AsksToEncode (line : List ℕ) (request : Request) : Type 0 where
  pub kind : LineKind
  pub others : List (List ℕ)
  pub fields : fields_of line ≡ kind_word kind ∷ others
  pub asks : AsksToEncodeBehind kind others request

-- the field in which the name of a command or of a reply has to stand is there, and has none
abbrev pub NamesNone : LineKind → List (List ℕ) → Type 0
NamesNone (StreamKind code) others = ⊥
NamesNone PieKind others = ⊥
NamesNone CommandKind others = NameNothing commands others
NamesNone ReplyKind others = NameNothing replies (drop 1 others)
NamesNone HeardKind others = NameNothing replies (drop 3 others)

-- the number of the fields behind the first is right, and none of them is empty
abbrev pub HasEncodeShape : LineKind → List (List ℕ) → Type 0
HasEncodeShape (StreamKind code) others = AreFilled 2 others
HasEncodeShape PieKind others = AreFilled 6 others
HasEncodeShape CommandKind others = HaveShape commands others
HasEncodeShape ReplyKind others = AreFilled 1 (take 1 others) × HaveShape replies (drop 1 others)
HasEncodeShape HeardKind others = AreFilled 3 (take 3 others) × HaveShape replies (drop 3 others)

-- the first reason for which the fields of an encode line behind the first ask for nothing
abbrev pub AreFaultyToEncode : LineKind → List (List ℕ) → FaultReason → Type 0
AreFaultyToEncode kind others Word = NamesNone kind others
AreFaultyToEncode kind others Shape = (¬ NamesNone kind others) × (¬ HasEncodeShape kind others)
-- the other fields of the encode line are there, and one of them isn't of its form, range or length: they ask for nothing
AreFaultyToEncode kind others Number = HasEncodeShape kind others × ((request : Request) → ¬ AsksToEncodeBehind kind others request)
AreFaultyToEncode kind others reason = ⊥

-- the first reason for which the fields of a reply are faulty behind others, of which it is said whether none is empty
abbrev pub IsFaultyReplyBehind : Type 0 → List (List ℕ) → FaultReason → Type 0
IsFaultyReplyBehind filled fields Word = NameNothing replies fields
IsFaultyReplyBehind filled fields Shape = (¬ NameNothing replies fields) × (¬ (filled × HaveShape replies fields))
IsFaultyReplyBehind filled fields Number = filled × HaveShape replies fields × ((reply : OneReply) → ¬ IsReplyText fields reply)
IsFaultyReplyBehind filled fields reason = ⊥

-- behind a first field that a line may begin with, the others are faulty for this reason
pub record HasFaultyFieldsToEncode (fields : List (List ℕ)) (reason : FaultReason) : Type 0 where
  pub kind : LineKind
  pub others : List (List ℕ)
  pub first : fields ≡ kind_word kind ∷ others
  pub faulty : AreFaultyToEncode kind others reason

-- the first reason for which the fields of a line that has its line feed ask for nothing to encode
abbrev pub IsFaultyToEncode : List (List ℕ) → FaultReason → Type 0
-- the first field is none that an encode line may begin with, or the name behind it is that of no command or reply
IsFaultyToEncode fields Word = ((kind : LineKind) (others : List (List ℕ)) → fields ≢ kind_word kind ∷ others) ⊎ HasFaultyFieldsToEncode fields Word
IsFaultyToEncode fields reason = HasFaultyFieldsToEncode fields reason
