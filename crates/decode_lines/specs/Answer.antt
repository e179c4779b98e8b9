-- Profile: what is answered to a decode line.
use Rattle.std.specs.Prelude.{ℕ, Bool, List, [], ◌∷◌, ◌++◌, codes, Result, Ok, Err, MatchResult}
use Rattle.line_code.specs.declared.refusal.LineRefusal.{LineRefusal}
use Rattle.line_code.specs.declared.refusal.LineRefusal.TheVariants.{Invalid, Unfinished}
use Rattle.line_code.specs.Stream.{IsStream, Streams}
use Rattle.line_code.specs.Refusal.{RefusesStream}
use Rattle.text_fields.specs.Lines.{line_feed}
use Rattle.std.specs.Fmt.{decimal}
use Rattle.text_fields.specs.Binary.{binary}
use Rattle.reply_wire.specs.Codes.{table_of}
use Rattle.sample_slicer.specs.Samples.{IsSliceAnswer}
use Rattle.sample_slicer.specs.declared.slicer.SliceRefusal.{SliceRefusal}
use Rattle.sample_slicer.specs.declared.slicer.SliceRefusal.TheVariants.{Mixed, Rest}
use Rattle.reply_grammar.specs.Replies.{AnswersExpected}
use Rattle.reply_grammar.specs.Refusals.{RefusesReply}
use Rattle.reply_grammar.specs.declared.expected.Reply.{Reply}
use Rattle.reply_grammar.specs.declared.expected.ReplyRefusal.{ReplyRefusal}
use Rattle.reply_grammar.specs.declared.expected.Received.{Received}
use Rattle.reply_grammar.specs.declared.expected.Received.TheVariants.{Whole, Refused}
use Rattle.wire_text.specs.ReplyText.{reply_line, refusal_line}
use Rattle.reply_wire.specs.Received.{IsReceived}
use Rattle.pie_line.specs.Pie.{IsFrame}
use Rattle.pie_line.specs.Refusal.{RefusesFrame}
use Rattle.pie_line.specs.declared.frame.FrameKind.{FrameKind}
use Rattle.pie_line.specs.declared.frame.PieRefusal.{PieRefusal}
use Rattle.pie_text.specs.PieText.{frame_line, pie_refusal_line}
use Rattle.command_grammar.specs.Commands.{IsFinishAnswer}
use Rattle.command_grammar.specs.declared.commands.Command.{Command}
use Rattle.command_grammar.specs.declared.refusal.CommandRefusal.{CommandRefusal}
use Rattle.wire_text.specs.CommandText.{command_line, command_refusal_line}
use Rattle.epc_sgtin.specs.SgtinValue.{SgtinValue}
use Rattle.epc_sgtin.specs.Epc.{IsSgtin}
use Rattle.epc_sgtin.specs.EpcFaults.{RefusesEpc}
use Rattle.epc_sgtin.specs.Uri.{IsUriOf}
use Rattle.epc_sgtin.specs.UriFaults.{RefusesUri}
use Rattle.epc_sgtin.specs.declared.encoding.EpcFault.{EpcFault}
use Rattle.epc_sgtin.specs.declared.tag_uri.UriFault.{UriFault}
use Rattle.epc_sgtin.specs.SgtinText.{name_line, sgtin_words_line, epc_fault_line, uri_fault_line}
use Rattle.checked_lines.specs.LineRules.{LineRules}
use Rattle.checked_lines.specs.Answered.{AddsLine, AddsLineFor}
use Rattle.decode_lines.specs.Request.{AsksToDecodeBehind, AsksToDecode, IsFaultyToDecode}
use Rattle.decode_lines.specs.declared.request.Request.{Request}
use Rattle.decode_lines.specs.declared.request.RequestKind.{RequestKind}
use Rattle.decode_lines.specs.declared.request.Request.TheVariants.{Stream, Samples, Reply as ReplyLine, Heard as HeardLine, Pie as PieLine, Command as CommandLine, Sgtin as SgtinLine, Uri as UriLine}

-- the answer to a decode line: one kind for each kind of line
pub data Answer : Type 0 where
  -- the levels are the stream of these bits, or are none
  StreamAnswer : Result (List Bool) LineRefusal → Answer
  -- the samples stand for these levels, or for none
  SamplesAnswer : Result (List Bool) SliceRefusal → Answer
  -- the bits are this reply, or are none that is expected
  ReplyAnswer : Result Reply ReplyRefusal → Answer
  -- what is heard in the levels
  HeardAnswer : Received → Answer
  -- the intervals are such a frame with these bits, or are none
  PieAnswer : Result (FrameKind × List Bool) PieRefusal → Answer
  -- the bits are this command, or are none
  CommandAnswer : Result Command CommandRefusal → Answer
  -- the words are those of this SGTIN, or of none
  SgtinAnswer : Result SgtinValue EpcFault → Answer
  -- the text is the URI of the SGTIN that has these words, or of none
  UriAnswer : Result (List ℕ) UriFault → Answer

-- the answer is the one to the request
abbrev pub IsLineAnswer : Request → Answer → Type 0
IsLineAnswer (Stream code trext levels) (StreamAnswer outcome) =
    MatchResult outcome (λ bits. IsStream (table_of code) trext bits levels) (RefusesStream (Streams (table_of code) trext) levels)
IsLineAnswer (Samples threshold per_level samples) (SamplesAnswer outcome) = IsSliceAnswer threshold per_level samples outcome
IsLineAnswer (ReplyLine expect bits) (ReplyAnswer outcome) =
    MatchResult outcome (λ reply. AnswersExpected reply expect bits) (λ refusal. RefusesReply refusal expect bits)
IsLineAnswer (HeardLine code trext expect levels) (HeardAnswer received) = IsReceived (table_of code) trext expect levels received
IsLineAnswer (PieLine intervals) (PieAnswer outcome) =
    MatchResult outcome (λ frame. IsFrame frame.0 frame.1 intervals) (λ refusal. RefusesFrame refusal intervals)
IsLineAnswer (CommandLine bits) (CommandAnswer outcome) = IsFinishAnswer outcome bits
IsLineAnswer (SgtinLine words) (SgtinAnswer outcome) = MatchResult outcome (λ sgtin. IsSgtin sgtin words) (λ fault. RefusesEpc fault words)
IsLineAnswer (UriLine text) (UriAnswer outcome) =
    MatchResult outcome (λ words. (sgtin : SgtinValue) × IsUriOf sgtin text × IsSgtin sgtin words) (λ fault. RefusesUri fault text)
IsLineAnswer request answer = ⊥

-- an outcome with what its call left, where that was no refusal
abbrev pub with_left : {A B E : Type 0} → (A → B) → Result A E → Result B E
with_left left (Ok done) = Ok (left done)
with_left left (Err refusal) = Err refusal

-- an answer to a decode line as a line of the text of answers, with its line feed
abbrev pub line_of_answer : Answer → List ℕ
line_of_answer (StreamAnswer (Ok bits)) = codes "bits " ++ binary bits ++ line_feed ∷ []
line_of_answer (StreamAnswer (Err (Invalid place))) = codes "invalid " ++ decimal place ++ line_feed ∷ []
line_of_answer (StreamAnswer (Err (Unfinished count))) = codes "unfinished " ++ decimal count ++ line_feed ∷ []
line_of_answer (SamplesAnswer (Ok levels)) = codes "levels " ++ binary levels ++ line_feed ∷ []
line_of_answer (SamplesAnswer (Err (Mixed place))) = codes "mixed " ++ decimal place ++ line_feed ∷ []
line_of_answer (SamplesAnswer (Err (Rest place))) = codes "rest " ++ decimal place ++ line_feed ∷ []
line_of_answer (ReplyAnswer (Ok reply)) = reply_line reply ++ line_feed ∷ []
line_of_answer (ReplyAnswer (Err refusal)) = refusal_line refusal ++ line_feed ∷ []
line_of_answer (HeardAnswer (Whole reply)) = reply_line reply ++ line_feed ∷ []
line_of_answer (HeardAnswer (Refused place)) = codes "refused " ++ decimal place ++ line_feed ∷ []
line_of_answer (PieAnswer (Ok frame)) = frame_line frame.0 frame.1 ++ line_feed ∷ []
line_of_answer (PieAnswer (Err refusal)) = pie_refusal_line refusal ++ line_feed ∷ []
line_of_answer (CommandAnswer (Ok command)) = command_line command ++ line_feed ∷ []
line_of_answer (CommandAnswer (Err refusal)) = command_refusal_line refusal ++ line_feed ∷ []
line_of_answer (SgtinAnswer (Ok sgtin)) = name_line sgtin ++ line_feed ∷ []
line_of_answer (SgtinAnswer (Err fault)) = epc_fault_line fault ++ line_feed ∷ []
line_of_answer (UriAnswer (Ok words)) = sgtin_words_line words ++ line_feed ∷ []
line_of_answer (UriAnswer (Err fault)) = uri_fault_line fault ++ line_feed ∷ []

-- what is said of one decode line
abbrev pub decode_rules : LineRules Request Answer
decode_rules = record { asks = AsksToDecode; is_faulty = IsFaultyToDecode; answers = IsLineAnswer; line_of = line_of_answer }

-- the new text of answers to decode lines is the old one with the line of the request's answer at its end
abbrev pub AddsAnswer : Request → (old new : List ℕ) → Type 0
AddsAnswer = AddsLine decode_rules

-- the new text of answers to decode lines is the old one with the line of the answer to what this line asks for at its end
abbrev pub AnswersLine : (line old new : List ℕ) → Type 0
AnswersLine = AddsLineFor decode_rules

-- the text is the one before with the line of the answer to what these fields ask for behind a first field of this kind at its end
pub record AnswersBehind (kind : RequestKind) (others : List (List ℕ)) (old new : List ℕ) : Type 0 where
  pub request : Request
  pub asks : AsksToDecodeBehind kind others request
  pub adds : AddsAnswer request old new
