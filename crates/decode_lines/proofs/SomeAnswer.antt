-- Each request within its limits has an answer.
use Rattle.std.proofs.Common.{◌⊎◌, ℕ, Bool, List, Result, Ok, Err, refl, inl, inr}
use Rattle.std.specs.Prelude.{MatchResult, slice_index}
use Rattle.bit_strings.specs.declared.code.Code.{Code}
use Rattle.line_code.specs.Answer.{IsStreamAnswer}
use Rattle.line_code.specs.declared.refusal.LineRefusal.{LineRefusal}
use Rattle.line_code.specs.laws.Existence.{some_answer as some_stream_answer}
use Rattle.reply_wire.specs.Codes.{table_of, chips_of}
use Rattle.reply_wire.specs.laws.Codes.{code_even, code_tells}
use Rattle.sample_slicer.proofs.SomeAnswer.{some_answer as some_slice_answer}
use Rattle.reply_grammar.specs.laws.SomeReply.{reply_or_fault}
use Rattle.reply_wire.specs.laws.SomeReceived.{some_received}
use Rattle.pie_line.specs.FrameAnswer.{HasOneAnswer}
use Rattle.pie_line.specs.Refusal.{refusal_at}
use Rattle.pie_line.specs.declared.frame.PieRefusal.TheVariants.{Unfinished}
use Rattle.pie_line.proofs.FrameAnswers.{one-answer}
use Rattle.command_grammar.proofs.SpellingLaws.{some_outcome}
use Rattle.epc_sgtin.specs.SgtinValue.{SgtinValue}
use Rattle.epc_sgtin.specs.Uri.{IsUriOf}
use Rattle.epc_sgtin.specs.UriFaults.{RefusesUri}
use Rattle.epc_sgtin.specs.declared.tag_uri.UriFault.{UriFault}
use Rattle.epc_sgtin.proofs.EpcAnswers.{some_answer as some_epc_answer}
use Rattle.epc_sgtin.proofs.EpcEncoding.{some_words}
use Rattle.epc_sgtin.proofs.UriAnswers.{some_answer as some_uri_answer}
use Rattle.decode_lines.specs.Request.{IsWithinDecodeLimits}
use Rattle.decode_lines.specs.Answer.{Answer, IsLineAnswer, StreamAnswer, SamplesAnswer, ReplyAnswer, HeardAnswer, PieAnswer, CommandAnswer, SgtinAnswer, UriAnswer}
use Rattle.decode_lines.specs.declared.request.Request.{Request}
use Rattle.decode_lines.specs.declared.request.Request.TheVariants.{Stream, Samples, Reply as ReplyLine, Heard, Pie, Command as CommandLine, Sgtin as SgtinLine, Uri as UriLine}

-- the request has an answer
abbrev HasAnswer : Request → Type 0
HasAnswer request = (answer : Answer) × IsLineAnswer request answer

-- what is so, or is refused, is an outcome
outcome_of : {A E : Type 0} (Is : A → Type 0) (Refuses : E → Type 0) → ((found : A) × Is found) ⊎ ((refusal : E) × Refuses refusal) → (outcome : Result A E) × MatchResult outcome Is Refuses
outcome_of Is Refuses (inl is) = (Ok is.0, is.1)
outcome_of Is Refuses (inr is) = (Err is.0, is.1)

streamed_as : (code : Code) (trext : Bool) (levels : List Bool) (answer : Result (Unit {0}) LineRefusal) → IsStreamAnswer (table_of code) trext levels answer → HasAnswer (Stream code trext levels)
streamed_as code trext levels (Ok done) is = (StreamAnswer (Ok is.0), is.1)
streamed_as code trext levels (Err refusal) is = (StreamAnswer (Err refusal), is)

framed_as : (intervals : List ℕ) → HasOneAnswer intervals → HasAnswer (Pie intervals)
framed_as intervals answers = elim answers.some [
  | inl frame ↦ (PieAnswer (Ok (frame.0, frame.1)), frame.2)
  | inr refused ↦ elim refused [
    | inl bad ↦ (PieAnswer (Err (refusal_at bad.0 (slice_index intervals bad.0))), inl (bad.0, record { bad = bad.1; named = refl }))
    | inr short ↦ (PieAnswer (Err (Unfinished short.0)), inr (short.0, record { short = short.1; named = refl }))
  ]
]

worded_as : (text : List ℕ) → ((sgtin : SgtinValue) × IsUriOf sgtin text) ⊎ ((fault : UriFault) × RefusesUri fault text) → HasAnswer (UriLine text)
worded_as text (inl is) = let words = some_words is.0 is.1.legal in (UriAnswer (Ok words.0), (is.0, is.1, words.1))
worded_as text (inr is) = (UriAnswer (Err is.0), is.1)

-- a request within its limits has an answer
pub some_answer : (request : Request) → IsWithinDecodeLimits request → HasAnswer request
some_answer (Stream code trext levels) within =
    let is = some_stream_answer (table_of code) (chips_of code) (code_even code) (code_tells code) trext levels in streamed_as code trext levels is.0 is.1
some_answer (Samples threshold per_level samples) within = let is = some_slice_answer threshold per_level samples within.1 in (SamplesAnswer is.0, is.1)
some_answer (ReplyLine expect bits) within = let is = outcome_of _ _ (reply_or_fault expect bits) in (ReplyAnswer is.0, is.1)
some_answer (Heard code trext expect levels) within = let is = some_received code trext expect levels in (HeardAnswer is.0, is.1)
some_answer (Pie intervals) within = framed_as intervals (one-answer intervals)
some_answer (CommandLine bits) within = let is = some_outcome bits in (CommandAnswer is.0, is.1)
some_answer (SgtinLine words) within = let is = outcome_of _ _ (some_epc_answer words within.2) in (SgtinAnswer is.0, is.1)
some_answer (UriLine text) within = worded_as text (some_uri_answer text)
