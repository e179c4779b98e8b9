-- A request within its limits has one answer at most.
use Rattle.std.proofs.Common.{◌≡◌, ◌≤◌, ℕ, Bool, List, Result, Ok, Err, refl, ap, subst}
use Rattle.std.specs.Prelude.{MatchResult}
use Rattle.bit_strings.specs.declared.code.Code.{Code}
use Rattle.line_code.specs.Stream.{Streams}
use Rattle.line_code.specs.laws.Streams.{refused_is_none, same_answer as same_stream_answer}
use Rattle.line_code.specs.declared.refusal.LineRefusal.{LineRefusal}
use Rattle.reply_wire.specs.Codes.{table_of}
use Rattle.sample_slicer.specs.declared.slicer.SliceRefusal.{SliceRefusal}
use Rattle.sample_slicer.proofs.Samples.{same_answer as same_samples_answer}
use Rattle.reply_grammar.specs.declared.expected.Expect.{Expect}
use Rattle.reply_grammar.specs.declared.expected.Reply.{Reply}
use Rattle.reply_grammar.specs.declared.expected.ReplyRefusal.{ReplyRefusal}
use Rattle.reply_grammar.specs.declared.expected.Received.{Received}
use Rattle.reply_grammar.specs.laws.Passing.{answers_pass}
use Rattle.reply_grammar.proofs.Replies.{one_reply, one_fault, passes_apart}
use Rattle.reply_wire.proofs.ReceivedLaws.{same_bits, same_received}
use Rattle.pie_line.specs.declared.frame.FrameKind.{FrameKind}
use Rattle.pie_line.specs.declared.frame.PieRefusal.{PieRefusal}
use Rattle.pie_line.specs.Pie.{IsFrame}
use Rattle.pie_line.proofs.Frames.{frame-one, refusal-one, refuses-no_frame}
use Rattle.command_grammar.specs.declared.commands.Command.{Command}
use Rattle.command_grammar.specs.declared.refusal.CommandRefusal.{CommandRefusal}
use Rattle.command_grammar.proofs.SpellingLaws.{one_outcome}
use Rattle.epc_sgtin.specs.SgtinValue.{SgtinValue}
use Rattle.epc_sgtin.specs.Epc.{IsSgtin}
use Rattle.epc_sgtin.specs.declared.encoding.EpcFault.{EpcFault}
use Rattle.epc_sgtin.specs.declared.tag_uri.UriFault.{UriFault}
use Rattle.epc_sgtin.proofs.EpcAnswers.{one_words, one_sgtin, apart, one_fault as one_epc_fault}
use Rattle.epc_sgtin.proofs.UriAnswers.{one_sgtin as uri_one_sgtin, apart as uri_apart, one_fault as one_uri_fault}
use Rattle.checked_lines.specs.laws.OneLine.{HaveOneAnswer}
use Rattle.decode_lines.specs.Request.{IsWithinDecodeLimits}
use Rattle.decode_lines.specs.Answer.{Answer, IsLineAnswer, decode_rules, StreamAnswer, SamplesAnswer, ReplyAnswer, HeardAnswer, PieAnswer, CommandAnswer, SgtinAnswer, UriAnswer}
use Rattle.decode_lines.specs.declared.request.Request.{Request}
use Rattle.decode_lines.specs.declared.request.Request.TheVariants.{Stream, Samples, Reply as ReplyLine, Heard, Pie, Command as CommandLine, Sgtin as SgtinLine, Uri as UriLine}

-- an outcome is one, where what it may be is one, what refuses it is one, and both never hold
same_outcome : {A E : Type 0} (Is : A → Type 0) (Refuses : E → Type 0) → ((one other : A) → Is one → Is other → one ≡ other)
    → ((one other : E) → Refuses one → Refuses other → one ≡ other) → ((found : A) (refusal : E) → Is found → Refuses refusal → ⊥)
    → (one other : Result A E) → MatchResult one Is Refuses → MatchResult other Is Refuses → one ≡ other
same_outcome Is Refuses founds refusals both (Ok one) (Ok other) left right = ap Ok (founds one other left right)
same_outcome Is Refuses founds refusals both (Ok one) (Err other) left right = absurd (both one other left right)
same_outcome Is Refuses founds refusals both (Err one) (Ok other) left right = absurd (both other one right left)
same_outcome Is Refuses founds refusals both (Err one) (Err other) left right = ap Err (refusals one other left right)

same_refusal : (code : Code) (trext : Bool) (levels : List Bool) (one other : LineRefusal) → IsLineAnswer (Stream code trext levels) (StreamAnswer (Err one))
    → IsLineAnswer (Stream code trext levels) (StreamAnswer (Err other)) → one ≡ other
same_refusal code trext levels one other left right =
    let refused : Err one ≡ Err other = same_stream_answer (table_of code) trext levels (Err one) (Err other) left right in cc

same_streamed : (code : Code) (trext : Bool) (levels : List Bool) (one : Result (List Bool) LineRefusal) (other : Answer)
    → IsLineAnswer (Stream code trext levels) (StreamAnswer one) → IsLineAnswer (Stream code trext levels) other → StreamAnswer one ≡ other
same_streamed code trext levels one (StreamAnswer other) left right =
    let none = refused_is_none (Streams (table_of code) trext) levels in
    ap StreamAnswer (same_outcome _ _ (λ xs ys. same_bits code trext xs ys levels) (same_refusal code trext levels) (λ bits refusal is refused. none refusal refused (bits, is)) one other left right)
same_streamed code trext levels one other left right = absurd right

same_sliced : (threshold per_level : ℕ) (samples : List ℕ) → 1 ≤ per_level → (one : Result (List Bool) SliceRefusal) (other : Answer)
    → IsLineAnswer (Samples threshold per_level samples) (SamplesAnswer one) → IsLineAnswer (Samples threshold per_level samples) other → SamplesAnswer one ≡ other
same_sliced threshold per_level samples some one (SamplesAnswer other) left right = ap SamplesAnswer (same_samples_answer threshold per_level samples one other some left right)
same_sliced threshold per_level samples some one other left right = absurd right

same_replied : (expect : Expect) (bits : List Bool) (one : Result Reply ReplyRefusal) (other : Answer)
    → IsLineAnswer (ReplyLine expect bits) (ReplyAnswer one) → IsLineAnswer (ReplyLine expect bits) other → ReplyAnswer one ≡ other
same_replied expect bits one (ReplyAnswer other) left right =
    ap ReplyAnswer (same_outcome _ _ (λ r s. one_reply r s expect bits) (λ f g. one_fault f g expect bits)
    (λ reply fault is. passes_apart fault expect bits (answers_pass reply expect bits is)) one other left right)
same_replied expect bits one other left right = absurd right

same_heard : (code : Code) (trext : Bool) (expect : Expect) (levels : List Bool) (one : Received) (other : Answer)
    → IsLineAnswer (Heard code trext expect levels) (HeardAnswer one) → IsLineAnswer (Heard code trext expect levels) other → HeardAnswer one ≡ other
same_heard code trext expect levels one (HeardAnswer other) left right = ap HeardAnswer (same_received code trext expect levels one other left right)
same_heard code trext expect levels one other left right = absurd right

same_frame : (intervals : List ℕ) (one other : FrameKind × List Bool) → IsFrame one.0 one.1 intervals → IsFrame other.0 other.1 intervals → one ≡ other
same_frame intervals (kind, bits) (kind', bits') left right = let same = frame-one kind kind' bits bits' intervals left right in rw (same.0, same.1) refl

same_framed : (intervals : List ℕ) (one : Result (FrameKind × List Bool) PieRefusal) (other : Answer)
    → IsLineAnswer (Pie intervals) (PieAnswer one) → IsLineAnswer (Pie intervals) other → PieAnswer one ≡ other
same_framed intervals one (PieAnswer other) left right =
    ap PieAnswer (same_outcome _ _ (same_frame intervals) (refusal-one intervals)
    (λ frame refusal is refused. refuses-no_frame refusal intervals refused (frame.0, frame.1, is)) one other left right)
same_framed intervals one other left right = absurd right

same_commanded : (bits : List Bool) (one : Result Command CommandRefusal) (other : Answer)
    → IsLineAnswer (CommandLine bits) (CommandAnswer one) → IsLineAnswer (CommandLine bits) other → CommandAnswer one ≡ other
same_commanded bits one (CommandAnswer other) left right = ap CommandAnswer (one_outcome bits one other left right)
same_commanded bits one other left right = absurd right

same_named : (words : List ℕ) (one : Result SgtinValue EpcFault) (other : Answer)
    → IsLineAnswer (SgtinLine words) (SgtinAnswer one) → IsLineAnswer (SgtinLine words) other → SgtinAnswer one ≡ other
same_named words one (SgtinAnswer other) left right =
    ap SgtinAnswer (same_outcome _ _ (λ s t. one_sgtin s t words) (λ f g. one_epc_fault f g words) (λ sgtin fault. apart sgtin words fault) one other left right)
same_named words one other left right = absurd right

same_words : (text : List ℕ) (one other : List ℕ) → IsLineAnswer (UriLine text) (UriAnswer (Ok one)) → IsLineAnswer (UriLine text) (UriAnswer (Ok other)) → one ≡ other
same_words text one other left right =
    let sgtins : left.0 ≡ right.0 = uri_one_sgtin left.0 right.0 text left.1 right.1 in
    one_words right.0 one other (subst (λ sgtin. IsSgtin sgtin one) sgtins left.2) right.2

same_worded : (text : List ℕ) (one : Result (List ℕ) UriFault) (other : Answer)
    → IsLineAnswer (UriLine text) (UriAnswer one) → IsLineAnswer (UriLine text) other → UriAnswer one ≡ other
same_worded text one (UriAnswer other) left right =
    ap UriAnswer (same_outcome _ _ (same_words text) (λ f g. one_uri_fault f g text) (λ words fault is. uri_apart is.0 text fault is.1) one other left right)
same_worded text one other left right = absurd right

-- a request within its limits has one answer: samples need a level that has samples
same_answer : (request : Request) (one other : Answer) → IsWithinDecodeLimits request → IsLineAnswer request one → IsLineAnswer request other → one ≡ other
same_answer (Stream code trext levels) (StreamAnswer one) other within left right = same_streamed code trext levels one other left right
same_answer (Samples threshold per_level samples) (SamplesAnswer one) other within left right = same_sliced threshold per_level samples within.1 one other left right
same_answer (ReplyLine expect bits) (ReplyAnswer one) other within left right = same_replied expect bits one other left right
same_answer (Heard code trext expect levels) (HeardAnswer one) other within left right = same_heard code trext expect levels one other left right
same_answer (Pie intervals) (PieAnswer one) other within left right = same_framed intervals one other left right
same_answer (CommandLine bits) (CommandAnswer one) other within left right = same_commanded bits one other left right
same_answer (SgtinLine words) (SgtinAnswer one) other within left right = same_named words one other left right
same_answer (UriLine text) (UriAnswer one) other within left right = same_worded text one other left right
same_answer request one other within left right = absurd left

pub one_answer : HaveOneAnswer decode_rules
one_answer line request one other asks left right = same_answer request one other asks.asks.limits left right
