-- That all levels are received in some way.
use Rattle.std.proofs.Common.{◌⊎◌, inl, inr, Bool, List, length, refl, Result, Ok, Err}
use Rattle.bit_strings.specs.declared.code.Code.{Code}
use Rattle.line_code.specs.Table.{Table}
use Rattle.line_code.specs.Stream.{IsStream}
use Rattle.line_code.specs.Answer.{IsStreamAnswer}
use Rattle.line_code.specs.declared.refusal.LineRefusal.{LineRefusal}
use Rattle.line_code.specs.declared.refusal.LineRefusal.TheVariants.{Invalid, Unfinished}
use Rattle.line_code.specs.laws.Existence.{some_answer}
use Rattle.reply_wire.specs.laws.Codes.{code_even, code_tells}
use Rattle.reply_wire.specs.Codes.{table_of, chips_of}
use Rattle.reply_grammar.specs.Replies.{AnswersExpected}
use Rattle.reply_grammar.specs.Refusals.{RefusesReply}
use Rattle.reply_grammar.specs.laws.SomeReply.{reply_or_fault}
use Rattle.reply_grammar.specs.declared.expected.Expect.{Expect}
use Rattle.reply_grammar.specs.declared.expected.Reply.{Reply}
use Rattle.reply_grammar.specs.declared.expected.ReplyRefusal.{ReplyRefusal}
use Rattle.reply_grammar.specs.declared.expected.Received.{Received}
use Rattle.reply_grammar.specs.declared.expected.Received.TheVariants.{Whole, Refused}
use Rattle.reply_wire.specs.Received.{IsUnexpected, IsReceived}

-- bits are a reply that is expected, or one refusal applies
abbrev pub ReplyOrFault : Expect → List Bool → Type 0
ReplyOrFault expect bits = ((reply : Reply) × AnswersExpected reply expect bits) ⊎ ((refusal : ReplyRefusal) × RefusesReply refusal expect bits)

-- something is received of these levels
abbrev pub SomeReceived : Table → Bool → Expect → List Bool → Type 0
SomeReceived t trext expect levels = (answer : Received) × IsReceived t trext expect levels answer

stream_received : (t : Table) (trext : Bool) (expect : Expect) (bits levels : List Bool) → IsStream t trext bits levels → ReplyOrFault expect bits → SomeReceived t trext expect levels
stream_received t trext expect bits levels stream (inl found) = (Whole found.0, record { bits = bits; stream = stream; answers = found.1 })
stream_received t trext expect bits levels stream (inr found) =
    let unexpected : IsUnexpected t trext expect levels (length levels) = record { bits = bits; stream = stream; refusal = found.0; faults = found.1; behind = refl } in
    (Refused (length levels), inr (inr unexpected))

-- the answer to levels makes what is received
answer_received : (t : Table) (trext : Bool) (expect : Expect) (levels : List Bool) (answer : Result (Unit {0}) LineRefusal) → IsStreamAnswer t trext levels answer
    → SomeReceived t trext expect levels
answer_received t trext expect levels (Ok done) found = stream_received t trext expect found.0 levels found.1 (reply_or_fault expect found.0)
answer_received t trext expect levels (Err (Invalid place)) bad = (Refused place, inl bad)
answer_received t trext expect levels (Err (Unfinished count)) short = (Refused count, inr (inl short))

pub some_received : (code : Code) (trext : Bool) (expect : Expect) (levels : List Bool) → SomeReceived (table_of code) trext expect levels
some_received code trext expect levels =
    let found = some_answer (table_of code) (chips_of code) (code_even code) (code_tells code) trext levels in
    answer_received (table_of code) trext expect levels found.0 found.1
