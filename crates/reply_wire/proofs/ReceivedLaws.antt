-- That levels are received in one way alone, which is `received_of`.
use Rattle.std.proofs.Common.{◌≡◌, ℕ, ◌+◌, inl, inr, Bool, List, sym, ap, ◌∙◌, subst}
use Rattle.bit_strings.specs.laws.Family.{bad-one as same_place}
use Rattle.bit_strings.specs.declared.code.Code.{Code}
use Rattle.line_code.specs.Table.{Table}
use Rattle.line_code.specs.Stream.{IsStream, Streams}
use Rattle.line_code.specs.laws.Streams.{begins_front, one_stream, refused_is_none}
use Rattle.line_code.specs.declared.refusal.LineRefusal.TheVariants.{Invalid, Unfinished}
use Rattle.reply_wire.specs.laws.Codes.{code_even, code_tells}
use Rattle.reply_wire.specs.Codes.{table_of, chips_of}
use Rattle.reply_grammar.specs.Replies.{AnswersExpected}
use Rattle.reply_grammar.specs.Refusals.{RefusesReply}
use Rattle.reply_grammar.specs.laws.Passing.{answers_pass}
use Rattle.reply_grammar.proofs.Replies.{one_reply, passes_apart}
use Rattle.reply_grammar.specs.declared.expected.Expect.{Expect}
use Rattle.reply_grammar.specs.declared.expected.Reply.{Reply}
use Rattle.reply_grammar.specs.declared.expected.ReplyRefusal.{ReplyRefusal}
use Rattle.reply_grammar.specs.declared.expected.Received.{Received}
use Rattle.reply_grammar.specs.declared.expected.Received.TheVariants.{Whole, Refused}
use Rattle.reply_wire.specs.Received.{IsReceived}
use Rattle.reply_wire.specs.Receiving.{received_of}
use Rattle.reply_wire.specs.laws.SomeReceived.{some_received}

-- a stream is that of one list of bits
pub same_bits : (code : Code) (trext : Bool) (xs ys levels : List Bool) → IsStream (table_of code) trext xs levels → IsStream (table_of code) trext ys levels → xs ≡ ys
same_bits code trext xs ys levels = one_stream (record { table = table_of code; chips = chips_of code; even = code_even code; tells = code_tells code }) trext xs ys levels

-- bits that answer have no fault
answered_apart : (reply : Reply) (refusal : ReplyRefusal) (expect : Expect) (xs ys : List Bool) → xs ≡ ys → AnswersExpected reply expect xs → RefusesReply refusal expect ys → ⊥
answered_apart reply refusal expect xs ys same answers faults =
    passes_apart refusal expect ys (answers_pass reply expect ys (subst (λ b. AnswersExpected reply expect b) same answers)) faults

-- a whole reply is not refused
whole_apart : (code : Code) (trext : Bool) (expect : Expect) (levels : List Bool) (reply : Reply) (place : ℕ)
    → IsReceived (table_of code) trext expect levels (Whole reply) → IsReceived (table_of code) trext expect levels (Refused place) → ⊥
whole_apart code trext expect levels reply place whole (inl bad) = refused_is_none (Streams (table_of code) trext) levels (Invalid place) bad (whole.bits, whole.stream)
whole_apart code trext expect levels reply place whole (inr (inl short)) = refused_is_none (Streams (table_of code) trext) levels (Unfinished place) short (whole.bits, whole.stream)
whole_apart code trext expect levels reply place whole (inr (inr other)) =
    answered_apart reply other.refusal expect whole.bits other.bits (same_bits code trext whole.bits other.bits levels whole.stream other.stream) whole.answers other.faults

-- what is refused is refused at one place
one_place : (t : Table) (trext : Bool) (expect : Expect) (levels : List Bool) (p q : ℕ) → IsReceived t trext expect levels (Refused p) → IsReceived t trext expect levels (Refused q) → p ≡ q
one_place t trext expect levels p q (inl left) (inl right) = same_place (Streams t trext) levels p q left right
one_place t trext expect levels p q (inl left) (inr (inl right)) = absurd (left.stops (begins_front (Streams t trext) levels (p + 1) right.begins))
one_place t trext expect levels p q (inl left) (inr (inr right)) = absurd (refused_is_none (Streams t trext) levels (Invalid p) left (right.bits, right.stream))
one_place t trext expect levels p q (inr (inl left)) (inl right) = absurd (right.stops (begins_front (Streams t trext) levels (q + 1) left.begins))
one_place t trext expect levels p q (inr (inl left)) (inr (inl right)) = left.whole ∙ sym right.whole
one_place t trext expect levels p q (inr (inl left)) (inr (inr right)) = left.whole ∙ sym right.behind
one_place t trext expect levels p q (inr (inr left)) (inl right) = absurd (refused_is_none (Streams t trext) levels (Invalid q) right (left.bits, left.stream))
one_place t trext expect levels p q (inr (inr left)) (inr (inl right)) = left.behind ∙ sym right.whole
one_place t trext expect levels p q (inr (inr left)) (inr (inr right)) = left.behind ∙ sym right.behind

pub same_received : (code : Code) (trext : Bool) (expect : Expect) (levels : List Bool) (left right : Received)
    → IsReceived (table_of code) trext expect levels left → IsReceived (table_of code) trext expect levels right → left ≡ right
same_received code trext expect levels (Whole r) (Whole s) left right =
    let bits : right.bits ≡ left.bits = same_bits code trext right.bits left.bits levels right.stream left.stream in
    ap (λ (reply : Reply). Whole reply) (one_reply r s expect left.bits left.answers (subst (λ b. AnswersExpected s expect b) bits right.answers))
same_received code trext expect levels (Whole r) (Refused q) left right = absurd (whole_apart code trext expect levels r q left right)
same_received code trext expect levels (Refused p) (Whole s) left right = absurd (whole_apart code trext expect levels s p right left)
same_received code trext expect levels (Refused p) (Refused q) left right = ap (λ n. Refused n) (one_place (table_of code) trext expect levels p q left right)

-- what the function gives is received ..
pub received_there : (code : Code) (trext : Bool) (expect : Expect) (levels : List Bool) → IsReceived (table_of code) trext expect levels (received_of code trext expect levels)
unfolding received_of
received_there code trext expect levels = (some_received code trext expect levels).1

-- ... and nothing else is
pub received_is : (code : Code) (trext : Bool) (expect : Expect) (levels : List Bool) (received : Received) → IsReceived (table_of code) trext expect levels received
    → received_of code trext expect levels ≡ received
received_is code trext expect levels received =
    same_received code trext expect levels (received_of code trext expect levels) received (received_there code trext expect levels)
