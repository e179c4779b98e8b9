-- That what is received of the levels that the channel gives is what `reception_with` says, where a reply is awaited with the
-- extended preamble or by the link's TRext.
use Rattle.std.proofs.Common.{◌≡◌, ◌≢◌, ℕ, ◌<◌, ◌%◌, Bool, true, false, not, ◌||◌, List, length, refl, ap, ◌∙◌, subst}
use Rattle.std.specs.Prelude.{if◌then◌else◌}
use Rattle.std.proofs.lemmas.Nat.{mod_below}
use Rattle.bit_strings.specs.declared.code.Code.{Code}
use Rattle.line_code.specs.TableFacts.{with_level_flipped}
use Rattle.line_code.specs.Stream.{Streams, stream_of}
use Rattle.reply_wire.specs.laws.Codes.{code_refuses_flips}
use Rattle.reply_wire.specs.Codes.{table_of}
use Rattle.reply_wire.proofs.Preambles.{code_has_one_preamble, code_keeps_preamble}
use Rattle.pie_line.specs.Link.{LinkValue}
use Rattle.reply_grammar.specs.Reception.{no_stream, whole_reply, no_such_reply, reception_from}
use Rattle.reply_grammar.specs.Replies.{AnswersExpected, spelling}
use Rattle.reply_grammar.specs.declared.expected.Expect.{Expect}
use Rattle.reply_grammar.specs.declared.expected.Received.{Received}
use Rattle.reply_grammar.specs.declared.expected.Received.TheVariants.{Whole, Refused}
use Rattle.tag_machine.specs.Answers.{Sent}
use Rattle.air_model.specs.Channel.{Given, silence, whole, broken, raw, levels_of, heard_levels, got_of, IsReadBy}
use Rattle.tag_machine.specs.TagsInExchange.{Replied}
use Rattle.reply_wire.specs.Received.{IsReceived}
use Rattle.reply_wire.specs.Receiving.{received_of}
use Rattle.reply_wire.proofs.ReceivedLaws.{same_bits, same_received, received_is}
use Rattle.air_model.specs.Reception.{is_expected, reception_of, has_preamble, reception_with, HoldsOfSent, IsUnmistakable}
use Rattle.air_model.proofs.ReceptionLaws.{expected_answers, levels_least}
use Rattle.air_model.specs.declared.got.Got.TheVariants as gots

-- a reply has the preamble that is awaited ..
same-preamble : (trext extended own : Bool) → (trext || (if extended then own else not own)) ≡ true → (own || trext) ≡ (extended || trext)
same-preamble true true true same = refl
same-preamble true true false same = refl
same-preamble true false true same = refl
same-preamble true false false same = refl
same-preamble false true true same = refl
same-preamble false true false same = cc
same-preamble false false true same = cc
same-preamble false false false same = refl

-- ... or the other one
other-preamble : (trext extended own : Bool) → (trext || (if extended then own else not own)) ≡ false → (own || trext) ≡ not (extended || trext)
other-preamble true extended own other = cc
other-preamble false true true other = cc
other-preamble false true false other = refl
other-preamble false false true other = refl
other-preamble false false false other = cc

-- a reply is sent as the stream of its bits with its preamble
sent-levels : (link : LinkValue) (sent : Sent) (trext : Bool) → (sent.extended || link.trext) ≡ trext → levels_of link sent ≡ stream_of (table_of link.code) trext (spelling sent.reply sent.handle)
sent-levels link sent trext same = ap (λ (t : Bool). stream_of (table_of link.code) t (spelling sent.reply sent.handle)) same

-- A reply that was sent, where one with the extended preamble is awaited, or one by the TRext: whether it has the preamble that is
-- awaited, whether it is expected, and what is received of it.
record IsAwaited (link : LinkValue) (extended : Bool) (expect : Expect) (sent : Sent) (received : Received) (has expected : Bool) : Type 0 where
  meets : IsUnmistakable expect sent
  preamble : has_preamble link.trext extended sent ≡ has
  known : is_expected expect sent ≡ expected
  is : IsReceived (table_of link.code) (extended || link.trext) expect (levels_of link sent) received

-- what is received of a reply that is given whole
whole_awaited : (link : LinkValue) (extended : Bool) (expect : Expect) (sent : Sent) (received : Received) (has expected : Bool)
    → IsAwaited link extended expect sent received has expected
    → (if has then (if expected then whole_reply sent.reply else no_such_reply) else no_such_reply) ≡ reception_from received
whole_awaited link extended expect sent received true true a =
    let awaited : Bool = extended || link.trext in
    let stream = sent-levels link sent awaited (same-preamble link.trext extended sent.extended a.preamble) in
    let here : IsReceived (table_of link.code) awaited expect (levels_of link sent) (Whole sent.reply) =
    record { bits = spelling sent.reply sent.handle; stream = stream; answers = expected_answers expect sent a.meets.in_range a.known } in
    ap reception_from (same_received link.code awaited expect (levels_of link sent) (Whole sent.reply) received here a.is)
whole_awaited link extended expect sent (Whole reply) true false a =
    let awaited : Bool = extended || link.trext in
    let stream = sent-levels link sent awaited (same-preamble link.trext extended sent.extended a.preamble) in
    let same = same_bits link.code awaited a.is.bits (spelling sent.reply sent.handle) (levels_of link sent) a.is.stream stream in
    absurd (a.meets.unexpected a.known reply (subst (λ bits. AnswersExpected reply expect bits) same a.is.answers))
whole_awaited link extended expect sent (Refused stop) true false a = refl
whole_awaited link extended expect sent (Whole reply) false expected a =
    let awaited : Bool = extended || link.trext in
    let stream = sent-levels link sent (not awaited) (other-preamble link.trext extended sent.extended a.preamble) in
    absurd (code_has_one_preamble link.code awaited (levels_of link sent) (a.is.bits, a.is.stream) (spelling sent.reply sent.handle, stream))
whole_awaited link extended expect sent (Refused stop) false expected a = refl

-- no stream with one level inverted is a stream, with its own preamble or with the other
flipped_none : (code : Code) (own awaited : Bool) (levels : List Bool) (at : ℕ) → at < length levels → Streams (table_of code) own levels
    → ¬ Streams (table_of code) awaited (with_level_flipped levels at)
flipped_none code true true levels at below stream = code_refuses_flips code true levels at below stream
flipped_none code true false levels at below stream = code_keeps_preamble code true levels at stream
flipped_none code false true levels at below stream = code_keeps_preamble code false levels at stream
flipped_none code false false levels at below stream = code_refuses_flips code false levels at below stream

-- a reply that is given broken is refused
broken_awaited : (link : LinkValue) (extended : Bool) (expect : Expect) (replied : Replied) (place : ℕ) (received : Received)
    → IsReceived (table_of link.code) (extended || link.trext) expect (heard_levels link (broken replied place)) received → no_such_reply ≡ reception_from received
broken_awaited link extended expect replied place (Whole reply) is =
    let levels = levels_of link replied.sent in
    absurd (
    flipped_none link.code (replied.sent.extended || link.trext) (extended || link.trext) levels (place % length levels) (mod_below place (length levels) (levels_least link replied.sent))
    (spelling replied.sent.reply replied.sent.handle, refl) (is.bits, is.stream)
    )
broken_awaited link extended expect replied place (Refused stop) is = refl

-- What is received of the levels that the channel gives is what `reception_with` says.
pub awaited_reception : (link : LinkValue) (extended : Bool) (expect : Expect) (given : Given) (received : Received) → HoldsOfSent (IsUnmistakable expect) given
    → IsReadBy link given → got_of link given ≢ gots.Silence
    → IsReceived (table_of link.code) (extended || link.trext) expect (heard_levels link given) received → reception_with link.trext extended expect given ≡ reception_from received
awaited_reception link extended expect silence received meets reads got is = absurd (got refl)
awaited_reception link extended expect (whole replied) received meets reads got is =
    whole_awaited link extended expect replied.sent received (has_preamble link.trext extended replied.sent) (is_expected expect replied.sent)
    (record { meets = meets; preamble = refl; known = refl; is = is })
awaited_reception link extended expect (broken replied place) received meets reads got is = broken_awaited link extended expect replied place received is
awaited_reception link extended expect (raw code trext levels) received meets reads got is =
    let same = received_is link.code (extended || link.trext) expect levels received is in
    ap (λ (c : Code). reception_from (received_of c (extended || trext) expect levels)) reads.0
    ∙ ap (λ (t : Bool). reception_from (received_of link.code (extended || t) expect levels)) reads.1
    ∙ ap reception_from same

-- ... and where it gives none
pub silent_awaited : (link : LinkValue) (trext extended : Bool) (expect : Expect) (given : Given) → got_of link given ≡ gots.Silence → reception_with trext extended expect given ≡ no_stream
silent_awaited link trext extended expect silence got = refl
silent_awaited link trext extended expect given got = cc

plain-preamble : (trext own : Bool) → own ≡ false → (trext || not own) ≡ true
plain-preamble true own plain = refl
plain-preamble false true plain = cc
plain-preamble false false plain = refl

-- where a reply by the TRext is awaited and sent, it makes no difference that the preamble is looked at
pub plain_reception : (trext : Bool) (expect : Expect) (given : Given) → HoldsOfSent (λ sent. sent.extended ≡ false) given
    → reception_with trext false expect given ≡ reception_of expect given
plain_reception trext expect (whole replied) plain =
    ap (λ (has : Bool). if has then reception_of expect (whole replied) else no_such_reply) (plain-preamble trext replied.sent.extended plain)
plain_reception trext expect given plain = refl
