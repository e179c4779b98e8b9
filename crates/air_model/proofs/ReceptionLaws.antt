-- That what is received of the levels that the channel gives is what `reception_of` says, and how many levels there are.
use Rattle.std.proofs.Common.{◌≡◌, ◌≢◌, ℕ, ◌<◌, ◌≤◌, ◌^◌, ◌%◌, Bool, true, false, ◌&&◌, ◌||◌, List, [], length, Some, slice_get, refl, sym, ap, ◌∙◌, subst, arith}
use Rattle.std.specs.Prelude.{◌↔◌, if◌then◌else◌}
use Rattle.std.proofs.lemmas.Bool.{eqb-true}
use Rattle.std.proofs.lemmas.List.{length-set}
use Rattle.std.proofs.lemmas.Nat.{mod_below}
use Rattle.air_events.specs.Streams.{longest_stream}
use Rattle.bit_strings.specs.declared.code.Code.{Code}
use Rattle.line_code.specs.TableFacts.{with_level_flipped, inverse_of}
use Rattle.line_code.specs.Stream.{stream_of, Streams}
use Rattle.reply_wire.specs.laws.Codes.{code_refuses_flips, stream_least, stream_most}
use Rattle.reply_wire.specs.Codes.{table_of}
use Rattle.pie_line.specs.Link.{LinkValue}
use Rattle.reply_grammar.specs.Replies.{AnswersExpected, FitsBank, IsReply, Suits, handle_of, spelling, suits}
use Rattle.reply_grammar.proofs.Replies.{answers_from}
use Rattle.reply_grammar.proofs.Suiting.{suits-true, spelling-within}
use Rattle.reply_grammar.specs.declared.expected.Expect.{Expect}
use Rattle.reply_grammar.specs.declared.expected.Expect.TheVariants.{Rn16 as OneRn16, Epc as OneEpc, Handle as OneHandle, Same, Words as SomeWords, AnyWords, Header as OneHeader}
use Rattle.reply_grammar.specs.declared.expected.Reply.{Reply}
use Rattle.reply_grammar.specs.declared.expected.Reply.TheVariants.{Rn16, Epc, Handle, Words, Header, Error}
use Rattle.reply_grammar.specs.declared.expected.Received.{Received}
use Rattle.reply_grammar.specs.declared.expected.Received.TheVariants.{Whole, Refused}
use Rattle.tag_machine.specs.Answers.{Sent, IsSent, HasFewWords}
use Rattle.air_model.specs.Channel.{Given, silence, whole, broken, raw, levels_of, heard_levels, got_of, IsOfStreamLength, IsReadBy}
use Rattle.air_model.specs.declared.got.Got.TheVariants as gots
use Rattle.tag_machine.specs.TagsInExchange.{Replied}
use Rattle.reply_wire.specs.Received.{IsReceived}
use Rattle.reply_wire.specs.Receiving.{received_of}
use Rattle.reply_wire.proofs.ReceivedLaws.{same_received, received_there, received_is}
use Rattle.air_model.specs.Reception.{has_handle, is_expected, reception_of, IsGiven, IsReplyFor, IsGivenFor}
use Rattle.reply_grammar.specs.Reception.{no_stream, whole_reply, no_such_reply, reception_from}

both_true : (a b : Bool) → (a && b) ≡ true → (a ≡ true) × (b ≡ true)
both_true true b e = (refl, e)
both_true false b e = cc

-- a reply that suits, with the handle where its kind has one, answers
suiting_answers : (reply : Reply) (expect : Expect) (handle : ℕ) → Suits reply expect → has_handle reply handle (handle_of expect) ≡ true → IsReply reply → handle < 2 ^ 16
    → AnswersExpected reply expect (spelling reply handle)
unfolding spelling
suiting_answers (Rn16 rn) OneRn16 handle suit same range fits = answers_from (Rn16 rn) OneRn16 handle suit tt range fits
suiting_answers (Epc pc epc) OneEpc handle suit same range fits = answers_from (Epc pc epc) OneEpc handle suit tt range fits
suiting_answers (Handle rn) OneHandle handle suit same range fits = answers_from (Handle rn) OneHandle handle suit tt range fits
suiting_answers (Handle rn) (Same named) handle suit same range fits = answers_from (Handle rn) (Same named) named suit refl range (omega arith)
suiting_answers (Words words) (SomeWords count named) handle suit same range fits =
    answers_from (Words words) (SomeWords count named) handle suit (sym (eqb-true handle named same)) range fits
suiting_answers (Words words) (AnyWords named) handle suit same range fits = answers_from (Words words) (AnyWords named) handle suit (sym (eqb-true handle named same)) range fits
suiting_answers Header (OneHeader named) handle suit same range fits = answers_from Header (OneHeader named) handle suit (sym (eqb-true handle named same)) range fits
suiting_answers (Error code) (SomeWords count named) handle suit same range fits =
    answers_from (Error code) (SomeWords count named) handle suit (sym (eqb-true handle named same)) range fits
suiting_answers (Error code) (AnyWords named) handle suit same range fits = answers_from (Error code) (AnyWords named) handle suit (sym (eqb-true handle named same)) range fits
suiting_answers (Error code) (OneHeader named) handle suit same range fits = answers_from (Error code) (OneHeader named) handle suit (sym (eqb-true handle named same)) range fits
suiting_answers reply expect handle suit same range fits = absurd suit

-- what is sent and expected answers
pub expected_answers : (expect : Expect) (sent : Sent) → IsSent (Some sent) → is_expected expect sent ≡ true → AnswersExpected sent.reply expect (spelling sent.reply sent.handle)
expected_answers expect sent in_range expected =
    let both = both_true (suits sent.reply expect) (has_handle sent.reply sent.handle (handle_of expect)) expected in
    suiting_answers sent.reply expect sent.handle (suits-true sent.reply expect both.0) both.1 in_range.0 in_range.1

-- a reply by the link's TRext is sent as the stream of its bits
by_link_levels : (link : LinkValue) (sent : Sent) → sent.extended ≡ false → levels_of link sent ≡ stream_of (table_of link.code) link.trext (spelling sent.reply sent.handle)
by_link_levels link sent by_link = ap (λ extended. stream_of (table_of link.code) (extended || link.trext) (spelling sent.reply sent.handle)) by_link

-- a reply that is given whole is received whole
pub whole_heard : (link : LinkValue) (expect : Expect) (replied : Replied) → IsReplyFor expect replied.sent
    → IsReceived (table_of link.code) link.trext expect (heard_levels link (whole replied)) (Whole replied.sent.reply)
whole_heard link expect replied meets = record {
  bits = spelling replied.sent.reply replied.sent.handle;
  stream = by_link_levels link replied.sent meets.by_link;
  answers = expected_answers expect replied.sent meets.in_range meets.expected;
}

pub levels_least : (link : LinkValue) (sent : Sent) → 1 ≤ length (levels_of link sent)
levels_least link sent = stream_least link.code (sent.extended || link.trext) (spelling sent.reply sent.handle)

-- a reply that is given broken is no stream
broken_none : (link : LinkValue) (replied : Replied) (place : ℕ) → replied.sent.extended ≡ false → ¬ Streams (table_of link.code) link.trext (heard_levels link (broken replied place))
broken_none link replied place by_link =
    let levels = levels_of link replied.sent in
    code_refuses_flips link.code link.trext levels (place % length levels) (mod_below place (length levels) (levels_least link replied.sent))
    (spelling replied.sent.reply replied.sent.handle, by_link_levels link replied.sent by_link)

-- ... and so is refused
pub broken_heard : (link : LinkValue) (expect : Expect) (replied : Replied) (place : ℕ) (received : Received) → replied.sent.extended ≡ false
    → IsReceived (table_of link.code) link.trext expect (heard_levels link (broken replied place)) received → (stop : ℕ) × (received ≡ Refused stop)
broken_heard link expect replied place (Whole reply) by_link is = absurd (broken_none link replied place by_link (is.bits, is.stream))
broken_heard link expect replied place (Refused stop) by_link is = (stop, refl)

-- What is received of the levels that the channel gives is what `reception_of` says, where it gives a stream ..
pub stream_reception : (link : LinkValue) (expect : Expect) (given : Given) (received : Received) → IsGivenFor expect given → IsReadBy link given → got_of link given ≢ gots.Silence
    → IsReceived (table_of link.code) link.trext expect (heard_levels link given) received → reception_of expect given ≡ reception_from received
stream_reception link expect silence received meets reads got is = absurd (got refl)
stream_reception link expect (whole replied) received meets reads got is =
    let same = same_received link.code link.trext expect (heard_levels link (whole replied)) (Whole replied.sent.reply) received (whole_heard link expect replied meets) is in
    ap (λ (test : Bool). if test then whole_reply replied.sent.reply else no_such_reply) meets.expected ∙ ap reception_from same
stream_reception link expect (broken replied place) received meets reads got is =
    let stop = broken_heard link expect replied place received meets.by_link is in
    ap reception_from (sym stop.1)
stream_reception link expect (raw code trext levels) received meets reads got is =
    let same = received_is link.code link.trext expect levels received is in
    ap (λ (c : Code). reception_from (received_of c trext expect levels)) reads.0
    ∙ ap (λ (t : Bool). reception_from (received_of link.code t expect levels)) reads.1
    ∙ ap reception_from same

-- ... and where it gives none
pub silent_reception : (link : LinkValue) (expect : Expect) (given : Given) → got_of link given ≡ gots.Silence → reception_of expect given ≡ no_stream
silent_reception link expect silence got = refl
silent_reception link expect given got = cc

some_stream : (link : LinkValue) (expect : Expect) (given : Given) (reply : Reply) → reception_of expect given ≡ whole_reply reply → got_of link given ≢ gots.Silence
some_stream link expect silence reply heard got = cc
some_stream link expect given reply heard got = cc

pub from_whole : (received : Received) (reply : Reply) → reception_from received ≡ whole_reply reply → received ≡ Whole reply
from_whole (Whole other) reply heard = cc
from_whole (Refused stop) reply heard = absurd (cc)

-- what is taken for a whole reply is one by the levels that are heard
pub whole_is_heard : (link : LinkValue) (expect : Expect) (given : Given) (reply : Reply) → IsGivenFor expect given → IsReadBy link given → reception_of expect given ≡ whole_reply reply
    → IsReceived (table_of link.code) link.trext expect (heard_levels link given) (Whole reply)
whole_is_heard link expect given reply meets reads heard =
    let levels = heard_levels link given in
    let received : Received = received_of link.code link.trext expect levels in
    let is : IsReceived (table_of link.code) link.trext expect levels received = received_there link.code link.trext expect levels in
    let same = stream_reception link expect given received meets reads (some_stream link expect given reply heard) is in
    subst (λ (r : Received). IsReceived (table_of link.code) link.trext expect levels r) (from_whole received reply (sym same ∙ heard)) is

-- a Read brings no more words than a bank has
pub few_words : (reply : Reply) → HasFewWords reply → FitsBank reply
few_words (Words words) few = few.1
few_words reply few = tt

-- 8,225 bits with the longest lead and 16 levels for each bit and for the dummy
levels_most : (link : LinkValue) (sent : Sent) → IsSent (Some sent) → length (levels_of link sent) ≤ longest_stream
levels_most link sent is =
    let most = stream_most link.code (sent.extended || link.trext) (spelling sent.reply sent.handle) in
    let bits = spelling-within sent.reply sent.handle is.0 (few_words sent.reply is.2) in
    omega arith

length-flipped : (levels : List Bool) (place : ℕ) → length (with_level_flipped levels place) ≡ length levels
length-flipped levels place = length-set levels place (inverse_of (slice_get levels place))

length-broken : (link : LinkValue) (replied : Replied) (place : ℕ) → length (heard_levels link (broken replied place)) ≡ length (levels_of link replied.sent)
length-broken link replied place = length-flipped (levels_of link replied.sent) (place % length (levels_of link replied.sent))

-- the channel gives no more levels than the longest stream has
pub heard_most : (link : LinkValue) (given : Given) → IsGiven given → IsOfStreamLength given → length (heard_levels link given) ≤ longest_stream
heard_most link silence is fits = omega arith
heard_most link (whole replied) is fits = levels_most link replied.sent is
heard_most link (broken replied place) is fits = rw (length-broken link replied place) (levels_most link replied.sent is)
heard_most link (raw code trext levels) is fits = fits.1

-- ... and a level at least, unless it is silent
pub heard_least : (link : LinkValue) (given : Given) → IsOfStreamLength given → given ≢ silence → 1 ≤ length (heard_levels link given)
heard_least link silence fits some = absurd (some refl)
heard_least link (whole replied) fits some = levels_least link replied.sent
heard_least link (broken replied place) fits some = rw (length-broken link replied place) (levels_least link replied.sent)
heard_least link (raw code trext levels) fits some = fits.0

nothing_given : (link : LinkValue) (given : Given) → IsOfStreamLength given → heard_levels link given ≡ [] → given ≡ silence
nothing_given link silence fits none = refl
nothing_given link (whole replied) fits none = let least = heard_least link (whole replied) fits (λ e. cc) in let zero_long = ap length none in absurd (omega arith)
nothing_given link (broken replied place) fits none = let least = heard_least link (broken replied place) fits (λ e. cc) in let zero_long = ap length none in absurd (omega arith)
nothing_given link (raw code trext levels) fits none = let least = fits.0 in let zero_long = ap length none in absurd (omega arith)

-- so that no levels are heard exactly where it is silent
pub heard_nothing : (link : LinkValue) (given : Given) → IsOfStreamLength given → (heard_levels link given ≡ []) ↔ (given ≡ silence)
heard_nothing link given fits = (nothing_given link given fits, λ e. ap (λ (g : Given). heard_levels link g) e)
