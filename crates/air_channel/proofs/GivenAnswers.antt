-- What the channel gives of answers, by the answer at a place.
use Rattle.std.proofs.Common.{◌≡◌, ℕ, ◌≤◌, ◌||◌, List, [], ◌∷◌, length, Option, Some, None, refl, sym, ap, ◌∙◌, subst, arith}
use Rattle.std.specs.Prelude.{slice_get}
use Rattle.std.proofs.lemmas.List.Elements.{All-get_or}
use Rattle.std.proofs.lemmas.Option.{slice_get-map, slice_get_within, get_or_from_slice_get}
use Rattle.air_channel.proofs.Names.{option_map, IsSent, Replied, AnswerValue, answer_of, answers_of, answer_value_of, Answer, first_broken, broken, levels_of, AreSentAnswers, IsAnswer, answer_levels}
use Rattle.line_code.specs.Stream.{stream_of}
use Rattle.reply_wire.specs.Codes.{table_of}
use Rattle.pie_line.specs.Link.{LinkValue}
use Rattle.reply_grammar.specs.Replies.{longest_reply}
use Rattle.reply_grammar.proofs.Suiting.{spelling-within}
use Rattle.air_model.proofs.ReceptionLaws.{few_words}

some_reply : (picked : Option Replied) (value : AnswerValue) → Some value ≡ option_map answer_of picked → (replied : Replied) × (picked ≡ Some replied) × (value ≡ answer_of replied)
some_reply None value some = absurd (cc)
some_reply (Some replied) value some = (replied, refl, cc)

-- an answer that was asked for is the reply that stands in its place
pub some_replied : (items : List AnswerValue) (replies : List Replied) (at : ℕ) (answer : Answer) {asked : Option Answer} → items ≡ answers_of replies
    → option_map answer_value_of asked ≡ slice_get items at → asked ≡ Some answer → (replied : Replied) × (slice_get replies at ≡ Some replied) × (answer_value_of answer ≡ answer_of replied)
some_replied items replies at answer are found some =
    some_reply (slice_get replies at) (answer_value_of answer)
    (ap (λ (one : Option Answer). option_map answer_value_of one) (sym some) ∙ found ∙ ap (λ (l : List AnswerValue). slice_get l at) are ∙ slice_get-map answer_of replies at)

-- ... which was sent
pub some_given : (items : List AnswerValue) (replies : List Replied) (at : ℕ) (answer : Answer) {asked : Option Answer} → AreSentAnswers items replies
    → option_map answer_value_of asked ≡ slice_get items at → asked ≡ Some answer → (replied : Replied) × (slice_get replies at ≡ Some replied) × IsAnswer answer replied
some_given items replies at answer are found some =
    let there = some_replied items replies at answer are.same found some in
    let sent : IsSent (Some there.0.sent) =
    subst (λ (r : Replied). IsSent (Some r.sent)) (get_or_from_slice_get replies at there.0 there.0 there.1)
    (All-get_or (λ r. IsSent (Some r.sent)) replies at there.0 (slice_get_within replies at there.0 there.1) are.sent) in
    (there.0, there.1, record { same = there.2; sent = sent })

-- its bits are no more than those of the longest reply, and its levels are those of the reply
pub answer_short : (answer : Answer) (replied : Replied) → IsAnswer answer replied → length answer.bits.now ≤ longest_reply
answer_short answer replied is =
    let bits = ap (λ (v : AnswerValue). length v.bits) is.same in
    omega (arith, bits, (spelling-within replied.sent.reply replied.sent.handle is.sent.0 (few_words replied.sent.reply is.sent.2)).1)

pub levels_answered : (link : LinkValue) (answer : Answer) (replied : Replied) → IsAnswer answer replied → answer_levels link answer ≡ levels_of link replied.sent
levels_answered link answer replied is = ap (λ (v : AnswerValue). stream_of (table_of link.code) (v.extended || link.trext) v.bits) is.same

pub first_given : (replies : List Replied) (place : ℕ) (replied : Replied) → slice_get replies 0 ≡ Some replied → first_broken replies place ≡ broken replied place
first_given [] place replied first = absurd (cc)
first_given (other ∷ others) place replied first = cc
