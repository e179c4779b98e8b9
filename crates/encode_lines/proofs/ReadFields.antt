-- What is read of the fields behind the first, where a reply stands behind others.
use Rattle.std.proofs.Common.{◌≡◌, ◌≢◌, ◌↔◌, ℕ, Bool, List, [], ◌∷◌}
use Rattle.std.specs.Prelude.{IsTrue}
use Rattle.std.proofs.lemmas.List.Elements.{All-head, All-tail}
use Rattle.std.specs.Fmt.{decimal}
use Rattle.bit_strings.specs.declared.code.Code.{Code}
use Rattle.text_fields.specs.Binary.{binary, binary_digit}
use Rattle.text_fields.specs.CodeNames.{code_word}
use Rattle.text_fields.specs.NamedFields.{AreFilled}
use Rattle.text_fields.proofs.FilledFields.{Filled, have_6, none_filled, one_more}
use Rattle.wire_text.specs.ReplyText.{expect_word, other_reply_fields, reply_fields, reply_kind, IsExpect, IsReplyText}
use Rattle.wire_text.proofs.ReplyTexts.{replies_are}
use Rattle.reply_grammar.specs.declared.expected.Expect.{Expect}
use Rattle.reply_grammar.specs.declared.expected.Reply.{Reply as OneReply}
use Rattle.checked_lines.specs.declared.fault.FaultReason.{FaultReason}
use Rattle.checked_lines.specs.declared.fault.FaultReason.TheVariants.{Word, Shape, Number}
use Rattle.encode_lines.specs.Request.{AreDurations, AsksToEncodeBehind, AreFaultyToEncode, IsFaultyReplyBehind, lead_word}
use Rattle.encode_lines.specs.declared.request.Durations.{Durations}
use Rattle.encode_lines.specs.declared.request.LineKind.TheVariants.{Pie as PieKind, Heard as HeardKind}
use Rattle.encode_lines.specs.declared.request.Request.{Request}
use Rattle.encode_lines.specs.declared.request.Request.TheVariants.{Pie, Heard}

three_filled : (a b c : List ℕ) → Filled a → Filled b → Filled c → AreFilled 3 (a ∷ b ∷ c ∷ [])
three_filled a b c p q r = one_more 2 a (b ∷ c ∷ []) p (one_more 1 b (c ∷ []) q (one_more 0 c [] r none_filled))

-- the three fields in front of a reply are filled
abbrev pub ThreeFilled : (a b c : List ℕ) → Type 0
ThreeFilled a b c = (a ≢ []) × (b ≢ []) × (c ≢ [])

-- a line `heard` asks for the stream of its reply alone
no_heard : (a b c : List ℕ) (tail : List (List ℕ))
    → ((code : Code) (trext : Bool) (expect : Expect) (reply : OneReply) → a ≡ code_word code → b ≡ binary_digit trext ∷ [] → IsExpect expect → c ≡ expect_word expect → ¬ IsReplyText tail reply)
    → (request : Request) → ¬ AsksToEncodeBehind HeardKind (a ∷ b ∷ c ∷ tail) request
no_heard a b c tail none (Heard code trext expect reply) asks =
    let spelled : a ∷ b ∷ c ∷ tail ≡ code_word code ∷ (binary_digit trext ∷ []) ∷ expect_word expect ∷ reply_fields reply = asks.spelling in
    let first : a ≡ code_word code = cc in
    let second : b ≡ binary_digit trext ∷ [] = cc in
    let third : c ≡ expect_word expect = cc in
    let back : tail ≡ reply_fields reply = cc in
    none code trext expect reply first second asks.limits.0 third (record { in_range = asks.limits.1; spelling = back })
no_heard a b c tail none request asks = let same = asks.same_kind in cc

front_filled : (a b c : List ℕ) → AreFilled 3 (a ∷ b ∷ c ∷ []) → ThreeFilled a b c
front_filled a b c are =
    let others = All-tail Filled a (b ∷ c ∷ []) are.filled in
    (All-head Filled a (b ∷ c ∷ []) are.filled, All-head Filled b (c ∷ []) others, All-head Filled c [] (All-tail Filled b (c ∷ []) others))

-- what the reply lacks, where a test tells of the fields in front of it whether they are filled
pub heard_faulty : (a b c : List ℕ) (tail : List (List ℕ)) (test : Bool) (reason : FaultReason) → (IsTrue test ↔ ThreeFilled a b c) → IsFaultyReplyBehind (IsTrue test) tail reason
    → AreFaultyToEncode HeardKind (a ∷ b ∷ c ∷ tail) reason
heard_faulty a b c tail test Word tells faulty = faulty
heard_faulty a b c tail test Shape tells faulty = (faulty.0, λ has. faulty.1 (tells.1 (front_filled a b c has.0), has.1))
heard_faulty a b c tail test Number tells faulty =
    let filled = tells.0 faulty.0 in
    ((three_filled a b c filled.0 filled.1 filled.2, faulty.1), no_heard a b c tail (λ code trext expect reply first second is third spelled. faulty.2 reply spelled))
heard_faulty a b c tail test reason tells faulty = faulty

-- a reply stands behind three fields of which one spells nothing
pub heard_unnamed : (a b c : List ℕ) (tail : List (List ℕ)) (reply : OneReply) → ThreeFilled a b c → IsReplyText tail reply
    → ((code : Code) (trext : Bool) (expect : Expect) → a ≡ code_word code → b ≡ binary_digit trext ∷ [] → IsExpect expect → c ≡ expect_word expect → ⊥)
    → AreFaultyToEncode HeardKind (a ∷ b ∷ c ∷ tail) Number
heard_unnamed a b c tail reply filled is none = (
  (
    three_filled a b c filled.0 filled.1 filled.2,
    record { named = reply_kind reply; behind = other_reply_fields reply; first = is.spelling; filled = replies_are.filled reply is.in_range },
  ),
  no_heard a b c tail (λ code trext expect other first second expected third spelled. none code trext expect first second expected third),
)

-- fewer or more than six fields, or an empty one
pub six_missing : (others : List (List ℕ)) → ((a b c d e f : List ℕ) → others ≡ a ∷ b ∷ c ∷ d ∷ e ∷ f ∷ [] → a ≢ [] → b ≢ [] → c ≢ [] → d ≢ [] → e ≢ [] → f ≢ [] → ⊥) → AreFaultyToEncode PieKind others Shape
six_missing others wanting = (λ (nothing : ⊥). nothing, λ filled. have_6 others filled wanting)

pub six_filled : (a b c d e f : List ℕ) → Filled a → Filled b → Filled c → Filled d → Filled e → Filled f → AreFilled 6 (a ∷ b ∷ c ∷ d ∷ e ∷ f ∷ [])
six_filled a b c d e f p q r s t u =
    one_more 5 a (b ∷ c ∷ d ∷ e ∷ f ∷ []) p (one_more 4 b (c ∷ d ∷ e ∷ f ∷ []) q (one_more 3 c (d ∷ e ∷ f ∷ []) r (three_filled d e f s t u)))

-- six fields of which the first four spell no durations
no_pie : (a b c d e f : List ℕ)
    → ((link : Durations) → AreDurations link → a ≡ decimal link.tari → b ≡ decimal link.rtcal → c ≡ decimal link.trcal → d ≡ decimal link.pw → ⊥)
    → (request : Request) → ¬ AsksToEncodeBehind PieKind (a ∷ b ∷ c ∷ d ∷ e ∷ f ∷ []) request
no_pie a b c d e f none (Pie link lead bits) asks =
    let spelled : a ∷ b ∷ c ∷ d ∷ e ∷ f ∷ [] ≡ decimal link.tari ∷ decimal link.rtcal ∷ decimal link.trcal ∷ decimal link.pw ∷ lead_word lead ∷ binary bits ∷ [] = asks.spelling in
    none link asks.limits.0 (cc) (cc) (cc) (cc)
no_pie a b c d e f none request asks = let same = asks.same_kind in cc

pub pie_unnamed : (a b c d e f : List ℕ) → Filled a → Filled b → Filled c → Filled d → Filled e → Filled f
    → ((link : Durations) → AreDurations link → a ≡ decimal link.tari → b ≡ decimal link.rtcal → c ≡ decimal link.trcal → d ≡ decimal link.pw → ⊥)
    → AreFaultyToEncode PieKind (a ∷ b ∷ c ∷ d ∷ e ∷ f ∷ []) Number
pie_unnamed a b c d e f p q r s t u none = (six_filled a b c d e f p q r s t u, no_pie a b c d e f none)
