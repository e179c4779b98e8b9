-- The fields of an answer line say one answer, or are faulty for one reason.
use Rattle.std.proofs.Common.{rules, ◌≡◌, ℕ, Bool, true, false, List, [], ◌∷◌, ap, ap₂, get_or, arith, refl, sym, ◌∙◌, subst, inl, inr}
use Rattle.std.specs.Prelude.{Option, Some, None}
use Rattle.log_judge.specs.Log.{Seen}
use Rattle.bench_lines.specs.ProbeAnswers.{answer_preamble_word}
use Rattle.reply_grammar.specs.declared.expected.Reply.{Reply}
use Rattle.wire_text.specs.ReplyText.{IsFaultyReply, IsReplyForm, IsReplyText, reply_fields}
use Rattle.tag_machine.specs.declared.any_tag.Answered.{Answered}
use Rattle.tag_machine.specs.declared.any_tag.Answered.TheVariants.{Silent, Plain, Extended}
use Rattle.text_fields.specs.declared.fields_fault.FieldsFault.{FieldsFault}
use Rattle.text_fields.specs.declared.fields_fault.FieldsFault.TheVariants.{Word, Shape, Number}
use Rattle.text_fields.proofs.NamedFieldLaws.{same_behind}
use Rattle.bench_lines.specs.SeenLine.{AreFaultyBehindMark, AreFaultySeen, AreMarkedFaulty, AreUnmarked, SpellSeen, seen_mark_word, seen_fields}
use Rattle.bench_lines.specs.laws.SeenLaws.{SeenLaws}

-- what the laws of replies say
pub record Known : Type 0 where
  pub told : (fields : List (List ℕ)) (one other : Reply) → IsReplyText fields one → IsReplyText fields other → one ≡ other
  pub not_faulty : (fields : List (List ℕ)) (reply : Reply) (fault : FieldsFault) → IsReplyText fields reply → IsFaultyReply fields fault → ⊥
  pub one_fault : (fields : List (List ℕ)) (one other : FieldsFault) → IsFaultyReply fields one → IsFaultyReply fields other → one ≡ other

-- two marks have two words
mark_told : (one other : Answered) → seen_mark_word one ≡ seen_mark_word other → one ≡ other
mark_told Silent Silent same = refl
mark_told Plain Plain same = refl
mark_told Extended Extended same = refl
mark_told one other same =
    let first = ap (λ (text : List ℕ). get_or text 0 0) same in
    absurd (omega arith)

-- the mark of a reply
abbrev marked : Bool → Answered
marked true = Extended
marked false = Plain

mark_is : (extended : Bool) → answer_preamble_word extended ≡ seen_mark_word (marked extended)
mark_is true = refl
mark_is false = refl

marked_told : (one other : Bool) → marked one ≡ marked other → one ≡ other
marked_told true true same = refl
marked_told false false same = refl
marked_told one other same = absurd (cc)

marked_or_silent : (extended : Bool) → marked extended ≡ Silent → ⊥
marked_or_silent true same = cc
marked_or_silent false same = cc

-- two preambles are told apart, and from none
preamble_told : (one other : Bool) → answer_preamble_word one ≡ answer_preamble_word other → one ≡ other
preamble_told one other same = marked_told one other (mark_told (marked one) (marked other) (sym (mark_is one) ∙ same ∙ mark_is other))

preamble_or_hyphen : (extended : Bool) → answer_preamble_word extended ≡ seen_mark_word Silent → ⊥
preamble_or_hyphen extended same = marked_or_silent extended (mark_told (marked extended) Silent (sym (mark_is extended) ∙ same))

same_seen : (one other : Seen) → one.reply ≡ other.reply → one.extended ≡ other.extended → one ≡ other
same_seen one other replies preambles = ap₂ (λ (reply : Reply) (extended : Bool). record { reply = reply; extended = extended }) replies preambles

fields_told : Known → (one other : Option Seen) → SpellSeen (seen_fields other) one → SpellSeen (seen_fields other) other → one ≡ other
fields_told known None None spells spells' = refl
fields_told known None (Some seen) spells spells' =
    absurd (preamble_or_hyphen seen.extended (same_behind (answer_preamble_word seen.extended) (seen_mark_word Silent) (reply_fields seen.reply) [] spells.spelling).0)
fields_told known (Some seen) None spells spells' =
    absurd (preamble_or_hyphen seen.extended (sym (same_behind (seen_mark_word Silent) (answer_preamble_word seen.extended) [] (reply_fields seen.reply) spells.spelling).0))
fields_told known (Some one) (Some other) spells spells' =
    let same = same_behind (answer_preamble_word other.extended) (answer_preamble_word one.extended) (reply_fields other.reply) (reply_fields one.reply) spells.spelling in
    let replies : one.reply ≡ other.reply = known.told (reply_fields other.reply) one.reply other.reply
    (record { in_range = spells.is; spelling = same.1 }) (record { in_range = spells'.is; spelling = refl }) in
    ap Some (same_seen one other replies (sym (preamble_told other.extended one.extended same.0)))

seen_told : Known → (others : List (List ℕ)) (one other : Option Seen) → SpellSeen others one → SpellSeen others other → one ≡ other
seen_told known others one other spells spells' =
    fields_told known one other (record { spelling = sym spells'.spelling ∙ spells.spelling; is = spells.is }) (record { spelling = refl; is = spells'.is })

-- what is spelled isn't faulty behind its mark
none_not_faulty : (mark : Answered) (behind : List (List ℕ)) (fault : FieldsFault) → seen_mark_word Silent ≡ seen_mark_word mark → [] ≡ behind → AreFaultyBehindMark mark behind fault → ⊥
none_not_faulty Silent behind Word same rest faulty = faulty
none_not_faulty Silent behind Shape same rest faulty = faulty (sym rest)
none_not_faulty Silent behind Number same rest faulty = faulty
none_not_faulty Plain behind fault same rest faulty = let marks = mark_told Silent Plain same in cc
none_not_faulty Extended behind fault same rest faulty = let marks = mark_told Silent Extended same in cc

some_not_faulty : Known → (seen : Seen) (mark : Answered) (behind : List (List ℕ)) (fault : FieldsFault) → IsReplyForm seen.reply
    → answer_preamble_word seen.extended ≡ seen_mark_word mark → reply_fields seen.reply ≡ behind → AreFaultyBehindMark mark behind fault → ⊥
some_not_faulty known seen Silent behind fault is same rest faulty = preamble_or_hyphen seen.extended same
some_not_faulty known seen Plain behind fault is same rest faulty = known.not_faulty behind seen.reply fault (record { in_range = is; spelling = sym rest }) faulty
some_not_faulty known seen Extended behind fault is same rest faulty = known.not_faulty behind seen.reply fault (record { in_range = is; spelling = sym rest }) faulty

marked_not_faulty : Known → (seen : Option Seen) (others : List (List ℕ)) (fault : FieldsFault) → SpellSeen others seen → AreMarkedFaulty others fault → ⊥
marked_not_faulty known None others fault spells faulty =
    let same = same_behind (seen_mark_word Silent) (seen_mark_word faulty.mark) [] faulty.behind (sym spells.spelling ∙ faulty.marked) in
    none_not_faulty faulty.mark faulty.behind fault same.0 same.1 faulty.faulty
marked_not_faulty known (Some seen) others fault spells faulty =
    let same = same_behind (answer_preamble_word seen.extended) (seen_mark_word faulty.mark) (reply_fields seen.reply) faulty.behind (sym spells.spelling ∙ faulty.marked) in
    some_not_faulty known seen faulty.mark faulty.behind fault spells.is same.0 same.1 faulty.faulty

-- it has a mark
spelled_marked : (seen : Option Seen) → AreUnmarked (seen_fields seen) → ⊥
spelled_marked None unmarked = unmarked Silent refl
spelled_marked (Some seen) unmarked = unmarked (marked seen.extended) (mark_is seen.extended)

spelled_some : (seen : Option Seen) → seen_fields seen ≡ [] → ⊥
spelled_some None none = cc
spelled_some (Some seen) none = cc

seen_not_faulty : Known → (others : List (List ℕ)) (seen : Option Seen) (fault : FieldsFault) → SpellSeen others seen → AreFaultySeen others fault → ⊥
seen_not_faulty known others seen fault spells (inl faulty) = marked_not_faulty known seen others fault spells faulty
seen_not_faulty known others seen fault spells (inr (inl unmarked)) = spelled_marked seen (subst AreUnmarked spells.spelling unmarked.1)
seen_not_faulty known others seen fault spells (inr (inr none)) = spelled_some seen (sym spells.spelling ∙ none.1)

-- behind a mark there is one reason
one_behind : Known → (mark : Answered) (behind : List (List ℕ)) (one other : FieldsFault) → AreFaultyBehindMark mark behind one → AreFaultyBehindMark mark behind other → one ≡ other
one_behind known Silent behind Shape Shape faulty faulty' = refl
one_behind known Silent behind one other faulty faulty' = absurd (search rules)
one_behind known mark behind one other faulty faulty' = known.one_fault behind one other faulty faulty'

one_marked : Known → (others : List (List ℕ)) (one other : FieldsFault) → AreMarkedFaulty others one → AreMarkedFaulty others other → one ≡ other
one_marked known others one other faulty faulty' =
    let same = same_behind (seen_mark_word faulty'.mark) (seen_mark_word faulty.mark) faulty'.behind faulty.behind (sym faulty'.marked ∙ faulty.marked) in
    let marks = mark_told faulty'.mark faulty.mark same.0 in
    one_behind known faulty.mark faulty.behind one other faulty.faulty
    (subst (λ (list : List (List ℕ)). AreFaultyBehindMark faulty.mark list other) same.1
    (subst (λ (mark : Answered). AreFaultyBehindMark mark faulty'.behind other) marks faulty'.faulty))

marked_or_unmarked : (others : List (List ℕ)) (fault : FieldsFault) → AreMarkedFaulty others fault → AreUnmarked others → ⊥
marked_or_unmarked others fault faulty unmarked = (subst AreUnmarked faulty.marked unmarked) faulty.mark refl

marked_or_none : (others : List (List ℕ)) (fault : FieldsFault) → AreMarkedFaulty others fault → others ≡ [] → ⊥
marked_or_none others fault faulty none = let same = sym faulty.marked ∙ none in cc

unmarked_or_none : (others : List (List ℕ)) → AreUnmarked others → others ≡ [] → ⊥
unmarked_or_none [] unmarked none = unmarked
unmarked_or_none (first ∷ others) unmarked none = cc

one_seen_fault : Known → (others : List (List ℕ)) (one other : FieldsFault) → AreFaultySeen others one → AreFaultySeen others other → one ≡ other
one_seen_fault known others one other (inl a) (inl b) = one_marked known others one other a b
one_seen_fault known others one other (inl a) (inr (inl b)) = absurd (marked_or_unmarked others one a b.1)
one_seen_fault known others one other (inl a) (inr (inr b)) = absurd (marked_or_none others one a b.1)
one_seen_fault known others one other (inr (inl a)) (inl b) = absurd (marked_or_unmarked others other b a.1)
one_seen_fault known others one other (inr (inl a)) (inr (inl b)) = a.0 ∙ sym b.0
one_seen_fault known others one other (inr (inl a)) (inr (inr b)) = absurd (unmarked_or_none others a.1 b.1)
one_seen_fault known others one other (inr (inr a)) (inl b) = absurd (marked_or_none others other b a.1)
one_seen_fault known others one other (inr (inr a)) (inr (inl b)) = absurd (unmarked_or_none others b.1 a.1)
one_seen_fault known others one other (inr (inr a)) (inr (inr b)) = a.0 ∙ sym b.0

pub seen_lawful : Known → SeenLaws
seen_lawful known = record { told = seen_told known; not_faulty = seen_not_faulty known; one_fault = one_seen_fault known }
