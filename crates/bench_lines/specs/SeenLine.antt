-- Profile: the lines of a log that say what the tag was seen to answer, the one spelling of each, and why a line is none.
use Rattle.std.specs.Prelude.{◌≡◌, ◌≢◌, ◌⊎◌, ℕ, List, [], ◌∷◌, codes, IfSome, Option, Some, None}
use Rattle.log_judge.specs.Log.{Seen}
use Rattle.bench_lines.specs.ProbeAnswers.{answer_preamble_word}
use Rattle.wire_text.specs.ReplyText.{IsFaultyReply, IsReplyForm, reply_fields}
use Rattle.tag_machine.specs.declared.any_tag.Answered.{Answered}
use Rattle.tag_machine.specs.declared.any_tag.Answered.TheVariants.{Silent, Plain, Extended}
use Rattle.text_fields.specs.declared.fields_fault.FieldsFault.{FieldsFault}
use Rattle.text_fields.specs.declared.fields_fault.FieldsFault.TheVariants.{Word, Shape, Number}

-- the first field of an answer line of a log
abbrev pub answer_word : List ℕ
answer_word = codes "answer"

-- the field behind it: the tag sent nothing, or a reply with this preamble
abbrev pub seen_mark_word : Answered → List ℕ
seen_mark_word Silent = codes "-"
seen_mark_word Plain = codes "plain"
seen_mark_word Extended = codes "extended"

-- the fields of an answer line of a log behind the first
abbrev pub seen_fields : Option Seen → List (List ℕ)
seen_fields None = seen_mark_word Silent ∷ []
seen_fields (Some seen) = answer_preamble_word seen.extended ∷ reply_fields seen.reply

-- The numbers of a reply that a log says was seen are in the ranges of their fields. An EPC may have another length than its PC says.
abbrev pub IsSeen : Option Seen → Type 0
IsSeen seen = IfSome seen (λ it. IsReplyForm it.reply)

-- the fields behind the first say this answer
pub record SpellSeen (others : List (List ℕ)) (seen : Option Seen) : Type 0 where
  pub spelling : others ≡ seen_fields seen
  pub is : IsSeen seen

-- the line begins as an answer
pub record BeginsAsAnswer (fields : List (List ℕ)) : Type 0 where
  pub others : List (List ℕ)
  pub first : fields ≡ answer_word ∷ others

-- the first reason for which the fields behind the mark say no answer
abbrev pub AreFaultyBehindMark : Answered → List (List ℕ) → FieldsFault → Type 0
AreFaultyBehindMark Silent others Word = ⊥
AreFaultyBehindMark Silent others Shape = others ≢ []
AreFaultyBehindMark Silent others Number = ⊥
AreFaultyBehindMark Plain others fault = IsFaultyReply others fault
AreFaultyBehindMark Extended others fault = IsFaultyReply others fault

-- a mark is there, and what stands behind it is faulty
pub record AreMarkedFaulty (others : List (List ℕ)) (fault : FieldsFault) : Type 0 where
  pub mark : Answered
  pub behind : List (List ℕ)
  pub marked : others ≡ seen_mark_word mark ∷ behind
  pub faulty : AreFaultyBehindMark mark behind fault

-- another field stands where the mark should
abbrev pub AreUnmarked : List (List ℕ) → Type 0
AreUnmarked [] = ⊥
AreUnmarked (first ∷ others) = (mark : Answered) → first ≢ seen_mark_word mark

-- the first reason for which the fields behind the first say no answer
abbrev pub AreFaultySeen : List (List ℕ) → FieldsFault → Type 0
AreFaultySeen others fault = AreMarkedFaulty others fault ⊎ (((fault ≡ Word) × AreUnmarked others) ⊎ ((fault ≡ Shape) × (others ≡ [])))
