-- When two answers are one, and when they are errors with two codes.
use Rattle.std.proofs.Common.{◌≡◌, ◌≢◌, ℕ, Bool, true, false, Option, Some, None, if◌then◌else◌, refl, sym, ◌∙◌, ap}
use Rattle.reply_grammar.specs.declared.expected.Reply.{Reply}
use Rattle.reply_grammar.specs.declared.expected.Reply.TheVariants.{Error}
use Rattle.tag_machine.specs.declared.any_tag.Answered.{Answered}
use Rattle.tag_machine.specs.declared.any_tag.Answered.TheVariants.{Silent, Plain, Extended}
use Rattle.log_judge.specs.Log.{Seen}
use Rattle.log_judge.specs.Explaining.{IsOtherError}
use Rattle.log_judge.specs.Answers.{code_in, code_of_reply, seen_in, seen_marked}
use Rattle.log_judge.specs.declared.answer.Answer.{Answer}
use Rattle.log_judge.proofs.Tests.{none_or_some, some_or_none}

-- the mark and the reply of what was seen
abbrev mark_in : Option Seen → Answered
mark_in None = Silent
mark_in (Some seen) = (if seen.extended then Extended else Plain)

abbrev pub reply_in : Reply → Option Seen → Reply
reply_in default None = default
reply_in default (Some seen) = seen.reply

mark_told : (answered : Answered) (reply : Reply) → mark_in (seen_marked answered reply) ≡ answered
mark_told Silent reply = refl
mark_told answered reply = refl

pub marks_same : (one other : Answer) → seen_in one ≡ seen_in other → one.answered ≡ other.answered
marks_same one other same = sym (mark_told one.answered one.reply) ∙ ap mark_in same ∙ mark_told other.answered other.reply

replies_of : (a : Answered) (r : Reply) (b : Answered) (s : Reply) → a ≢ Silent → seen_marked a r ≡ seen_marked b s → r ≡ s
replies_of Silent r b s heard same = absurd (heard refl)
replies_of Plain r Silent s heard same = absurd (some_or_none same)
replies_of Extended r Silent s heard same = absurd (some_or_none same)
replies_of a r b s heard same = ap (reply_in r) same

pub replies_same : (one other : Answer) → one.answered ≢ Silent → seen_in one ≡ seen_in other → one.reply ≡ other.reply
replies_same one other heard same = replies_of one.answered one.reply other.answered other.reply heard same

pub same_answers : (one other : Answer) → one.answered ≡ other.answered → one.reply ≡ other.reply → seen_in one ≡ seen_in other
same_answers one other marks replies = ap (λ (a : Answered). seen_marked a one.reply) marks ∙ ap (λ (r : Reply). seen_marked other.answered r) replies

pub same_silence : (one other : Answer) → one.answered ≡ other.answered → one.answered ≡ Silent → seen_in one ≡ seen_in other
same_silence one other marks silent_then =
    ap (λ (a : Answered). seen_marked a one.reply) silent_then ∙ sym (ap (λ (a : Answered). seen_marked a other.reply) (sym marks ∙ silent_then))

-- errors
is_error : (reply : Reply) (code : ℕ) → code_of_reply reply ≡ Some code → reply ≡ Error code
is_error (Error other) code is = cc
is_error reply code is = absurd (none_or_some is)

pub record IsError (answer : Option Seen) (code : ℕ) : Type 0 where
  pub extended : Bool
  pub is : answer ≡ Some (record { reply = Error code; extended = extended })

pub error_told : (answer : Option Seen) (code : ℕ) → code_in answer ≡ Some code → IsError answer code
error_told None code is = absurd (none_or_some is)
error_told (Some seen) code is = record { extended = seen.extended; is = ap (λ (r : Reply). let it : Option Seen = Some (record { reply = r; extended = seen.extended }) in it) (is_error seen.reply code is) }

abbrev extended_in : Option Seen → Bool
extended_in None = false
extended_in (Some seen) = seen.extended

abbrev is_extended : Answered → Bool
is_extended Silent = false
is_extended Plain = false
is_extended Extended = true

extended_told : (answered : Answered) (reply : Reply) → extended_in (seen_marked answered reply) ≡ is_extended answered
extended_told Silent reply = refl
extended_told answered reply = refl

pub other_error : (one other : Answer) (code wrong : ℕ) → code_in (seen_in one) ≡ Some code → code_in (seen_in other) ≡ Some wrong → one.answered ≡ other.answered → wrong ≢ code → IsOtherError (seen_in one) (seen_in other)
other_error one other code wrong is said marks apart =
    let a = error_told (seen_in one) code is in
    let b = error_told (seen_in other) wrong said in
    let same : a.extended ≡ b.extended
    = sym (ap extended_in a.is) ∙ extended_told one.answered one.reply ∙ ap is_extended marks ∙ sym (extended_told other.answered other.reply) ∙ ap extended_in b.is in
    record {
      code = code;
      other = wrong;
      extended = a.extended;
      answered = a.is;
      said = b.is ∙ ap (λ (x : Bool). let it : Option Seen = Some (record { reply = Error wrong; extended = x }) in it) (sym same);
      apart = apart;
    }

-- what both have, where they are so
pub first_code : (answer seen : Option Seen) (it : IsOtherError answer seen) → code_in answer ≡ Some it.code
first_code answer seen it = ap code_in it.answered

pub second_code : (answer seen : Option Seen) (it : IsOtherError answer seen) → code_in seen ≡ Some it.other
second_code answer seen it = ap code_in it.said

pub marks_of_errors : (one other : Answer) → IsOtherError (seen_in one) (seen_in other) → one.answered ≡ other.answered
marks_of_errors one other it =
    sym (mark_told one.answered one.reply) ∙ ap mark_in it.answered ∙ sym (ap mark_in it.said) ∙ mark_told other.answered other.reply
