-- An answer is told by its bits, which are the one reply that is expected.
use Rattle.std.proofs.Common.{◌≡◌, ◌≢◌, ℕ, Bool, true, false, List, [], ◌∷◌, ◌++◌, refl, sym, ◌∙◌, ap, subst, if◌then◌else◌, append_assoc}
use Rattle.std.specs.Prelude.{codes, IfSome, Option, Some, None}
use Rattle.std.specs.Option.{IsSomeAnd}
use Rattle.std.specs.Fmt.{decimal}
use Rattle.std.proofs.lemmas.List.{append-nil}
use Rattle.text_fields.specs.Lines.{line_feed, line_with, text_with}
use Rattle.bit_strings.specs.BitString.{BitString}
use Rattle.reply_grammar.specs.declared.expected.Expect.{Expect}
use Rattle.reply_grammar.specs.declared.expected.Reply.{Reply}
use Rattle.reply_grammar.specs.Replies.{AnswersExpected, Carries}
use Rattle.wire_text.specs.ReplyText.{reply_line}
use Rattle.tag_machine.specs.declared.any_tag.Answered.{Answered}
use Rattle.tag_machine.specs.declared.any_tag.Answered.TheVariants.{Silent, Plain, Extended}
use Rattle.tag_machine.specs.Answers.{Outcome, Sent, bits_sent}
use Rattle.tag_machine.specs.declared.any_tag.Heard.{Heard}
use Rattle.tag_machine.specs.Hearing.{GivesOutcome}
use Rattle.log_judge.proofs.HeardAnswers.{some_expected}
use Rattle.bench_lines.specs.ProbeAnswers.{probe_answer_line, answer_preamble_word}
use Rattle.bench_lines.specs.UnreadAnswers.{IsHeardAnswer}

pub reply_heard : (answer : Option Sent) (answered : Answered) (expect : Option Expect) (bits : List Bool) → IsHeardAnswer answer answered expect bits → answered ≢ Silent
    → (reply : Reply) × IsSomeAnd expect (λ it. AnswersExpected reply it bits)
reply_heard None answered expect bits is heard = absurd (heard is.mark)
reply_heard (Some sent) answered expect bits is heard = (sent.reply, is.bits_are)

-- the mark that an answer has
abbrev pub marked : Bool → Answered
marked true = Extended
marked false = Plain

same_mark : (extended other : Bool) → marked extended ≡ (if other then Extended else Plain) → other ≡ extended
same_mark true true same = refl
same_mark false false same = refl
same_mark true false same = absurd (cc)
same_mark false true same = absurd (cc)

no_mark : (extended : Bool) → marked extended ≡ Silent → ⊥
no_mark true same = cc
no_mark false same = cc

-- the line of an answer that was sent
pub answer_told : (answer : Option Sent) (extended : Bool) (expect : Option Expect) (bits : List Bool) (number : ℕ) (reply : Reply) → IsHeardAnswer answer (marked extended) expect bits
    → ((other : Reply) → IsSomeAnd expect (λ it. AnswersExpected other it bits) → reply ≡ other)
    → line_with (codes "answer" ∷ decimal number ∷ answer_preamble_word extended ∷ reply_line reply ∷ []) ≡ probe_answer_line number answer
answer_told None extended expect bits number reply is only = absurd (no_mark extended is.mark)
answer_told (Some sent) extended expect bits number reply is only =
    ap (λ (r : Reply). line_with (codes "answer" ∷ decimal number ∷ answer_preamble_word extended ∷ reply_line r ∷ [])) (only sent.reply is.bits_are)
    ∙ ap (λ (e : Bool). line_with (codes "answer" ∷ decimal number ∷ answer_preamble_word e ∷ reply_line sent.reply ∷ [])) (sym (same_mark extended sent.extended is.mark))

pub answer_expected : (answer : Option Sent) (expect : Option Expect) (bits : List Bool) → bits ≡ bits_sent answer
    → ((sent : Sent) → answer ≡ Some sent → IsSomeAnd expect (λ it. Carries it sent.handle × AnswersExpected sent.reply it (bits_sent (Some sent))))
    → IfSome answer (λ sent. IsSomeAnd expect (λ it. AnswersExpected sent.reply it bits))
answer_expected None expect bits is expected = tt
answer_expected (Some sent) expect bits is expected = some_expected expect sent bits is (expected sent refl)

-- what a tag made of a command is an answer that is known by what is expected
pub answer_heard : (outcome : Outcome) (heard : Heard) (old new : BitString) (expect expected : Option Expect) → GivesOutcome outcome heard old new → expect ≡ expected
    → ((sent : Sent) → outcome.answer ≡ Some sent → IsSomeAnd expected (λ it. Carries it sent.handle × AnswersExpected sent.reply it (bits_sent (Some sent))))
    → IsHeardAnswer outcome.answer heard.answered expect new.items
answer_heard outcome heard old new expect expected gives same are = record {
  mark = gives.answered;
  bits_are = answer_expected outcome.answer expect new.items (ap (λ (b : BitString). b.items) gives.bits)
      (subst (λ (e : Option Expect). (sent : Sent) → outcome.answer ≡ Some sent → IsSomeAnd e (λ it. Carries it sent.handle × AnswersExpected sent.reply it (bits_sent (Some sent))))
      (sym same) are);
}

-- two lines behind a text
pub two_lines : (text one other : List ℕ) → (text ++ (one ++ line_feed ∷ [])) ++ (other ++ line_feed ∷ []) ≡ text ++ text_with (one ∷ other ∷ [])
two_lines text one other =
    append_assoc text (one ++ line_feed ∷ []) (other ++ line_feed ∷ [])
    ∙ ap (λ (last : List ℕ). text ++ ((one ++ line_feed ∷ []) ++ last)) (sym (append-nil (other ++ line_feed ∷ [])))
