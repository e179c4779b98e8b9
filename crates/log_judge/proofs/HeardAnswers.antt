-- What a tag answered is told by its mark and by its bits, which are the one reply that is expected.
use Rattle.std.proofs.Common.{◌≡◌, ◌≢◌, ℕ, Bool, true, false, List, Option, Some, None, if◌then◌else◌, refl, sym, ◌∙◌, ap, subst}
use Rattle.std.specs.Option.{IsSomeAnd}
use Rattle.bit_strings.specs.BitString.{BitString}
use Rattle.reply_grammar.specs.declared.expected.Expect.{Expect}
use Rattle.reply_grammar.specs.declared.expected.Reply.{Reply}
use Rattle.reply_grammar.specs.Replies.{AnswersExpected, Carries}
use Rattle.tag_machine.specs.declared.any_tag.Answered.{Answered}
use Rattle.tag_machine.specs.declared.any_tag.Answered.TheVariants.{Silent, Plain, Extended}
use Rattle.tag_machine.specs.declared.any_tag.Heard.{Heard}
use Rattle.tag_machine.specs.Answers.{Outcome, Sent, bits_sent}
use Rattle.tag_machine.specs.Hearing.{GivesOutcome, mark_of}
use Rattle.log_judge.specs.Explaining.{seen_of}
use Rattle.log_judge.proofs.Tests.{so_not}
use Rattle.log_judge.specs.Answers.{seen_marked}

-- what was sent, where something was
abbrev pub HasSent : Option Sent → Option Expect → List Bool → Type 0
HasSent answer expect bits = (sent : Sent) × (answer ≡ Some sent) × IsSomeAnd expect (λ it. AnswersExpected sent.reply it bits)

-- what an interrogator expects of each answer
abbrev pub AreExpected : Option Sent → Option Expect → Type 0
AreExpected answer expect = (sent : Sent) → answer ≡ Some sent → IsSomeAnd expect (λ it. Carries it sent.handle × AnswersExpected sent.reply it (bits_sent (Some sent)))

-- what is sent is expected
pub some_expected : (expect : Option Expect) (sent : Sent) (bits : List Bool) → bits ≡ bits_sent (Some sent)
    → IsSomeAnd expect (λ it. Carries it sent.handle × AnswersExpected sent.reply it (bits_sent (Some sent))) → IsSomeAnd expect (λ it. AnswersExpected sent.reply it bits)
some_expected None sent bits is expected = expected
some_expected (Some it) sent bits is expected = subst (λ (b : List Bool). AnswersExpected sent.reply it b) (sym is) expected.1

sent_so : (answer : Option Sent) (answered : Answered) (expect : Option Expect) (bits : List Bool) → answered ≡ mark_of answer → bits ≡ bits_sent answer → AreExpected answer expect → answered ≢ Silent → HasSent answer expect bits
sent_so None answered expect bits mark bits_are expected heard = absurd (heard mark)
sent_so (Some sent) answered expect bits mark bits_are expected heard = (sent, refl, some_expected expect sent bits bits_are (expected sent refl))

pub has_sent : (outcome : Outcome) (heard : Heard) (old new : BitString) (expect expected : Option Expect) → GivesOutcome outcome heard old new → expect ≡ expected → AreExpected outcome.answer expected
    → heard.answered ≢ Silent → HasSent outcome.answer expect new.items
has_sent outcome heard old new expect expected gives same are told =
    sent_so outcome.answer heard.answered expect new.items gives.answered (ap (λ (b : BitString). b.items) gives.bits) (subst (λ (e : Option Expect). AreExpected outcome.answer e) (sym same) are) told

-- the reply that was read is the one that was sent
marked : (extended : Bool) (reply : Reply) (handle : ℕ) → seen_marked (if extended then Extended else Plain) reply ≡ seen_of (Some (record { reply = reply; handle = handle; extended = extended }))
marked true reply handle = refl
marked false reply handle = refl

pub seen_told : (answer : Option Sent) (answered : Answered) (expect : Option Expect) (bits : List Bool) (reply : Reply) → answered ≡ mark_of answer → HasSent answer expect bits
    → ((other : Reply) → IsSomeAnd expect (λ it. AnswersExpected other it bits) → reply ≡ other) → seen_marked answered reply ≡ seen_of answer
seen_told answer answered expect bits reply mark sent only =
    ap (λ (a : Answered). seen_marked a reply) (mark ∙ ap mark_of sent.1)
    ∙ ap (λ (r : Reply). seen_marked (mark_of (Some sent.0)) r) (only sent.0.reply sent.2)
    ∙ marked sent.0.extended sent.0.reply sent.0.handle
    ∙ sym (ap seen_of sent.1)

abbrev is_silent : Answered → Bool
is_silent Silent = true
is_silent Plain = false
is_silent Extended = false

no_mark : (extended : Bool) → is_silent (if extended then Extended else Plain) ≡ false
no_mark true = refl
no_mark false = refl

pub silence_told : (answer : Option Sent) (answered : Answered) (reply : Reply) → answered ≡ mark_of answer → answered ≡ Silent → seen_marked answered reply ≡ seen_of answer
silence_told None answered reply mark silent_then = ap (λ (a : Answered). seen_marked a reply) silent_then
silence_told (Some sent) answered reply mark silent_then =
    absurd (so_not (sym (ap is_silent silent_then) ∙ ap is_silent mark ∙ no_mark sent.extended))
