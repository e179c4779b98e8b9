-- What is sent, with its numbers in their ranges, is a reply that is expected.
use Rattle.std.proofs.Common.{ℕ, Some, refl}
use Rattle.reply_grammar.specs.declared.expected.Expect.{Expect}
use Rattle.reply_grammar.specs.declared.expected.Expect.TheVariants as expects
use Rattle.reply_grammar.specs.declared.expected.Reply.{Reply}
use Rattle.reply_grammar.specs.declared.expected.Reply.TheVariants.{Rn16, Epc, Handle, Words, Header, Error}
use Rattle.reply_grammar.specs.Replies.{AnswersExpected, Carries, Suits}
use Rattle.reply_grammar.proofs.Replies.{answers_from}
use Rattle.tag_machine.specs.Answers.{Sent, HasFewWords, IsSent, bits_sent}

-- an expectation that a reply suits
suited : (reply : Reply) (handle : ℕ) → HasFewWords reply → (expect : Expect) × Suits reply expect × Carries expect handle
suited (Rn16 rn) handle few = (expects.Rn16, tt, tt)
suited (Epc pc epc) handle few = (expects.Epc, tt, tt)
suited (Handle rn) handle few = (expects.Handle, tt, tt)
suited (Words words) handle few = (expects.AnyWords handle, few, refl)
suited Header handle few = (expects.Header handle, tt, refl)
suited (Error code) handle few = (expects.Header handle, tt, refl)

pub sent_answers : (sent : Sent) (expect : Expect) → IsSent (Some sent) → Suits sent.reply expect → Carries expect sent.handle → AnswersExpected sent.reply expect (bits_sent (Some sent))
sent_answers sent expect is suits carries = answers_from sent.reply expect sent.handle suits carries is.0 is.1

pub sent_is_expected : (sent : Sent) → IsSent (Some sent) → (expect : Expect) × AnswersExpected sent.reply expect (bits_sent (Some sent))
sent_is_expected sent is =
    let found = suited sent.reply sent.handle is.2 in
    (found.0, sent_answers sent found.0 is found.1 found.2)
