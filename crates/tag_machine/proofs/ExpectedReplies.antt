-- What a legal tag sends is what the interrogator expects of the command that the tag heard.
use Rattle.std.proofs.Common.{◌≡◌, ℕ, zero, suc, Bool, true, false, Some, refl, sym, subst}
use Rattle.std.specs.Option.{IsSomeAnd}
use Rattle.command_grammar.specs.declared.commands.Command.{Command}
use Rattle.command_grammar.specs.declared.commands.Command.TheVariants as commands
use Rattle.reply_grammar.specs.declared.expected.Expect.{Expect}
use Rattle.reply_grammar.specs.declared.expected.Expect.TheVariants as expects
use Rattle.reply_grammar.specs.declared.expected.Reply.{Reply}
use Rattle.reply_grammar.specs.declared.expected.Reply.TheVariants.{Rn16, Epc, Handle, Words, Header, Error}
use Rattle.reply_grammar.specs.Replies.{AnswersExpected, Carries, Suits}
use Rattle.tag_machine.specs.TagValue.{StateValue, BodyValue, IsLegalTag}
use Rattle.tag_machine.specs.Answers.{Sent, IsSent, bits_sent}
use Rattle.tag_machine.specs.laws.Extended.{has_half}
use Rattle.tag_machine.specs.laws.AnswersByCommand.{IsRn16Answer, IsHandleAnswer, IsReadReply, IsReadAnswer, IsHeaderOrError, IsDelayedAnswer, IsKillAnswer, IsAnswerTo, expect_of_read, expect_of_kill, expect_of}
use Rattle.tag_machine.specs.Step.{step}
use Rattle.tag_machine.proofs.ReplyRanges.{sent_answers}
use Rattle.tag_machine.proofs.StepFacts.{step_facts}

-- what is sent carries the handle that is expected, and answers
abbrev Meets : Sent → Expect → Type 0
Meets sent expect = Carries expect sent.handle × AnswersExpected sent.reply expect (bits_sent (Some sent))

meets : (sent : Sent) (expect : Expect) → IsSent (Some sent) → Suits sent.reply expect → Carries expect sent.handle → Meets sent expect
meets sent expect legal suits carries = (carries, sent_answers sent expect legal suits carries)

suits_as : (expect : Expect) (reply is : Reply) → reply ≡ is → Suits is expect → Suits reply expect
suits_as expect reply is same suits = subst (λ (r : Reply). Suits r expect) (sym same) suits

rn16_meets : (drawn_word : ℕ) (sent : Sent) → IsSent (Some sent) → IsRn16Answer drawn_word sent → Meets sent expects.Rn16
rn16_meets drawn_word sent legal is = meets sent expects.Rn16 legal (suits_as expects.Rn16 sent.reply (Rn16 drawn_word) is.reply tt) tt

handle_meets : (rn : ℕ) (state : StateValue) (sent : Sent) → IsSent (Some sent) → IsHandleAnswer rn state sent → Meets sent (expects.Same rn)
handle_meets rn state sent legal is = meets sent (expects.Same rn) legal (suits_as (expects.Same rn) sent.reply (Handle rn) is.reply refl) (sym is.handle)

header_suits : (rn : ℕ) (reply : Reply) → IsHeaderOrError reply → Suits reply (expects.Header rn)
header_suits rn (Rn16 word) is = absurd is
header_suits rn (Epc pc epc) is = absurd is
header_suits rn (Handle word) is = absurd is
header_suits rn (Words words) is = absurd is
header_suits rn Header is = tt
header_suits rn (Error code) is = tt

delayed_meets : (rn : ℕ) (state : StateValue) (sent : Sent) → IsSent (Some sent) → IsDelayedAnswer rn state sent → Meets sent (expects.Header rn)
delayed_meets rn state sent legal is = meets sent (expects.Header rn) legal (header_suits rn sent.reply is.reply) (sym is.handle)

kill_meets : (second : Bool) (rn : ℕ) (state : StateValue) (sent : Sent) → IsSent (Some sent) → IsKillAnswer second rn state sent → Meets sent (expect_of_kill second rn)
kill_meets false rn state sent legal is = handle_meets rn state sent legal is
kill_meets true rn state sent legal is = delayed_meets rn state sent legal is

read_suits : (count rn : ℕ) (reply : Reply) → IsReadReply count reply → Suits reply (expect_of_read count rn)
read_suits zero rn (Words words) is = is
read_suits (suc more) rn (Words words) is = is
read_suits zero rn (Error code) is = tt
read_suits (suc more) rn (Error code) is = tt
read_suits zero rn (Rn16 word) is = absurd is
read_suits (suc more) rn (Rn16 word) is = absurd is
read_suits zero rn (Epc pc epc) is = absurd is
read_suits (suc more) rn (Epc pc epc) is = absurd is
read_suits zero rn (Handle word) is = absurd is
read_suits (suc more) rn (Handle word) is = absurd is
read_suits zero rn Header is = absurd is
read_suits (suc more) rn Header is = absurd is

read_carries : (count rn handle : ℕ) → handle ≡ rn → Carries (expect_of_read count rn) handle
read_carries zero rn handle same = sym same
read_carries (suc more) rn handle same = sym same

read_meets : (count rn : ℕ) (state : StateValue) (sent : Sent) → IsSent (Some sent) → IsReadAnswer count rn state sent → Meets sent (expect_of_read count rn)
read_meets count rn state sent legal is =
    meets sent (expect_of_read count rn) legal (read_suits count rn sent.reply is.reply) (read_carries count rn sent.handle is.handle)

reply_meets : (command : Command) (state : StateValue) (body : BodyValue) (sent : Sent) → IsSent (Some sent) → IsAnswerTo command state body sent → IsSomeAnd (expect_of command state) (Meets sent)
reply_meets (commands.QueryRep session) state body sent legal is = rn16_meets _ sent legal is
reply_meets (commands.Ack rn) state body sent legal is =
    meets sent expects.Epc legal (suits_as expects.Epc sent.reply _ is.reply tt) tt
reply_meets (commands.Query dr line_code trext sel session target q) state body sent legal is = rn16_meets _ sent legal is
reply_meets (commands.QueryAdjust session updn) state body sent legal is = rn16_meets _ sent legal is
reply_meets (commands.Select target action bank pointer mask) state body sent legal is = absurd is
reply_meets commands.Nak state body sent legal is = absurd is
reply_meets (commands.ReqRn rn) state body sent legal is =
    meets sent expects.Handle legal (suits_as expects.Handle sent.reply _ is.reply tt) tt
reply_meets (commands.Read bank pointer count rn) state body sent legal is = read_meets count rn state sent legal is
reply_meets (commands.Write bank pointer covered rn) state body sent legal is = delayed_meets rn state sent legal is
reply_meets (commands.Kill covered rn) state body sent legal is = kill_meets (has_half state) rn state sent legal is
reply_meets (commands.Lock payload rn) state body sent legal is = delayed_meets rn state sent legal is
reply_meets (commands.Access covered rn) state body sent legal is = handle_meets rn state sent legal is
reply_meets (commands.BlockWrite bank pointer words rn) state body sent legal is = delayed_meets rn state sent legal is
reply_meets (commands.BlockErase bank pointer count rn) state body sent legal is = delayed_meets rn state sent legal is

pub sent_expected : (command : Command) (state : StateValue) (body : BodyValue) (sent : Sent) → IsLegalTag (record { state = state; body = body }) → (step command state body).answer ≡ Some sent → IsSomeAnd (expect_of command state) (λ expect. Carries expect sent.handle × AnswersExpected sent.reply expect (bits_sent (Some sent)))
sent_expected command state body sent before is =
    let fits = ((step_facts command state body).sent sent is).fits before in
    reply_meets command state body sent fits.1 fits.0
