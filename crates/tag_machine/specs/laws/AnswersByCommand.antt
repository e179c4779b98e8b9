-- 6.3.2.11 Interrogator commands and Tag replies; Annex C Command-response tables: the reply that each command is answered
-- with, and what the interrogator that sent the command expects.
use Rattle.std.specs.Prelude.{◌≡◌, ℕ, zero, suc, ◌≤◌, Bool, true, false, length, Option, Some, None}
use Rattle.command_grammar.specs.declared.commands.Command.{Command}
use Rattle.command_grammar.specs.declared.commands.Command.TheVariants as commands
use Rattle.reply_grammar.specs.declared.expected.Expect.{Expect}
use Rattle.reply_grammar.specs.declared.expected.Expect.TheVariants as expects
use Rattle.reply_grammar.specs.declared.expected.Reply.{Reply}
use Rattle.reply_grammar.specs.declared.expected.Reply.TheVariants.{Rn16, Epc, Handle, Words, Header, Error}
use Rattle.tag_memory.specs.Memory.{pc_of, epc_of}
use Rattle.tag_machine.specs.TagValue.{StateValue, ReplyState, AcknowledgedState, OpenState, SecuredState, BodyValue}
use Rattle.tag_machine.specs.Answers.{Sent}
use Rattle.tag_machine.specs.Draws.{draw_of, body_after_draw}
use Rattle.tag_machine.specs.laws.Extended.{has_half}

-- the number that a command to this tag alone must carry: the RN16 in reply and acknowledged, the handle in open and secured
abbrev pub rn_or_handle_of : StateValue → Option ℕ
rn_or_handle_of (ReplyState session q rn) = Some rn
rn_or_handle_of (AcknowledgedState session q rn) = Some rn
rn_or_handle_of (OpenState held) = Some held.handle
rn_or_handle_of (SecuredState held) = Some held.handle
rn_or_handle_of other = None

-- to a slot command: this RN16, with the TRext of the Query
pub record IsRn16Answer (drawn_word : ℕ) (sent : Sent) : Type 0 where
  pub reply : sent.reply ≡ Rn16 drawn_word
  pub plain : sent.extended ≡ false

-- to an ACK, which carries the tag's number: the tag's PC and EPC
pub record IsEpcAnswer (rn : ℕ) (state : StateValue) (body : BodyValue) (sent : Sent) : Type 0 where
  pub number : rn_or_handle_of state ≡ Some rn
  pub reply : sent.reply ≡ Epc (pc_of body.memory) (epc_of body.memory)
  pub plain : sent.extended ≡ false

-- to a Req_RN, which carries the tag's number: a new number, which was drawn
pub record IsNewNumberAnswer (rn : ℕ) (state : StateValue) (body : BodyValue) (sent : Sent) : Type 0 where
  pub number : rn_or_handle_of state ≡ Some rn
  pub reply : sent.reply ≡ Handle (draw_of body)
  pub plain : sent.extended ≡ false

-- to an Access and to the first half of a Kill, which carry the tag's handle: that handle
pub record IsHandleAnswer (rn : ℕ) (state : StateValue) (sent : Sent) : Type 0 where
  pub number : rn_or_handle_of state ≡ Some rn
  pub reply : sent.reply ≡ Handle rn
  pub handle : sent.handle ≡ rn
  pub plain : sent.extended ≡ false

-- to a Read of so many words: those words, and 1 to 512 where it gives no number; or an error
abbrev pub IsReadReply : ℕ → Reply → Type 0
IsReadReply zero (Words words) = (1 ≤ length words) × (length words ≤ 512)
IsReadReply (suc more) (Words words) = length words ≡ suc more
IsReadReply count (Error code) = Unit {0}
IsReadReply count (Rn16 rn) = ⊥
IsReadReply count (Epc pc epc) = ⊥
IsReadReply count (Handle rn) = ⊥
IsReadReply count Header = ⊥

-- the answer to a Read of so many words carries the handle of the Read
pub record IsReadAnswer (count rn : ℕ) (state : StateValue) (sent : Sent) : Type 0 where
  pub number : rn_or_handle_of state ≡ Some rn
  pub reply : IsReadReply count sent.reply
  pub handle : sent.handle ≡ rn
  pub plain : sent.extended ≡ false

-- to a command that changes memory or locks, or kills: the header or an error, with the extended preamble
abbrev pub IsHeaderOrError : Reply → Type 0
IsHeaderOrError Header = Unit {0}
IsHeaderOrError (Error code) = Unit {0}
IsHeaderOrError other = ⊥

-- the answer to a command that changes memory or locks, or kills, carries the handle of the command
pub record IsDelayedAnswer (rn : ℕ) (state : StateValue) (sent : Sent) : Type 0 where
  pub number : rn_or_handle_of state ≡ Some rn
  pub reply : IsHeaderOrError sent.reply
  pub handle : sent.handle ≡ rn
  pub delayed : sent.extended ≡ true

-- a first Kill is answered at once, a second one after the tag wrote its memory
abbrev pub IsKillAnswer : Bool → ℕ → StateValue → Sent → Type 0
IsKillAnswer false rn state sent = IsHandleAnswer rn state sent
IsKillAnswer true rn state sent = IsDelayedAnswer rn state sent

-- the reply to each command. A Query and a QueryAdjust draw the slot before the RN16. Select and NAK are never answered.
abbrev pub IsAnswerTo : Command → StateValue → BodyValue → Sent → Type 0
IsAnswerTo (commands.QueryRep session) state body sent = IsRn16Answer (draw_of body) sent
IsAnswerTo (commands.Ack rn) state body sent = IsEpcAnswer rn state body sent
IsAnswerTo (commands.Query dr line_code trext sel session target q) state body sent = IsRn16Answer (draw_of (body_after_draw body)) sent
IsAnswerTo (commands.QueryAdjust session updn) state body sent = IsRn16Answer (draw_of (body_after_draw body)) sent
IsAnswerTo (commands.Select target action bank pointer mask) state body sent = ⊥
IsAnswerTo commands.Nak state body sent = ⊥
IsAnswerTo (commands.ReqRn rn) state body sent = IsNewNumberAnswer rn state body sent
IsAnswerTo (commands.Read bank pointer count rn) state body sent = IsReadAnswer count rn state sent
IsAnswerTo (commands.Write bank pointer covered rn) state body sent = IsDelayedAnswer rn state sent
IsAnswerTo (commands.Kill covered rn) state body sent = IsKillAnswer (has_half state) rn state sent
IsAnswerTo (commands.Lock payload rn) state body sent = IsDelayedAnswer rn state sent
IsAnswerTo (commands.Access covered rn) state body sent = IsHandleAnswer rn state sent
IsAnswerTo (commands.BlockWrite bank pointer words rn) state body sent = IsDelayedAnswer rn state sent
IsAnswerTo (commands.BlockErase bank pointer count rn) state body sent = IsDelayedAnswer rn state sent

-- what a Read expects
abbrev pub expect_of_read : ℕ → ℕ → Expect
expect_of_read zero rn = expects.AnyWords rn
expect_of_read (suc more) rn = expects.Words (suc more) rn

-- what a Kill expects, before a first half and after one
abbrev pub expect_of_kill : Bool → ℕ → Expect
expect_of_kill false rn = expects.Same rn
expect_of_kill true rn = expects.Header rn

-- what the interrogator expects in answer to each command, and none where none may come
abbrev pub expect_of : Command → StateValue → Option Expect
expect_of (commands.QueryRep session) state = Some expects.Rn16
expect_of (commands.Ack rn) state = Some expects.Epc
expect_of (commands.Query dr line_code trext sel session target q) state = Some expects.Rn16
expect_of (commands.QueryAdjust session updn) state = Some expects.Rn16
expect_of (commands.Select target action bank pointer mask) state = None
expect_of commands.Nak state = None
expect_of (commands.ReqRn rn) state = Some expects.Handle
expect_of (commands.Read bank pointer count rn) state = Some (expect_of_read count rn)
expect_of (commands.Write bank pointer covered rn) state = Some (expects.Header rn)
expect_of (commands.Kill covered rn) state = Some (expect_of_kill (has_half state) rn)
expect_of (commands.Lock payload rn) state = Some (expects.Header rn)
expect_of (commands.Access covered rn) state = Some (expects.Same rn)
expect_of (commands.BlockWrite bank pointer words rn) state = Some (expects.Header rn)
expect_of (commands.BlockErase bank pointer count rn) state = Some (expects.Header rn)
