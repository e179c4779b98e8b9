-- What an interrogator does with a tag that it has singulated: the operations of a list, in order. 6.3.2.11.3 Access
-- commands has the sequence of commands of each operation; the order of the operations, and what is made of each answer,
-- is profile.
use Rattle.std.specs.Prelude.{ℕ, zero, suc, ◌/◌, ◌%◌, ◌^◌, bit_xor, nat_eq, Bool, true, false, List, [], ◌∷◌, Option, Some, None, if◌then◌else◌}
use Rattle.std.specs.Cmp.Lexicographic.{pointwise}
use Rattle.command_grammar.specs.declared.commands.Command.{Command}
use Rattle.command_grammar.specs.declared.commands.Command.TheVariants as commands
use Rattle.reply_grammar.specs.declared.expected.Expect.{Expect}
use Rattle.reply_grammar.specs.declared.expected.Expect.TheVariants as expects
use Rattle.reply_grammar.specs.declared.expected.Received.TheVariants.{Whole, Refused}
use Rattle.reply_grammar.specs.declared.expected.Reply.{Reply}
use Rattle.reply_grammar.specs.declared.expected.Reply.TheVariants.{Handle, Words, Error}
use Rattle.reply_grammar.specs.Reception.{Reception, no_stream, whole_reply, no_such_reply, reception_from}
use Rattle.reply_grammar.specs.Replies.{Suits, IsReply}
use Rattle.access_ops.specs.declared.Op.{Op}
use Rattle.access_ops.specs.declared.Op.TheVariants.{Read, Write, BlockWrite, BlockErase, Lock, Access, Kill}
use Rattle.access_ops.specs.declared.OpList.{OpList}
use Rattle.access_ops.specs.declared.op_next.Answer.{Answer}
use Rattle.access_ops.specs.declared.op_next.Answer.TheVariants.{Silence, Got}
use Rattle.access_ops.specs.declared.op_next.OpNext.{OpNext}
use Rattle.access_ops.specs.declared.op_next.OpNext.TheVariants.{Send, Result, End}
use Rattle.access_ops.specs.declared.op_next.OpResult.{OpResult}
use Rattle.access_ops.specs.declared.op_next.OpResult.TheVariants as results

-- What an interrogator does, whatever it hears: it sends a command, with the reply that it expects and whether that comes
-- with the extended preamble, and goes on by the answer; or it tells the result of an operation, and goes on; or it has done all.
pub data Dialogue : Type 0 where
  sends : Command → Expect → Bool → (Reception → Dialogue) → Dialogue
  tells : OpResult → Dialogue → Dialogue
  done : Dialogue

-- Where no reply comes the operation ends with Silent, and where a stream is refused with Broken. Nothing follows either.
abbrev pub behind_reception : (Reply → Dialogue) → Reception → Dialogue
behind_reception go_on no_stream = tells results.Silent done
behind_reception go_on no_such_reply = tells results.Broken done
behind_reception go_on (whole_reply reply) = go_on reply

-- A reply that ends an operation: an error code, the words of a Read, or success alone. The later operations follow.
abbrev pub behind_last : Dialogue → Reply → Dialogue
behind_last later (Error code) = tells (results.TagError code) later
behind_last later (Words words) = tells (results.Ok words) later
behind_last later reply = tells (results.Ok []) later

-- the command that ends an operation
abbrev pub last_command : Command → Expect → Bool → Dialogue → Dialogue
last_command command expect extended later = sends command expect extended (behind_reception (behind_last later))

-- 6.3.2.11.3.1 Req_RN: a number of the tag, with which the interrogator goes on
abbrev pub behind_number : (ℕ → Dialogue) → Reply → Dialogue
behind_number go_on (Handle number) = go_on number
behind_number go_on reply = tells results.Broken done

-- a Req_RN with the tag's RN16 or handle, and what follows the number that comes back
abbrev pub with_number : ℕ → (ℕ → Dialogue) → Dialogue
with_number rn go_on = sends (commands.ReqRn rn) expects.Handle false (behind_reception (behind_number go_on))

-- 6.3.2.11.3.2 Read: so many words, or with WordCount 0 as many as there are
abbrev pub words_expected : ℕ → ℕ → Expect
words_expected zero handle = expects.AnyWords handle
words_expected (suc more) handle = expects.Words (suc more) handle

-- 6.3.2.11.3.4 Kill and 6.3.2.11.3.6 Access: a password goes in two halves, the upper one first
abbrev pub upper_half : ℕ → ℕ
upper_half password = password / 2 ^ 16

-- the lower half, the last 16 bits
abbrev pub lower_half : ℕ → ℕ
lower_half password = password % 2 ^ 16

-- 6.3.2.11.3.4 Kill and 6.3.2.11.3.6 Access: each half of a password goes under a cover of its own. The tag answers the first with its handle.
abbrev pub send_lower : (ℕ → Command) → Expect → Bool → ℕ → ℕ → Dialogue → Dialogue
send_lower half_command expect extended password handle later =
    with_number handle (λ cover. last_command (half_command (bit_xor (lower_half password) cover)) expect extended later)

-- the upper half under a cover, and the lower one behind it
abbrev pub send_halves : (ℕ → Command) → Expect → Bool → ℕ → ℕ → Dialogue → Dialogue
send_halves half_command expect extended password handle later =
    with_number handle (λ cover. sends (half_command (bit_xor (upper_half password) cover)) (expects.Same handle) false
    (behind_reception (behind_number (λ same. send_lower half_command expect extended password handle later))))

-- 6.3.2.11.3 Access commands: each operation with the tag of this handle, and what follows it. What is written or shown under a
-- cover is XORed with the number that the tag sent for it. The replies of a tag that wrote its memory have the extended preamble.
abbrev pub operation : Op → ℕ → Dialogue → Dialogue
operation (Read bank pointer count) handle later = last_command (commands.Read bank pointer count handle) (words_expected count handle) false later
operation (Write bank pointer word) handle later =
    with_number handle (λ cover. last_command (commands.Write bank pointer (bit_xor word cover) handle) (expects.Header handle) true later)
operation (BlockWrite bank pointer words) handle later = last_command (commands.BlockWrite bank pointer words handle) (expects.Header handle) true later
operation (BlockErase bank pointer count) handle later = last_command (commands.BlockErase bank pointer count handle) (expects.Header handle) true later
operation (Lock payload) handle later = last_command (commands.Lock payload handle) (expects.Header handle) true later
operation (Access password) handle later = send_halves (λ half. commands.Access half handle) (expects.Same handle) false password handle later
operation (Kill password) handle later = send_halves (λ half. commands.Kill half handle) (expects.Header handle) true password handle later

-- one behind the other
abbrev pub operations : List Op → ℕ → Dialogue
operations [] handle = done
operations (op ∷ ops) handle = operation op handle (operations ops handle)

-- each is denied, and nothing is sent
abbrev pub denials : List Op → Dialogue
denials [] = done
denials (op ∷ ops) = tells results.Denied (denials ops)

-- with the RN16 of the singulation the interrogator asks for the handle, where there is something to do
abbrev pub operations_from_rn16 : List Op → ℕ → Dialogue
operations_from_rn16 [] rn = done
operations_from_rn16 (op ∷ ops) rn = with_number rn (λ handle. operations (op ∷ ops) handle)

-- the list is for the tag with this EPC
abbrev pub is_for : Option (List ℕ) → List ℕ → Bool
is_for None epc = true
is_for (Some only) epc = pointwise nat_eq only epc

-- what is done with the tag that sent this EPC, and this RN16 before it
abbrev pub dialogue_of : OpList → List ℕ → ℕ → Dialogue
dialogue_of list epc rn = if is_for list.only epc then operations_from_rn16 list.ops rn else denials list.ops

-- the first thing that is done
abbrev pub first_of : Dialogue → OpNext
first_of (sends command expect extended go_on) = Send command expect extended
first_of (tells result later) = Result result
first_of done = End

-- what came behind a thing that was done: an answer to a command, or none where a result or the end was told
pub data Move : Type 0 where
  answered : Answer → Move
  told : Move

-- an answer, as what is made of it
abbrev pub reception_in : Answer → Reception
reception_in Silence = no_stream
reception_in (Got received) = reception_from received

-- the rest of what is to be done with a tag, behind this move
abbrev pub dialogue_behind : Move → Dialogue → Dialogue
dialogue_behind (answered answer) (sends command expect extended go_on) = go_on (reception_in answer)
dialogue_behind told (tells result later) = later
dialogue_behind move dialogue = done

-- what is still to be done with the tag that sent this EPC, and this RN16 before it, behind these moves, the latest first
abbrev pub dialogue_after : OpList → List ℕ → ℕ → List Move → Dialogue
dialogue_after list epc rn [] = dialogue_of list epc rn
dialogue_after list epc rn (move ∷ moves) = dialogue_behind move (dialogue_after list epc rn moves)

-- the next command with its expectation and its preamble, the next result, or the end
abbrev pub next_operation : OpList → List ℕ → ℕ → List Move → OpNext
next_operation list epc rn moves = first_of (dialogue_after list epc rn moves)

-- a whole reply in an answer is one that is expected
abbrev pub IsAnswerFor : Expect → Answer → Type 0
IsAnswerFor expect Silence = Unit {0}
IsAnswerFor expect (Got (Refused place)) = Unit {0}
IsAnswerFor expect (Got (Whole reply)) = Suits reply expect × IsReply reply

-- what may come behind a thing that was done: an answer exactly behind a command
abbrev pub IsMoveFor : OpNext → Move → Type 0
IsMoveFor (Send command expect extended) (answered answer) = IsAnswerFor expect answer
IsMoveFor (Send command expect extended) told = ⊥
IsMoveFor (Result result) (answered answer) = ⊥
IsMoveFor (Result result) told = Unit {0}
IsMoveFor End (answered answer) = ⊥
IsMoveFor End told = Unit {0}

-- each of the moves, the latest first, may come where it came
abbrev pub AreMoves : OpList → List ℕ → ℕ → List Move → Type 0
AreMoves list epc rn [] = Unit {0}
AreMoves list epc rn (move ∷ moves) = IsMoveFor (next_operation list epc rn moves) move × AreMoves list epc rn moves
