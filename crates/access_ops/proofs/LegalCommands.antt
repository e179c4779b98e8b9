-- The numbers of each command are within their fields.
use Rattle.std.proofs.Common.{◌≡◌, ℕ, ◌+◌, ◌*◌, ◌^◌, ◌<◌, Bool, true, false, List, [], ◌∷◌, bit_xor, refl, sym, ◌∙◌, ap, subst, arith}
use Rattle.std.proofs.lemmas.Nat.{xor_of_16}
use Rattle.std.specs.Int.Bits.{xor_assoc, xor_self, xor_zero_r}
use Rattle.std.specs.List.{AllByRecursion}
use Rattle.command_grammar.specs.Commands.{IsWord, IsLegalCommand}
use Rattle.command_grammar.specs.declared.commands.Command.{Command}
use Rattle.command_grammar.specs.declared.commands.Command.TheVariants as commands
use Rattle.reply_grammar.specs.declared.expected.Expect.{Expect}
use Rattle.reply_grammar.specs.declared.expected.Expect.TheVariants as expects
use Rattle.reply_grammar.specs.declared.expected.Received.TheVariants.{Whole, Refused}
use Rattle.reply_grammar.specs.declared.expected.Reply.{Reply}
use Rattle.reply_grammar.specs.declared.expected.Reply.TheVariants.{Handle, Error}
use Rattle.reply_grammar.specs.Replies.{IsReply}
use Rattle.access_ops.specs.declared.Op.{Op}
use Rattle.access_ops.specs.declared.Op.TheVariants.{Read, Write, BlockWrite, BlockErase, Lock, Access, Kill}
use Rattle.access_ops.specs.declared.OpList.{OpList}
use Rattle.access_ops.specs.declared.op_next.Answer.{Answer}
use Rattle.access_ops.specs.declared.op_next.Answer.TheVariants.{Silence, Got}
use Rattle.access_ops.specs.declared.op_next.OpNext.TheVariants.{Send}
use Rattle.access_ops.specs.Operations.{reception_in, Dialogue, sends, tells, done, behind_reception, behind_last, last_command, behind_number, with_number, words_expected, upper_half, lower_half, send_halves, operation, operations, denials, operations_from_rn16, is_for, dialogue_of, first_of, Move, answered, told, dialogue_behind, dialogue_after, next_operation, IsAnswerFor, IsMoveFor, AreMoves}
use Rattle.access_ops.specs.laws.OperationLaws.{IsLegalOp}
use Rattle.access_ops.proofs.BehindMoves.{operations_from_rn16-is, denials-are}

-- each command of the dialogue is legal, where the answers are in their ranges
abbrev pub IsLegalDialogue : Dialogue → Type 0
IsLegalDialogue (sends command expect extended go_on) = IsLegalCommand command × ((answer : Answer) → IsAnswerFor expect answer → IsLegalDialogue (go_on (reception_in answer)))
IsLegalDialogue (tells result later) = IsLegalDialogue later
IsLegalDialogue done = Unit {0}

legal-answer : (expect : Expect) (go_on : Reply → Dialogue) → ((reply : Reply) → IsReply reply → IsLegalDialogue (go_on reply))
    → (answer : Answer) → IsAnswerFor expect answer → IsLegalDialogue (behind_reception go_on (reception_in answer))
legal-answer expect go_on each Silence is = tt
legal-answer expect go_on each (Got (Refused place)) is = tt
legal-answer expect go_on each (Got (Whole reply)) is = each reply is.1

legal-number : (go_on : ℕ → Dialogue) → ((number : ℕ) → IsWord number → IsLegalDialogue (go_on number)) → (reply : Reply) → IsReply reply → IsLegalDialogue (behind_number go_on reply)
legal-number go_on each (Handle number) is = each number is
legal-number go_on each reply is = tt

legal-last : (later : Dialogue) → IsLegalDialogue later → (reply : Reply) → IsReply reply → IsLegalDialogue (behind_last later reply)
legal-last later legal (Error code) is = legal
legal-last later legal reply is = legal

legal-command : (command : Command) (expect : Expect) (extended : Bool) (later : Dialogue) → IsLegalCommand command → IsLegalDialogue later → IsLegalDialogue (last_command command expect extended later)
legal-command command expect extended later legal rest = (legal, legal-answer expect (behind_last later) (legal-last later rest))

legal-asking : (rn : ℕ) (go_on : ℕ → Dialogue) → IsWord rn → ((number : ℕ) → IsWord number → IsLegalDialogue (go_on number)) → IsLegalDialogue (with_number rn go_on)
legal-asking rn go_on word each = (word, legal-answer expects.Handle (behind_number go_on) (legal-number go_on each))

upper-word : (password : ℕ) → password < 2 ^ 32 → IsWord (upper_half password)
upper-word password fits = omega arith

lower-word : (password : ℕ) → IsWord (lower_half password)
lower-word password = omega arith

module _ (half_command : ℕ → Command) (expect : Expect) (extended : Bool) where
  legal-halves : (password handle : ℕ) (later : Dialogue) → ((half : ℕ) → IsWord half → IsLegalCommand (half_command half))
      → password < 2 ^ 32 → IsWord handle → IsLegalDialogue later → IsLegalDialogue (send_halves half_command expect extended password handle later)
  legal-halves password handle later each fits word rest =
      legal-asking handle _ word (λ cover is. (
        each _ (xor_of_16 (upper_half password) cover (upper-word password fits) is),
        legal-answer (expects.Same handle) _ (legal-number _
            (λ same same-is. legal-asking handle _ word (λ next next-is.
            legal-command _ expect extended later (each _ (xor_of_16 (lower_half password) next (lower-word password) next-is)) rest))),
      ))

legal-operation : (op : Op) (handle : ℕ) (later : Dialogue) → IsLegalOp op → IsWord handle → IsLegalDialogue later → IsLegalDialogue (operation op handle later)
legal-operation (Read bank pointer count) handle later legal word rest =
    legal-command (commands.Read bank pointer count handle) (words_expected count handle) false later (legal.0, legal.1, word) rest
legal-operation (Write bank pointer written) handle later legal word rest =
    legal-asking handle _ word (λ cover is. legal-command (commands.Write bank pointer (bit_xor written cover) handle) (expects.Header handle) true later (legal.0, xor_of_16 written cover legal.1 is, word) rest)
legal-operation (BlockWrite bank pointer words) handle later legal word rest =
    legal-command (commands.BlockWrite bank pointer words handle) (expects.Header handle) true later (legal.0, legal.1, legal.2, legal.3, word) rest
legal-operation (BlockErase bank pointer count) handle later legal word rest =
    legal-command (commands.BlockErase bank pointer count handle) (expects.Header handle) true later (legal.0, legal.1, legal.2, word) rest
legal-operation (Lock payload) handle later legal word rest = legal-command (commands.Lock payload handle) (expects.Header handle) true later (legal, word) rest
legal-operation (Access password) handle later legal word rest =
    legal-halves (λ half. commands.Access half handle) (expects.Same handle) false password handle later (λ half is. (is, word)) legal word rest
legal-operation (Kill password) handle later legal word rest =
    legal-halves (λ half. commands.Kill half handle) (expects.Header handle) true password handle later (λ half is. (is, word)) legal word rest

legal-operations : (ops : List Op) (handle : ℕ) → AllByRecursion IsLegalOp ops → IsWord handle → IsLegalDialogue (operations ops handle)
legal-operations [] handle legal word = tt
legal-operations (op ∷ ops) handle legal word = legal-operation op handle (operations ops handle) legal.0 word (legal-operations ops handle legal.1 word)

legal-denials : (ops : List Op) → IsLegalDialogue (denials ops)
legal-denials [] = tt
legal-denials (op ∷ ops) = legal-denials ops

legal-operations_from_rn16 : (ops : List Op) (rn : ℕ) → AllByRecursion IsLegalOp ops → IsWord rn → IsLegalDialogue (operations_from_rn16 ops rn)
legal-operations_from_rn16 [] rn legal word = tt
legal-operations_from_rn16 (op ∷ ops) rn legal word = legal-asking rn (λ handle. operations (op ∷ ops) handle) word (λ handle is. legal-operations (op ∷ ops) handle legal is)

legal-dialogue : (list : OpList) (epc : List ℕ) (rn : ℕ) (for : Bool) → is_for list.only epc ≡ for → AllByRecursion IsLegalOp list.ops → IsWord rn → IsLegalDialogue (dialogue_of list epc rn)
legal-dialogue list epc rn true for legal word = subst IsLegalDialogue (sym (operations_from_rn16-is list epc rn for)) (legal-operations_from_rn16 list.ops rn legal word)
legal-dialogue list epc rn false other legal word = subst IsLegalDialogue (sym (denials-are list epc rn other)) (legal-denials list.ops)

legal-behind : (dialogue : Dialogue) (move : Move) → IsLegalDialogue dialogue → IsMoveFor (first_of dialogue) move → IsLegalDialogue (dialogue_behind move dialogue)
legal-behind (sends command expect extended go_on) (answered answer) legal follows = legal.1 answer follows
legal-behind (sends command expect extended go_on) told legal follows = absurd follows
legal-behind (tells result later) (answered answer) legal follows = absurd follows
legal-behind (tells result later) told legal follows = legal
legal-behind done (answered answer) legal follows = tt
legal-behind done told legal follows = tt

legal-after : (list : OpList) (epc : List ℕ) (rn : ℕ) (moves : List Move) → AllByRecursion IsLegalOp list.ops → IsWord rn → AreMoves list epc rn moves → IsLegalDialogue (dialogue_after list epc rn moves)
legal-after list epc rn [] legal word are = legal-dialogue list epc rn (is_for list.only epc) refl legal word
legal-after list epc rn (move ∷ moves) legal word are =
    legal-behind (dialogue_after list epc rn moves) move (legal-after list epc rn moves legal word are.1) are.0

legal-first : (dialogue : Dialogue) (command : Command) (expect : Expect) (extended : Bool) → IsLegalDialogue dialogue → first_of dialogue ≡ Send command expect extended → IsLegalCommand command
legal-first (sends own own_expect own_extended go_on) command expect extended legal is = let same : own ≡ command = cc in subst IsLegalCommand same legal.0
legal-first (tells result later) command expect extended legal is = absurd (cc)
legal-first done command expect extended legal is = absurd (cc)

module _ (list : OpList) (epc : List ℕ) (rn : ℕ) where
  pub legal-next : (moves : List Move) (command : Command) (expect : Expect) (extended : Bool) → AllByRecursion IsLegalOp list.ops → IsWord rn
      → AreMoves list epc rn moves → next_operation list epc rn moves ≡ Send command expect extended → IsLegalCommand command
  legal-next moves command expect extended legal word are next =
      legal-first (dialogue_after list epc rn moves) command expect extended (legal-after list epc rn moves legal word are) next

-- what a cover hides comes out under the same cover
pub cover-off : (word cover : ℕ) → bit_xor (bit_xor word cover) cover ≡ word
cover-off word cover = xor_assoc word cover cover ∙ ap (λ n. bit_xor word n) (xor_self cover) ∙ xor_zero_r word

-- both halves of a password
pub whole-password : (password : ℕ) → upper_half password * 2 ^ 16 + lower_half password ≡ password
whole-password password = omega arith
