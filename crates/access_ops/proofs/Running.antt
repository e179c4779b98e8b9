-- What holds of a dialogue that does operations: how many commands it has at most, and which operation each of them serves.
use Rattle.std.proofs.Common.{◌≡◌, ◌≢◌, ℕ, zero, suc, ◌*◌, ◌⊎◌, inl, inr, Bool, true, false, List, [], ◌∷◌, length, refl, arith, bit_xor}
use Rattle.command_grammar.specs.declared.commands.Command.{Command}
use Rattle.command_grammar.specs.declared.commands.Command.TheVariants as commands
use Rattle.reply_grammar.specs.declared.expected.Expect.{Expect}
use Rattle.reply_grammar.specs.declared.expected.Expect.TheVariants as expects
use Rattle.reply_grammar.specs.Reception.{Reception, no_stream, whole_reply, no_such_reply}
use Rattle.reply_grammar.specs.declared.expected.Reply.{Reply}
use Rattle.reply_grammar.specs.declared.expected.Reply.TheVariants.{Handle, Error}
use Rattle.access_ops.specs.declared.Op.{Op}
use Rattle.access_ops.specs.declared.Op.TheVariants.{Read, Write, BlockWrite, BlockErase, Lock, Access, Kill}
use Rattle.access_ops.specs.declared.op_next.OpResult.TheVariants as results
use Rattle.access_ops.specs.Operations.{Dialogue, sends, tells, done, behind_reception, behind_last, last_command, behind_number, with_number, words_expected, send_halves, operation, operations, operations_from_rn16}
use Rattle.access_ops.specs.laws.OperationLaws.{EndsRun, Serves, Expects}

-- the command is one of the first operation
abbrev pub ServesFirst : Command → List Op → Type 0
ServesFirst command [] = ⊥
ServesFirst command (op ∷ ops) = Serves command op

-- the dialogue does these operations, with at most so many commands
abbrev pub Runs : ℕ → List Op → Dialogue → Type 0
Runs zero ops (sends command expect extended go_on) = ⊥
Runs (suc left) ops (sends command expect extended go_on) =
    ServesFirst command ops × Expects command expect extended × ((heard : Reception) → Runs left ops (go_on heard))
Runs left [] (tells result later) = ⊥
Runs left (op ∷ ops) (tells result later) = (EndsRun result × (later ≡ done)) ⊎ ((¬ EndsRun result) × (result ≢ results.Denied) × Runs left ops later)
Runs left [] done = Unit {0}
Runs left (op ∷ ops) done = ⊥

-- one command more is no harm
pub runs-more : (left : ℕ) (ops : List Op) (dialogue : Dialogue) → Runs left ops dialogue → Runs (suc left) ops dialogue
runs-more zero ops (sends command expect extended go_on) runs = absurd runs
runs-more (suc left) ops (sends command expect extended go_on) runs = (runs.0, runs.1, λ answer. runs-more left ops (go_on answer) (runs.2 answer))
runs-more left [] (tells result later) runs = absurd runs
runs-more left (op ∷ ops) (tells result later) (inl ended) = inl ended
runs-more left (op ∷ ops) (tells result later) (inr goes) = inr (goes.0, goes.1, runs-more left ops later goes.2)
runs-more left [] done runs = tt
runs-more left (op ∷ ops) done runs = absurd runs

-- whatever the answer
answer-runs : (left : ℕ) (op : Op) (ops : List Op) (go_on : Reply → Dialogue) → ((reply : Reply) → Runs left (op ∷ ops) (go_on reply))
    → (heard : Reception) → Runs left (op ∷ ops) (behind_reception go_on heard)
answer-runs left op ops go_on each no_stream = inl (tt, refl)
answer-runs left op ops go_on each no_such_reply = inl (tt, refl)
answer-runs left op ops go_on each (whole_reply reply) = each reply

number-runs : (left : ℕ) (op : Op) (ops : List Op) (go_on : ℕ → Dialogue) → ((number : ℕ) → Runs left (op ∷ ops) (go_on number))
    → (reply : Reply) → Runs left (op ∷ ops) (behind_number go_on reply)
number-runs left op ops go_on each (Handle number) = each number
number-runs left op ops go_on each reply = inl (tt, refl)

last-runs : (left : ℕ) (op : Op) (ops : List Op) (later : Dialogue) → Runs left ops later → (reply : Reply) → Runs left (op ∷ ops) (behind_last later reply)
last-runs left op ops later runs (Error code) = inr (λ ended. ended, λ same. cc, runs)
last-runs left op ops later runs reply = inr (λ ended. ended, λ same. cc, runs)

module _ (left : ℕ) (op : Op) (ops : List Op) (later : Dialogue) where
  command-runs : (command : Command) (expect : Expect) (extended : Bool) → Serves command op → Expects command expect extended
      → Runs left ops later → Runs (suc left) (op ∷ ops) (last_command command expect extended later)
  command-runs command expect extended serves expects runs =
      (serves, expects, answer-runs left op ops (behind_last later) (last-runs left op ops later runs))

asks : (left : ℕ) (op : Op) (ops : List Op) (rn : ℕ) (go_on : ℕ → Dialogue) → ((number : ℕ) → Runs left (op ∷ ops) (go_on number)) → Runs (suc left) (op ∷ ops) (with_number rn go_on)
asks left op ops rn go_on each = (tt, (refl, refl), answer-runs left op ops (behind_number go_on) (number-runs left op ops go_on each))

-- both halves of a password have a command each, and each of them a Req_RN
module _ (left : ℕ) (op : Op) (ops : List Op) (later : Dialogue) where
  halves-run : (half_command : ℕ → Command) (expect : Expect) (extended : Bool) (password handle : ℕ)
      → ((half : ℕ) → Serves (half_command half) op) → ((half : ℕ) → Expects (half_command half) (expects.Same handle) false) → ((half : ℕ) → Expects (half_command half) expect extended)
      → Runs left ops later → Runs (suc (suc (suc (suc left)))) (op ∷ ops) (send_halves half_command expect extended password handle later)
  halves-run half_command expect extended password handle serves first second runs =
      asks _ op ops handle _ (λ cover. (
        serves _,
        first _,
        answer-runs _ op ops _ (number-runs _ op ops _
            (λ same. asks _ op ops handle _ (λ next. command-runs left op ops later _ expect extended (serves _) (second _) runs))),
      ))

operation-runs : (left : ℕ) (op : Op) (ops : List Op) (handle : ℕ) (later : Dialogue) → Runs left ops later → Runs (suc (suc (suc (suc left)))) (op ∷ ops) (operation op handle later)
operation-runs left (Read bank pointer count) ops handle later runs =
    let more = runs-more _ ops later (runs-more _ ops later (runs-more left ops later runs)) in
    command-runs (suc (suc (suc left))) (Read bank pointer count) ops later (commands.Read bank pointer count handle) (words_expected count handle) false (refl, refl, refl) (refl, refl) more
operation-runs left (Write bank pointer word) ops handle later runs =
    let more = runs-more _ ops later (runs-more left ops later runs) in
    asks _ (Write bank pointer word) ops handle _ (λ cover. command-runs (suc (suc left)) (Write bank pointer word) ops later (commands.Write bank pointer (bit_xor word cover) handle) (expects.Header handle) true (refl, refl) (refl, refl) more)
operation-runs left (BlockWrite bank pointer words) ops handle later runs =
    let more = runs-more _ ops later (runs-more _ ops later (runs-more left ops later runs)) in
    command-runs (suc (suc (suc left))) (BlockWrite bank pointer words) ops later (commands.BlockWrite bank pointer words handle) (expects.Header handle) true (refl, refl, refl) (refl, refl) more
operation-runs left (BlockErase bank pointer count) ops handle later runs =
    let more = runs-more _ ops later (runs-more _ ops later (runs-more left ops later runs)) in
    command-runs (suc (suc (suc left))) (BlockErase bank pointer count) ops later (commands.BlockErase bank pointer count handle) (expects.Header handle) true (refl, refl, refl) (refl, refl) more
operation-runs left (Lock payload) ops handle later runs =
    let more = runs-more _ ops later (runs-more _ ops later (runs-more left ops later runs)) in
    command-runs (suc (suc (suc left))) (Lock payload) ops later (commands.Lock payload handle) (expects.Header handle) true refl (refl, refl) more
operation-runs left (Access password) ops handle later runs =
    halves-run left (Access password) ops later (λ half. commands.Access half handle) (expects.Same handle) false password handle (λ half. tt) (λ half. (refl, refl)) (λ half. (refl, refl)) runs
operation-runs left (Kill password) ops handle later runs =
    halves-run left (Kill password) ops later (λ half. commands.Kill half handle) (expects.Header handle) true password handle (λ half. tt) (λ half. inl (refl, refl)) (λ half. inr (refl, refl)) runs

-- four commands for each operation
abbrev pub commands_of : List Op → ℕ
commands_of [] = zero
commands_of (op ∷ ops) = suc (suc (suc (suc (commands_of ops))))

pub commands-are : (ops : List Op) → commands_of ops ≡ 4 * length ops
commands-are [] = refl
commands-are (op ∷ ops) = omega (arith, commands-are ops)

operations-run : (ops : List Op) (handle : ℕ) → Runs (commands_of ops) ops (operations ops handle)
operations-run [] handle = tt
operations-run (op ∷ ops) handle = operation-runs (commands_of ops) op ops handle (operations ops handle) (operations-run ops handle)

-- ... and one for the handle
pub operations_from_rn16-runs : (ops : List Op) (rn : ℕ) → Runs (suc (commands_of ops)) ops (operations_from_rn16 ops rn)
operations_from_rn16-runs [] rn = tt
operations_from_rn16-runs (op ∷ ops) rn = asks _ op ops rn (λ handle. operations (op ∷ ops) handle) (operations-run (op ∷ ops))
