-- What every dialogue keeps: what is done first of it, the replies that its commands await, and how many commands it has at most.
use Rattle.std.proofs.Common.{◌≡◌, ℕ, zero, suc, ◌+◌, ◌-◌, ◌*◌, ◌≤◌, inl, inr, Bool, true, false, List, [], ◌∷◌, length, if◌then◌else◌, refl, sym, subst, arith}
use Rattle.access_ops.specs.declared.Op.{Op}
use Rattle.access_ops.specs.declared.OpList.{OpList}
use Rattle.access_ops.specs.declared.op_next.OpNext.TheVariants.{Send, Result, End}
use Rattle.access_ops.specs.declared.op_next.OpResult.{OpResult}
use Rattle.access_ops.specs.laws.OperationLaws.{Expects}
use Rattle.access_ops.specs.Operations.{Dialogue, sends, tells, done, denials, operations_from_rn16, is_for, dialogue_of, first_of}
use Rattle.access_ops.proofs.Running.{Runs, commands_of, commands-are, operations_from_rn16-runs}
use Rattle.command_grammar.specs.declared.commands.Command.{Command}
use Rattle.reply_grammar.specs.Reception.{Reception}
use Rattle.reply_grammar.specs.declared.expected.Expect.{Expect}

-- a command is sent, and some dialogue follows each answer
pub first-sends : (dialogue : Dialogue) (command : Command) (expect : Expect) (extended : Bool) → first_of dialogue ≡ Send command expect extended
    → (go_on : Reception → Dialogue) × (dialogue ≡ sends command expect extended go_on)
first-sends (sends command' expect' extended' go_on) command expect extended is = (go_on, cc)
first-sends (tells result later) command expect extended is = absurd (cc)
first-sends done command expect extended is = absurd (cc)

-- a result is told, and some dialogue follows it
pub first-tells : (dialogue : Dialogue) (result : OpResult) → first_of dialogue ≡ Result result → (later : Dialogue) × (dialogue ≡ tells result later)
first-tells (sends command expect extended go_on) result is = absurd (cc)
first-tells (tells result' later) result is = (later, cc)
first-tells done result is = absurd (cc)

-- all is done
pub first-done : (dialogue : Dialogue) → first_of dialogue ≡ End → dialogue ≡ done
first-done (sends command expect extended go_on) is = absurd (cc)
first-done (tells result later) is = absurd (cc)
first-done done is = refl

-- each command of a dialogue expects a reply of its kind
abbrev pub AwaitsReplies : Dialogue → Type 0
AwaitsReplies (sends command expect extended go_on) = Expects command expect extended × ((heard : Reception) → AwaitsReplies (go_on heard))
AwaitsReplies (tells result later) = AwaitsReplies later
AwaitsReplies done = Unit {0}

-- a dialogue has so many commands at most
abbrev pub SendsAtMost : ℕ → Dialogue → Type 0
SendsAtMost most (sends command expect extended go_on) = (1 ≤ most) × ((heard : Reception) → SendsAtMost (most - 1) (go_on heard))
SendsAtMost most (tells result later) = SendsAtMost most later
SendsAtMost most done = Unit {0}

runs-await : (left : ℕ) (ops : List Op) (dialogue : Dialogue) → Runs left ops dialogue → AwaitsReplies dialogue
runs-await zero ops (sends command expect extended go_on) runs = absurd runs
runs-await (suc left) ops (sends command expect extended go_on) runs = (runs.1, λ heard. runs-await left ops (go_on heard) (runs.2 heard))
runs-await left [] (tells result later) runs = absurd runs
runs-await left (op ∷ ops) (tells result later) (inl ended) = subst AwaitsReplies (sym ended.1) tt
runs-await left (op ∷ ops) (tells result later) (inr goes) = runs-await left ops later goes.2
runs-await left ops done runs = tt

runs-few : (left most : ℕ) (ops : List Op) (dialogue : Dialogue) → left ≤ most → Runs left ops dialogue → SendsAtMost most dialogue
runs-few zero most ops (sends command expect extended go_on) fits runs = absurd runs
runs-few (suc left) most ops (sends command expect extended go_on) fits runs =
    (omega arith, λ heard. runs-few left (most - 1) ops (go_on heard) (omega arith) (runs.2 heard))
runs-few left most [] (tells result later) fits runs = absurd runs
runs-few left most (op ∷ ops) (tells result later) fits (inl ended) = subst (SendsAtMost most) (sym ended.1) tt
runs-few left most (op ∷ ops) (tells result later) fits (inr goes) = runs-few left most ops later fits goes.2
runs-few left most ops done fits runs = tt

denials-await : (ops : List Op) → AwaitsReplies (denials ops)
denials-await [] = tt
denials-await (op ∷ ops) = denials-await ops

denials-are-few : (most : ℕ) (ops : List Op) → SendsAtMost most (denials ops)
denials-are-few most [] = tt
denials-are-few most (op ∷ ops) = denials-are-few most ops

await-where : (it_is : Bool) (ops : List Op) (rn : ℕ) → AwaitsReplies (if it_is then operations_from_rn16 ops rn else denials ops)
await-where true ops rn = runs-await (suc (commands_of ops)) ops (operations_from_rn16 ops rn) (operations_from_rn16-runs ops rn)
await-where false ops rn = denials-await ops

few-where : (it_is : Bool) (ops : List Op) (rn : ℕ) → SendsAtMost (4 * length ops + 1) (if it_is then operations_from_rn16 ops rn else denials ops)
few-where true ops rn = runs-few (suc (commands_of ops)) (4 * length ops + 1) ops (operations_from_rn16 ops rn) (omega (arith, commands-are ops)) (operations_from_rn16-runs ops rn)
few-where false ops rn = denials-are-few (4 * length ops + 1) ops

-- each command of the operations of a list expects a reply of its kind
pub dialogues-await : (list : OpList) (epc : List ℕ) (rn : ℕ) → AwaitsReplies (dialogue_of list epc rn)
dialogues-await list epc rn = await-where (is_for list.only epc) list.ops rn

-- the operations of a list are at most four commands each, and one for the handle
pub dialogues-are-few : (list : OpList) (epc : List ℕ) (rn : ℕ) → SendsAtMost (4 * length list.ops + 1) (dialogue_of list epc rn)
dialogues-are-few list epc rn = few-where (is_for list.only epc) list.ops rn
