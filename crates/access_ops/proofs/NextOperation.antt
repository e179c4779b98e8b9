-- What a run does first, and that it does what is left.
use Rattle.std.proofs.Common.{◌≡◌, ℕ, suc, ◌+◌, ◌<◌, Bool, false, List, [], ◌∷◌, length, drop, Option, Some, None, refl, sym, ◌∙◌, ap, subst, arith, add-one, drop-cons, get_or}
use Rattle.std.proofs.lemmas.List.{length-drop}
use Rattle.command_grammar.specs.declared.commands.Command.{Command}
use Rattle.command_grammar.specs.declared.commands.Command.TheVariants as commands
use Rattle.reply_grammar.specs.Reception.{Reception}
use Rattle.reply_grammar.specs.declared.expected.Expect.{Expect}
use Rattle.reply_grammar.specs.declared.expected.Expect.TheVariants as expects
use Rattle.access_ops.specs.declared.Op.{Op}
use Rattle.access_ops.specs.declared.Op.TheVariants as ops
use Rattle.access_ops.specs.declared.OpList.{OpList}
use Rattle.access_ops.specs.declared.op_next.Answer.{Answer}
use Rattle.access_ops.specs.declared.op_next.OpNext.{OpNext}
use Rattle.access_ops.specs.declared.op_next.OpNext.TheVariants.{Send, Result}
use Rattle.access_ops.specs.declared.op_next.OpResult.{OpResult}
use Rattle.access_ops.specs.declared.op_next.OpResult.TheVariants as results
use Rattle.access_ops.specs.declared.stage.Covered.TheVariants.{Upper}
use Rattle.access_ops.specs.declared.stage.Purpose.TheVariants.{Handle, Cover}
use Rattle.access_ops.specs.declared.stage.Password.TheVariants.{Access, Kill}
use Rattle.access_ops.specs.declared.stage.Stage.{Stage}
use Rattle.access_ops.specs.declared.stage.Stage.TheVariants.{Deny, Number}
use Rattle.access_ops.specs.Operations.{Dialogue, sends, tells, behind_reception, behind_number, operation, operations, denials, operations_from_rn16, first_of, Move, answered, told, reception_in, dialogue_behind, dialogue_after, next_operation, IsMoveFor}
use Rattle.access_ops.specs.OpRunValue.{OpRunValue, later_of, dialogue_at, dialogue_with, answer_in, last_answer, Does, OpRunStandsFor, IsNextOperation}

-- a command: the run goes on by the answer
sent-rest : (command : Command) (expect : Expect) (extended : Bool) (go_on : Reception → Dialogue) (list : OpList) (run : OpRunValue)
    → ((answer : Answer) → go_on (reception_in answer) ≡ dialogue_with list run (Some answer)) → (move : Move) → IsMoveFor (Send command expect extended) move
    → dialogue_behind move (sends command expect extended go_on) ≡ dialogue_with list run (answer_in move)
sent-rest command expect extended go_on list run same (answered answer) follows = same answer
sent-rest command expect extended go_on list run same told follows = absurd follows

pub does-send : (command : Command) (expect : Expect) (extended : Bool) (go_on : Reception → Dialogue) (list : OpList) (run : OpRunValue)
    → ((answer : Answer) → go_on (reception_in answer) ≡ dialogue_with list run (Some answer)) → Does (Send command expect extended) run list (sends command expect extended go_on)
does-send command expect extended go_on list run same = record { first = refl; rest = sent-rest command expect extended go_on list run same }

-- a result: the run goes on without one
told-rest : (result : OpResult) (later : Dialogue) (list : OpList) (run : OpRunValue) → later ≡ dialogue_with list run None → (move : Move) → IsMoveFor (Result result) move
    → dialogue_behind move (tells result later) ≡ dialogue_with list run (answer_in move)
told-rest result later list run same (answered answer) follows = absurd follows
told-rest result later list run same told follows = same

pub does-tell : (result : OpResult) (later : Dialogue) (list : OpList) (run : OpRunValue) → later ≡ dialogue_with list run None → Does (Result result) run list (tells result later)
does-tell result later list run same = record { first = refl; rest = told-rest result later list run same }

-- where there is an operation the handle is asked for
opens : (list : OpList) (rn begun : ℕ) (ops : List Op) → drop begun list.ops ≡ ops → 0 < length ops
    → Does (Send (commands.ReqRn rn) expects.Handle false) (record { rn = rn; begun = begun; stage = Number Handle }) list (operations_from_rn16 ops rn)
opens list rn begun [] is some = absurd (omega arith)
opens list rn begun (op ∷ ops) is some =
    does-send (commands.ReqRn rn) expects.Handle false (behind_reception (behind_number (λ handle. operations (op ∷ ops) handle))) list (record { rn = rn; begun = begun; stage = Number Handle })
    (λ answer. ap (λ (os : List Op). behind_reception (behind_number (λ handle. operations os handle)) (reception_in answer)) (sym is))

pub does-open : (list : OpList) (run : OpRunValue) → run.begun < length list.ops
    → Does (Send (commands.ReqRn run.rn) expects.Handle false) (record run { stage = Number Handle }) list (operations_from_rn16 (drop run.begun list.ops) run.rn)
does-open list run some = opens list run.rn run.begun (drop run.begun list.ops) refl (omega (arith, length-drop run.begun list.ops))

-- ... or the operation is denied
denies : (list : OpList) (rn begun : ℕ) (ops : List Op) → drop begun list.ops ≡ ops → 0 < length ops
    → Does (Result results.Denied) (record { rn = rn; begun = begun + 1; stage = Deny }) list (denials ops)
denies list rn begun [] is some = absurd (omega arith)
denies list rn begun (op ∷ ops) is some =
    let here : begun < length list.ops = omega (arith, length-drop begun list.ops, ap (λ (os : List Op). length os) is) in
    let split : drop begun list.ops ≡ get_or list.ops begun op ∷ drop (suc begun) list.ops = drop-cons list.ops begun op here in
    let same : ops ≡ drop (begun + 1) list.ops = rw add-one (cc) in
    does-tell results.Denied (denials ops) list (record { rn = rn; begun = begun + 1; stage = Deny }) (ap denials same)

pub does-deny : (list : OpList) (run : OpRunValue) → run.stage ≡ Deny → run.begun < length list.ops
    → Does (Result results.Denied) (record run { begun = run.begun + 1 }) list (denials (drop run.begun list.ops))
does-deny list run deny some = rw deny (denies list run.rn run.begun (drop run.begun list.ops) refl (omega (arith, length-drop run.begun list.ops)))

-- an Access and a Kill ask for the cover of the upper half
pub does-access : (list : OpList) (run : OpRunValue) (password : ℕ)
    → Does (Send (commands.ReqRn run.rn) expects.Handle false) (record run { stage = Number (Cover (Upper (Access password))) }) list (operation (ops.Access password) run.rn (later_of list run))
does-access list run password = does-send (commands.ReqRn run.rn) expects.Handle false _ list (record run { stage = Number (Cover (Upper (Access password))) }) (λ answer. refl)

pub does-kill : (list : OpList) (run : OpRunValue) (password : ℕ)
    → Does (Send (commands.ReqRn run.rn) expects.Handle false) (record run { stage = Number (Cover (Upper (Kill password))) }) list (operation (ops.Kill password) run.rn (later_of list run))
does-kill list run password = does-send (commands.ReqRn run.rn) expects.Handle false _ list (record run { stage = Number (Cover (Upper (Kill password))) }) (λ answer. refl)

-- what comes next is what is done first of what is left
module _ (said : OpNext) (run : OpRunValue) (new : OpRunValue) where
  pub does-next : (list : OpList) (epc : List ℕ) (rn : ℕ) (moves : List Move) (answer : Option Answer)
      → OpRunStandsFor run list epc rn moves → answer ≡ last_answer moves → Does said new list (dialogue_with list run answer) → IsNextOperation said new list epc rn moves
  does-next list epc rn moves answer s given does =
      let is : dialogue_after list epc rn moves ≡ dialogue_with list run answer = s.dialogue ∙ ap (λ (a : Option Answer). dialogue_with list run a) (sym given) in
      let next : said ≡ next_operation list epc rn moves = does.first ∙ ap first_of (sym is) in
      record {
        next = next;
        stands = λ move follows. record {
          moves_are = (subst (λ (n : OpNext). IsMoveFor n move) next follows, s.moves_are);
          dialogue = ap (λ (d : Dialogue). dialogue_behind move d) is ∙ does.rest move follows;
        };
      }

-- ... in a stage that goes by the answer
module _ (said : OpNext) (run : OpRunValue) (new : OpRunValue) where
  pub next-at : (list : OpList) (epc : List ℕ) (rn : ℕ) (moves : List Move) (answer : Option Answer) (stage : Stage) → run.stage ≡ stage
      → OpRunStandsFor run list epc rn moves → answer ≡ last_answer moves → Does said new list (dialogue_at stage list run answer) → IsNextOperation said new list epc rn moves
  next-at list epc rn moves answer stage is s given does =
      does-next said run new list epc rn moves answer s given (subst (λ (at : Stage). Does said new list (dialogue_at at list run answer)) (sym is) does)
