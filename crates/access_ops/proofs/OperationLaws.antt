-- The laws of runs of operations.
use Rattle.std.proofs.Common.{◌≡◌, ◌≢◌, ℕ, zero, suc, ◌+◌, ◌*◌, ◌≤◌, ◌⊎◌, inl, inr, Bool, true, false, List, [], ◌∷◌, ◌++◌, length, Some, slice_get, nat_lt, refl, sym, ◌∙◌, ap, subst, arith}
use Rattle.std.specs.Prelude.{◌↔◌, nat_eq, if◌then◌else◌}
use Rattle.std.specs.Cmp.Lexicographic.{pointwise, same_text, other_text}
use Rattle.std.proofs.lemmas.Bool.Decides.{nat_tests}
use Rattle.command_grammar.specs.declared.commands.Command.{Command}
use Rattle.reply_grammar.specs.declared.expected.Expect.{Expect}
use Rattle.access_ops.specs.declared.Op.{Op}
use Rattle.access_ops.specs.declared.OpList.{OpList}
use Rattle.access_ops.specs.declared.op_next.OpNext.{OpNext}
use Rattle.access_ops.specs.declared.op_next.OpNext.TheVariants.{Send, Result, End}
use Rattle.access_ops.specs.declared.op_next.OpResult.{OpResult}
use Rattle.access_ops.specs.declared.op_next.OpResult.TheVariants as results
use Rattle.access_ops.specs.Operations.{Dialogue, sends, tells, done, denials, is_for, first_of, Move, told, dialogue_behind, dialogue_after, next_operation, AreMoves}
use Rattle.access_ops.specs.laws.OperationLaws.{commands_in, results_in, commands_sent, results_told, EndsRun, Serves, Expects}
use Rattle.access_ops.proofs.DialogueLaws.{first-done}
use Rattle.access_ops.proofs.Running.{Runs, ServesFirst, commands-are}
use Rattle.access_ops.proofs.BehindMoves.{IsSplit, split-within, behind-done, running, denying}

-- how many commands and results the first thing of a dialogue is
first-within : (left : ℕ) (rest : List Op) (dialogue : Dialogue) → Runs left rest dialogue → (commands_in (first_of dialogue) ≤ left) × (results_in (first_of dialogue) ≤ length rest)
first-within zero rest (sends command expect extended go_on) runs = absurd runs
first-within (suc left) rest (sends command expect extended go_on) runs = (omega arith, omega arith)
first-within left [] (tells result later) runs = absurd runs
first-within left (op ∷ rest) (tells result later) runs = (omega arith, omega arith)
first-within left rest done runs = (omega arith, omega arith)

denial-within : (rest : List Op) → (commands_in (first_of (denials rest)) ≡ 0) × (results_in (first_of (denials rest)) ≤ length rest)
denial-within [] = (refl, omega arith)
denial-within (op ∷ rest) = (refl, omega arith)

-- four commands for each operation at most, and one for the handle; one result for each at most
within : (list : OpList) (epc : List ℕ) (rn : ℕ) (moves : List Move) (for : Bool) → is_for list.only epc ≡ for → AreMoves list epc rn moves
    → (commands_sent list epc rn moves + commands_in (next_operation list epc rn moves) ≤ 4 * length list.ops + 1)
    × (results_told list epc rn moves + results_in (next_operation list epc rn moves) ≤ length list.ops)
within list epc rn moves true for are =
    elim (running list epc rn moves for are) [
      | inl r ↦ let first = first-within r.left r.rest (dialogue_after list epc rn moves) r.runs in
          (omega (arith, first.0, r.few, commands-are list.ops), omega (arith, first.1, split-within list epc rn moves r.rest r.split))
      | inr o ↦ let next : next_operation list epc rn moves ≡ End = ap first_of o.done_is in
          (omega (arith, o.few, commands-are list.ops, ap commands_in next), omega (arith, o.count, ap results_in next))
    ]
within list epc rn moves false other are =
    let d = denying list epc rn moves other are in
    let next : next_operation list epc rn moves ≡ first_of (denials d.rest) = ap first_of d.denies in
    let first = denial-within d.rest in
    (omega (arith, d.none, first.0, ap commands_in next), omega (arith, first.1, ap results_in next, split-within list epc rn moves d.rest d.split))

pub commands-within : (list : OpList) (epc : List ℕ) (rn : ℕ) (moves : List Move) → AreMoves list epc rn moves
    → commands_sent list epc rn moves + commands_in (next_operation list epc rn moves) ≤ 4 * length list.ops + 1
commands-within list epc rn moves are = (within list epc rn moves (is_for list.only epc) refl are).0

pub results-within : (list : OpList) (epc : List ℕ) (rn : ℕ) (moves : List Move) → AreMoves list epc rn moves
    → results_told list epc rn moves + results_in (next_operation list epc rn moves) ≤ length list.ops
results-within list epc rn moves are = (within list epc rn moves (is_for list.only epc) refl are).1

-- a command serves the first operation that has no result yet, and expects what is its to expect; a result is no denial
SaysWell : OpNext → List Op → Type 0
SaysWell (Send command expect extended) rest = ServesFirst command rest × Expects command expect extended
SaysWell (Result result) rest = result ≢ results.Denied
SaysWell End rest = Unit {0}

says-well : (left : ℕ) (rest : List Op) (dialogue : Dialogue) → Runs left rest dialogue → SaysWell (first_of dialogue) rest
unfolding SaysWell
says-well zero rest (sends command expect extended go_on) runs = absurd runs
says-well (suc left) rest (sends command expect extended go_on) runs = (runs.0, runs.1)
says-well left [] (tells result later) runs = absurd runs
says-well left (op ∷ rest) (tells result later) (inl ended) = λ same. subst EndsRun same ended.0
says-well left (op ∷ rest) (tells result later) (inr goes) = goes.1
says-well left rest done runs = tt

slice_get-behind : (before rest : List Op) (op : Op) (at : ℕ) → length before ≡ at → slice_get (before ++ op ∷ rest) at ≡ Some op
slice_get-behind [] rest op at is = rw (← is) refl
slice_get-behind (one ∷ before) rest op zero is = absurd (omega (arith, is))
slice_get-behind (one ∷ before) rest op (suc at) is = slice_get-behind before rest op at (omega (arith, is))

first-there : (list : OpList) (epc : List ℕ) (rn : ℕ) (moves : List Move) (command : Command) (rest : List Op) → IsSplit list epc rn moves rest → ServesFirst command rest
    → (op : Op) × (slice_get list.ops (results_told list epc rn moves) ≡ Some op) × Serves command op
first-there list epc rn moves command [] s serves = absurd serves
first-there list epc rn moves command (op ∷ rest) s serves =
    (op, ap (λ (os : List Op). slice_get os (results_told list epc rn moves)) s.whole ∙ slice_get-behind s.before rest op (results_told list epc rn moves) s.count, serves)

denies-well : (rest : List Op) (command : Command) (expect : Expect) (extended : Bool) → first_of (denials rest) ≢ Send command expect extended
denies-well [] command expect extended same = cc
denies-well (op ∷ rest) command expect extended same = cc

module _ (list : OpList) (epc : List ℕ) (rn : ℕ) where
  sends-well : (moves : List Move) (for : Bool) (command : Command) (expect : Expect) (extended : Bool) → is_for list.only epc ≡ for
      → AreMoves list epc rn moves → next_operation list epc rn moves ≡ Send command expect extended
      → ((op : Op) × (slice_get list.ops (results_told list epc rn moves) ≡ Some op) × Serves command op) × Expects command expect extended
  unfolding SaysWell
  sends-well moves true command expect extended for are next =
      elim (running list epc rn moves for are) [
        | inl r ↦ let well : SaysWell (Send command expect extended) r.rest = subst (λ (n : OpNext). SaysWell n r.rest) next (says-well r.left r.rest (dialogue_after list epc rn moves) r.runs) in
            (first-there list epc rn moves command r.rest r.split well.0, well.1)
        | inr o ↦ let none : End ≡ Send command expect extended = sym (ap first_of o.done_is) ∙ next in absurd (cc)
      ]
  sends-well moves false command expect extended other are next =
      let d = denying list epc rn moves other are in
      absurd (denies-well d.rest command expect extended (sym (ap first_of d.denies) ∙ next))

pub command-serves : (list : OpList) (epc : List ℕ) (rn : ℕ) (moves : List Move) (command : Command) (expect : Expect) (extended : Bool) → AreMoves list epc rn moves
    → next_operation list epc rn moves ≡ Send command expect extended → (op : Op) × (slice_get list.ops (results_told list epc rn moves) ≡ Some op) × Serves command op
command-serves list epc rn moves command expect extended are next = (sends-well list epc rn moves (is_for list.only epc) command expect extended refl are next).0

pub command-expects : (list : OpList) (epc : List ℕ) (rn : ℕ) (moves : List Move) (command : Command) (expect : Expect) (extended : Bool) → AreMoves list epc rn moves
    → next_operation list epc rn moves ≡ Send command expect extended → Expects command expect extended
command-expects list epc rn moves command expect extended are next = (sends-well list epc rn moves (is_for list.only epc) command expect extended refl are next).1

-- Silent and Broken end the run
ended-run : (left : ℕ) (rest : List Op) (dialogue : Dialogue) (result : OpResult) → Runs left rest dialogue → first_of dialogue ≡ Result result → EndsRun result
    → first_of (dialogue_behind told dialogue) ≡ End
ended-run left rest (sends command expect extended go_on) result runs is ends = absurd (cc)
ended-run left [] (tells own later) result runs is ends = absurd runs
ended-run left (op ∷ rest) (tells own later) result (inl ended) is ends = ap first_of ended.1
ended-run left (op ∷ rest) (tells own later) result (inr goes) is ends =
    let same : own ≡ result = cc in
    absurd (goes.0 (subst EndsRun (sym same) ends))
ended-run left rest done result runs is ends = absurd (cc)

denial-goes_on : (rest : List Op) (result : OpResult) → first_of (denials rest) ≡ Result result → ¬ EndsRun result
denial-goes_on [] result is = absurd (cc)
denial-goes_on (op ∷ rest) result is = let same : results.Denied ≡ result = cc in λ ends. subst EndsRun (sym same) ends

module _ (list : OpList) (epc : List ℕ) (rn : ℕ) where
  last-of-run : (moves : List Move) (for : Bool) (result : OpResult) → is_for list.only epc ≡ for → AreMoves list epc rn moves
      → next_operation list epc rn moves ≡ Result result → EndsRun result → next_operation list epc rn (told ∷ moves) ≡ End
  last-of-run moves true result for are next ends =
      elim (running list epc rn moves for are) [
        | inl r ↦ ended-run r.left r.rest (dialogue_after list epc rn moves) result r.runs next ends
        | inr o ↦ let none : End ≡ Result result = sym (ap first_of o.done_is) ∙ next in absurd (cc)
      ]
  last-of-run moves false result other are next ends =
      let d = denying list epc rn moves other are in
      absurd (denial-goes_on d.rest result (sym (ap first_of d.denies) ∙ next) ends)

pub last-result : (list : OpList) (epc : List ℕ) (rn : ℕ) (moves : List Move) (result : OpResult) → AreMoves list epc rn moves
    → next_operation list epc rn moves ≡ Result result → EndsRun result → next_operation list epc rn (told ∷ moves) ≡ End
last-result list epc rn moves result = last-of-run list epc rn moves (is_for list.only epc) result refl

-- only they end it before each operation has its result
whole-run : (left : ℕ) (rest : List Op) (dialogue : Dialogue) (result : OpResult) → Runs left rest dialogue → first_of dialogue ≡ Result result
    → first_of (dialogue_behind told dialogue) ≡ End → EndsRun result ⊎ (length rest ≡ 1)
whole-run left rest (sends command expect extended go_on) result runs is end = absurd (cc)
whole-run left [] (tells own later) result runs is end = absurd runs
whole-run left (op ∷ rest) (tells own later) result (inl ended) is end = let same : own ≡ result = cc in inl (subst EndsRun same ended.0)
whole-run left (op ∷ []) (tells own later) result (inr goes) is end = inr refl
whole-run left (op ∷ other ∷ rest) (tells own later) result (inr goes) is end =
    absurd (subst (λ (d : Dialogue). Runs left (other ∷ rest) d) (first-done later end) goes.2)
whole-run left rest done result runs is end = absurd (cc)

whole-denial : (rest : List Op) (result : OpResult) → first_of (denials rest) ≡ Result result → first_of (dialogue_behind told (denials rest)) ≡ End → length rest ≡ 1
whole-denial [] result is end = absurd (cc)
whole-denial (op ∷ []) result is end = refl
whole-denial (op ∷ other ∷ rest) result is end = absurd (cc)

module _ (list : OpList) (epc : List ℕ) (rn : ℕ) where
  whole : (moves : List Move) (for : Bool) (result : OpResult) → is_for list.only epc ≡ for → AreMoves list epc rn moves
      → next_operation list epc rn moves ≡ Result result → next_operation list epc rn (told ∷ moves) ≡ End → EndsRun result ⊎ (results_told list epc rn (told ∷ moves) ≡ length list.ops)
  whole moves true result for are next end =
      elim (running list epc rn moves for are) [
        | inl r ↦ elim (whole-run r.left r.rest (dialogue_after list epc rn moves) result r.runs next end) [
          | inl ends ↦ inl ends
          | inr one ↦ inr (omega (arith, one, ap results_in next, split-within list epc rn moves r.rest r.split))
        ]
        | inr o ↦ let none : End ≡ Result result = sym (ap first_of o.done_is) ∙ next in absurd (cc)
      ]
  whole moves false result other are next end =
      let d = denying list epc rn moves other are in
      let one = whole-denial d.rest result (sym (ap first_of d.denies) ∙ next) (sym (ap (λ (x : Dialogue). first_of (dialogue_behind told x)) d.denies) ∙ end) in
      inr (omega (arith, one, ap results_in next, split-within list epc rn moves d.rest d.split))

pub whole-list : (list : OpList) (epc : List ℕ) (rn : ℕ) (moves : List Move) (result : OpResult) → AreMoves list epc rn moves
    → next_operation list epc rn moves ≡ Result result → next_operation list epc rn (told ∷ moves) ≡ End → EndsRun result ⊎ (results_told list epc rn (told ∷ moves) ≡ length list.ops)
whole-list list epc rn moves result = whole list epc rn moves (is_for list.only epc) result refl

-- the end is final
pub end-again : (list : OpList) (epc : List ℕ) (rn : ℕ) (moves : List Move) (move : Move) → next_operation list epc rn moves ≡ End → next_operation list epc rn (move ∷ moves) ≡ End
end-again list epc rn moves move end =
    ap first_of (ap (λ (d : Dialogue). dialogue_behind move d) (first-done (dialogue_after list epc rn moves) end) ∙ behind-done move)

-- a list for another tag has a denial for each operation
denial-is : (rest : List Op) (at count : ℕ) → at + length rest ≡ count → first_of (denials rest) ≡ (if nat_lt at count then Result results.Denied else End)
denial-is [] at count is = let none : nat_lt at count ≡ false = grind (arith, nat_tests) in rw none refl
denial-is (op ∷ rest) at count is = let some : nat_lt at count ≡ true = grind (arith, nat_tests) in rw some refl

pub denied-each : (list : OpList) (epc : List ℕ) (rn : ℕ) (moves : List Move) → is_for list.only epc ≡ false → AreMoves list epc rn moves
    → next_operation list epc rn moves ≡ (if nat_lt (results_told list epc rn moves) (length list.ops) then Result results.Denied else End)
denied-each list epc rn moves other are =
    let d = denying list epc rn moves other are in
    ap first_of d.denies ∙ denial-is d.rest (results_told list epc rn moves) (length list.ops) (split-within list epc rn moves d.rest d.split)

-- ... and a list for this tag has none
pub denied-none : (list : OpList) (epc : List ℕ) (rn : ℕ) (moves : List Move) → is_for list.only epc ≡ true → AreMoves list epc rn moves
    → next_operation list epc rn moves ≢ Result results.Denied
unfolding SaysWell
denied-none list epc rn moves for are = λ next.
    elim (running list epc rn moves for are) [
      | inl r ↦ let well : SaysWell (Result results.Denied) r.rest = subst (λ (n : OpNext). SaysWell n r.rest) next (says-well r.left r.rest (dialogue_after list epc rn moves) r.runs) in
          well refl
      | inr o ↦ let none : End ≡ Result results.Denied = sym (ap first_of o.done_is) ∙ next in absurd (cc)
    ]

-- the EPC of the list is that of the tag
is-own : (epc : List ℕ) (own : Bool) → pointwise nat_eq epc epc ≡ own → pointwise nat_eq epc epc ≡ true
is-own epc true is = is
is-own epc false is = absurd (other_text epc epc (sym is) refl)

pub for-named : (only epc : List ℕ) → (is_for (Some only) epc ≡ true) ↔ (only ≡ epc)
for-named only epc = (
  λ is. same_text only epc (sym is),
  λ same. subst (λ (e : List ℕ). is_for (Some only) e ≡ true) same (is-own only (pointwise nat_eq only only) refl),
)
