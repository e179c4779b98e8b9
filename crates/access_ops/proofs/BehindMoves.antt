-- What holds behind each of the moves.
use Rattle.std.proofs.Common.{◌≡◌, ℕ, zero, suc, ◌+◌, ◌≤◌, ◌⊎◌, inl, inr, true, false, List, [], ◌∷◌, ◌++◌, length, refl, sym, ◌∙◌, ap, subst, arith, length-append, append_assoc}
use Rattle.access_ops.specs.declared.Op.{Op}
use Rattle.access_ops.specs.declared.OpList.{OpList}
use Rattle.access_ops.specs.declared.op_next.OpNext.{OpNext}
use Rattle.access_ops.specs.declared.op_next.OpNext.TheVariants.{Send, Result, End}
use Rattle.access_ops.specs.declared.op_next.OpResult.TheVariants as results
use Rattle.access_ops.specs.Operations.{Dialogue, sends, tells, done, denials, operations_from_rn16, is_for, dialogue_of, first_of, Move, answered, told, reception_in, dialogue_behind, dialogue_after, next_operation, IsMoveFor, AreMoves}
use Rattle.access_ops.specs.laws.OperationLaws.{commands_in, results_in, commands_sent, results_told}
use Rattle.access_ops.proofs.Running.{Runs, commands_of, operations_from_rn16-runs}

-- the operations of the list up to one have their results
pub record IsSplit (list : OpList) (epc : List ℕ) (rn : ℕ) (moves : List Move) (rest : List Op) : Type 0 where
  pub before : List Op
  pub whole : list.ops ≡ before ++ rest
  pub count : length before ≡ results_told list epc rn moves

-- ... and the others are done
pub record IsRunning (list : OpList) (epc : List ℕ) (rn : ℕ) (moves : List Move) : Type 0 where
  pub rest : List Op
  pub split : IsSplit list epc rn moves rest
  pub left : ℕ
  pub few : left + commands_sent list epc rn moves ≡ suc (commands_of list.ops)
  pub runs : Runs left rest (dialogue_after list epc rn moves)

-- ... or nothing follows
pub record IsOver (list : OpList) (epc : List ℕ) (rn : ℕ) (moves : List Move) : Type 0 where
  pub done_is : dialogue_after list epc rn moves ≡ done
  pub few : commands_sent list epc rn moves ≤ suc (commands_of list.ops)
  pub count : results_told list epc rn moves ≤ length list.ops

split-same : (list : OpList) (epc : List ℕ) (rn : ℕ) (moves : List Move) (move : Move) (rest : List Op) → IsSplit list epc rn moves rest → results_in (next_operation list epc rn moves) ≡ 0
    → IsSplit list epc rn (move ∷ moves) rest
split-same list epc rn moves move rest s none = record { before = s.before; whole = s.whole; count = omega (arith, s.count, none) }

split-more : (list : OpList) (epc : List ℕ) (rn : ℕ) (moves : List Move) (move : Move) (op : Op) (rest : List Op) → IsSplit list epc rn moves (op ∷ rest) → results_in (next_operation list epc rn moves) ≡ 1
    → IsSplit list epc rn (move ∷ moves) rest
split-more list epc rn moves move op rest s one = record {
  before = s.before ++ op ∷ [];
  whole = s.whole ∙ sym (append_assoc s.before (op ∷ []) rest);
  count = omega (arith, length-append s.before (op ∷ []), s.count, one);
}

pub split-within : (list : OpList) (epc : List ℕ) (rn : ℕ) (moves : List Move) (rest : List Op) → IsSplit list epc rn moves rest → results_told list epc rn moves + length rest ≡ length list.ops
split-within list epc rn moves rest s = omega (arith, ap (λ (os : List Op). length os) s.whole, length-append s.before rest, s.count)

-- one move
module _ (list : OpList) (epc : List ℕ) (rn : ℕ) (moves : List Move) where
  running-more : (move : Move) (left : ℕ) (rest : List Op) (dialogue : Dialogue) → dialogue_after list epc rn moves ≡ dialogue
      → Runs left rest dialogue → IsMoveFor (first_of dialogue) move → IsSplit list epc rn moves rest → left + commands_sent list epc rn moves ≡ suc (commands_of list.ops)
      → IsRunning list epc rn (move ∷ moves) ⊎ IsOver list epc rn (move ∷ moves)
  running-more move zero rest (sends command expect extended go_on) is runs follows split few = absurd runs
  running-more (answered answer) (suc left) rest (sends command expect extended go_on) is runs follows split few =
      let next : next_operation list epc rn moves ≡ Send command expect extended = ap first_of is in
      inl (record {
        rest = rest;
        split = split-same list epc rn moves (answered answer) rest split (ap results_in next);
        left = left;
        few = omega (arith, few, ap commands_in next);
        runs = subst (λ (d : Dialogue). Runs left rest (dialogue_behind (answered answer) d)) (sym is) (runs.2 (reception_in answer));
      })
  running-more told (suc left) rest (sends command expect extended go_on) is runs follows split few = absurd follows
  running-more (answered answer) left rest (tells result later) is runs follows split few = absurd follows
  running-more told left [] (tells result later) is runs follows split few = absurd runs
  running-more told left (op ∷ rest) (tells result later) is (inl ended) follows split few =
      let next : next_operation list epc rn moves ≡ Result result = ap first_of is in
      inr (record {
        done_is = ap (λ (d : Dialogue). dialogue_behind told d) is ∙ ended.1;
        few = omega (arith, few, ap commands_in next);
        count = omega (arith, split-within list epc rn moves (op ∷ rest) split, ap results_in next);
      })
  running-more told left (op ∷ rest) (tells result later) is (inr goes) follows split few =
      let next : next_operation list epc rn moves ≡ Result result = ap first_of is in
      inl (record {
        rest = rest;
        split = split-more list epc rn moves told op rest split (ap results_in next);
        left = left;
        few = omega (arith, few, ap commands_in next);
        runs = subst (λ (d : Dialogue). Runs left rest (dialogue_behind told d)) (sym is) goes.2;
      })
  running-more (answered answer) left rest done is runs follows split few = absurd follows
  running-more told left [] done is runs follows split few =
      let next : next_operation list epc rn moves ≡ End = ap first_of is in
      inl (record {
        rest = [];
        split = split-same list epc rn moves told [] split (ap results_in next);
        left = left;
        few = omega (arith, few, ap commands_in next);
        runs = subst (λ (d : Dialogue). Runs left [] (dialogue_behind told d)) (sym is) tt;
      })
  running-more told left (op ∷ rest) done is runs follows split few = absurd runs

pub behind-done : (move : Move) → dialogue_behind move done ≡ done
behind-done (answered answer) = refl
behind-done told = refl

over-more : (list : OpList) (epc : List ℕ) (rn : ℕ) (moves : List Move) (move : Move) → IsOver list epc rn moves → IsOver list epc rn (move ∷ moves)
over-more list epc rn moves move o =
    let next : next_operation list epc rn moves ≡ End = ap first_of o.done_is in
    record {
      done_is = ap (λ (d : Dialogue). dialogue_behind move d) o.done_is ∙ behind-done move;
      few = omega (arith, o.few, ap commands_in next);
      count = omega (arith, o.count, ap results_in next);
    }

pub operations_from_rn16-is : (list : OpList) (epc : List ℕ) (rn : ℕ) → is_for list.only epc ≡ true → dialogue_of list epc rn ≡ operations_from_rn16 list.ops rn
operations_from_rn16-is list epc rn for = rw for refl

pub denials-are : (list : OpList) (epc : List ℕ) (rn : ℕ) → is_for list.only epc ≡ false → dialogue_of list epc rn ≡ denials list.ops
denials-are list epc rn other = rw other refl

-- where the list is for the tag
pub running : (list : OpList) (epc : List ℕ) (rn : ℕ) (moves : List Move) → is_for list.only epc ≡ true → AreMoves list epc rn moves
    → IsRunning list epc rn moves ⊎ IsOver list epc rn moves
running list epc rn [] for are = inl (record {
  rest = list.ops;
  split = record { before = []; whole = refl; count = refl };
  left = suc (commands_of list.ops);
  few = omega arith;
  runs = subst (λ (d : Dialogue). Runs (suc (commands_of list.ops)) list.ops d) (sym (operations_from_rn16-is list epc rn for)) (operations_from_rn16-runs list.ops rn);
})
running list epc rn (move ∷ moves) for are =
    elim (running list epc rn moves for are.1) [
      | inl r ↦ running-more list epc rn moves move r.left r.rest (dialogue_after list epc rn moves) refl r.runs are.0 r.split r.few
      | inr o ↦ inr (over-more list epc rn moves move o)
    ]

-- ... and where it is for another one
pub record IsDenying (list : OpList) (epc : List ℕ) (rn : ℕ) (moves : List Move) : Type 0 where
  pub rest : List Op
  pub split : IsSplit list epc rn moves rest
  pub denies : dialogue_after list epc rn moves ≡ denials rest
  pub none : commands_sent list epc rn moves ≡ 0

module _ (list : OpList) (epc : List ℕ) (rn : ℕ) (moves : List Move) where
  denying-more : (move : Move) (rest : List Op) → dialogue_after list epc rn moves ≡ denials rest
      → IsMoveFor (first_of (denials rest)) move → IsSplit list epc rn moves rest → commands_sent list epc rn moves ≡ 0 → IsDenying list epc rn (move ∷ moves)
  denying-more (answered answer) [] is follows split none = absurd follows
  denying-more told [] is follows split none =
      let next : next_operation list epc rn moves ≡ End = ap first_of is in
      record {
        rest = [];
        split = split-same list epc rn moves told [] split (ap results_in next);
        denies = ap (λ (d : Dialogue). dialogue_behind told d) is;
        none = omega (arith, none, ap commands_in next);
      }
  denying-more (answered answer) (op ∷ rest) is follows split none = absurd follows
  denying-more told (op ∷ rest) is follows split none =
      let next : next_operation list epc rn moves ≡ Result results.Denied = ap first_of is in
      record {
        rest = rest;
        split = split-more list epc rn moves told op rest split (ap results_in next);
        denies = ap (λ (d : Dialogue). dialogue_behind told d) is;
        none = omega (arith, none, ap commands_in next);
      }

pub denying : (list : OpList) (epc : List ℕ) (rn : ℕ) (moves : List Move) → is_for list.only epc ≡ false → AreMoves list epc rn moves → IsDenying list epc rn moves
denying list epc rn [] other are = record {
  rest = list.ops;
  split = record { before = []; whole = refl; count = refl };
  denies = denials-are list epc rn other;
  none = refl;
}
denying list epc rn (move ∷ moves) other are =
    let d = denying list epc rn moves other are.1 in
    denying-more list epc rn moves move d.rest d.denies (subst (λ (n : OpNext). IsMoveFor n move) (ap first_of d.denies) are.0) d.split d.none
