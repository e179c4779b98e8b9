-- The moves of a dialogue with a tag, one after another.
use Rattle.air_world.proofs.Names.{◌≡◌, ℕ, ◌+◌, ◌≤◌, ◌*◌, ◌-◌, List, ◌∷◌, length, Bool, Option, Some, None, refl, sym, ◌∙◌, ap, subst, arith, [], OpRunValue}
use Rattle.air_world.proofs.Names.{OpRunStandsFor, IsNextOperation, last_answer, turns_in, turns_left, Dialogue, sends, done, dialogue_of, Move, answered, told, reception_in, dialogue_behind}
use Rattle.air_world.proofs.Names.{dialogue_after, IsAnswerFor, OpList, Expects, AirValue, Item, operated, past_behind_command, exchanges_in, Begun, RunValue, StandsAt, Command, Reception, Expect}
use Rattle.air_world.proofs.Names.{ReportLine, SlotOfRun, operation_reception, past_behind_dialogue}
use Rattle.access_ops.proofs.DialogueLaws.{AwaitsReplies, SendsAtMost, dialogues-await, dialogues-are-few, first-sends, first-tells, first-done}
use Rattle.access_ops.specs.declared.op_next.Answer.{Answer}
use Rattle.access_ops.specs.declared.op_next.OpNext.{OpNext}
use Rattle.access_ops.specs.declared.op_next.OpNext.TheVariants as nexts
use Rattle.access_ops.specs.declared.op_next.OpResult.{OpResult}

-- the operations of a round with a tag that sent this EPC, and this RN16 before it, in a slot, and what was past before them
pub record TagOperations : Type 0 where
  pub at : SlotOfRun
  pub list : OpList
  pub epc : List ℕ
  pub rn : ℕ
  pub before : List Item

-- what is left of their dialogue behind these moves
abbrev pub left_behind : TagOperations → List Move → Dialogue
left_behind of moves = dialogue_after of.list of.epc of.rn moves

-- what is past behind what is left of it, whose next result has this number
abbrev pub past_behind_left : TagOperations → ℕ → Dialogue → List Item → List Item
past_behind_left of index left past = past_behind_dialogue of.at.start of.at.round of.at.slot index left past

-- what is past behind all of it
abbrev pub past_behind_operations : TagOperations → List Item
past_behind_operations of = past_behind_left of 1 (dialogue_of of.list of.epc of.rn) of.before

-- how far they have come: where the list stands, what the last command brought, and the number of the next result
pub record OperationsSoFar : Type 0 where
  pub run : OpRunValue
  pub answer : Option Answer
  pub index : ℕ

-- between two moves of the dialogue, behind this past: the moves so far, and how many commands are left
pub record AreInDialogue (of : TagOperations) (here : OperationsSoFar) (past : List Item) : Type 0 where
  pub moves : List Move
  pub left : ℕ
  pub goes : OpRunStandsFor here.run of.list of.epc of.rn moves
  pub last : here.answer ≡ last_answer moves
  pub awaits : AwaitsReplies (left_behind of moves)
  pub sends_few : SendsAtMost left (left_behind of moves)
  pub few : exchanges_in past + left ≤ exchanges_in of.before + 129
  pub rest : past_behind_left of here.index (left_behind of moves) past ≡ past_behind_operations of
  pub turns : here.index + turns_left of.list here.run ≤ 163

-- ... with the air and the run
pub record OperationsUnderway {A : Type 0} (hears : A → List ReportLine → A → Type 0) (begun : Begun A) (of : TagOperations) (here : OperationsSoFar)
    (air : AirValue) (run : RunValue) (report : A) : Type 0 where
  pub past : List Item
  pub stands : StandsAt hears begun past air run report
  pub are : AreInDialogue of here past

-- a dialogue begins
pub operations-begin : (of : TagOperations) (run : OpRunValue) → length of.list.ops ≤ 32 → OpRunStandsFor run of.list of.epc of.rn []
    → turns_left of.list run ≤ 5 * length of.list.ops + 2 → AreInDialogue of (record { run = run; answer = None; index = 1 }) of.before
operations-begin of run few goes turns = record {
  moves = [];
  left = 4 * length of.list.ops + 1;
  goes = goes;
  last = refl;
  awaits = dialogues-await of.list of.epc of.rn;
  sends_few = dialogues-are-few of.list of.epc of.rn;
  few = omega (arith, few);
  rest = refl;
  turns = omega (arith, few, turns);
}

-- what a run of the operations does next, and what becomes of it
pub record MovesOn (of : TagOperations) (here : OperationsSoFar) (past : List Item) (u : AreInDialogue of here past) (next : OpNext) (after : OpRunValue) : Type 0 where
  pub answers : IsNextOperation next after of.list of.epc of.rn u.moves
  pub fewer : turns_left of.list after + turns_in next ≤ turns_left of.list here.run

-- a command that a dialogue sends, and what is awaited in reply
pub record Asked : Type 0 where
  pub command : Command
  pub expect : Expect
  pub extended : Bool

-- what is left of a dialogue begins with such a command, which expects a reply of its kind, and is one of those that are left
pub record SendsNext (of : TagOperations) (here : OperationsSoFar) (past : List Item) (u : AreInDialogue of here past) (asked : Asked) : Type 0 where
  pub go_on : Reception → Dialogue
  pub is : left_behind of u.moves ≡ sends asked.command asked.expect asked.extended go_on
  pub expects : Expects asked.command asked.expect asked.extended
  pub one : 1 ≤ u.left

pub sends-next : {of : TagOperations} {here : OperationsSoFar} {past : List Item} {u : AreInDialogue of here past} {next : OpNext} {after : OpRunValue} (asked : Asked)
    → MovesOn of here past u next after → next ≡ nexts.Send asked.command asked.expect asked.extended → SendsNext of here past u asked
sends-next {of} {u} {after} asked on is =
    let answers = subst (λ (n : OpNext). IsNextOperation n after of.list of.epc of.rn u.moves) is on.answers in
    let found = first-sends (left_behind of u.moves) asked.command asked.expect asked.extended (sym answers.next) in
    record { go_on = found.0; is = found.1; expects = (subst AwaitsReplies found.1 u.awaits).0; one = (subst (SendsAtMost u.left) found.1 u.sends_few).0 }

-- the answer to a command of a dialogue, in which what was past then has its say
pub record IsAnswered (of : TagOperations) (asked : Asked) (past : List Item) : Type 0 where
  pub answer : Answer
  pub expected : IsAnswerFor asked.expect answer
  pub heard : reception_in answer ≡ operation_reception of.at.start of.at.round of.at.slot asked.command asked.expect asked.extended past

-- a command was answered
pub operations-sent : {of : TagOperations} {here : OperationsSoFar} {past : List Item} {u : AreInDialogue of here past} {next : OpNext} {after : OpRunValue}
    (asked : Asked) (by : IsAnswered of asked past) → MovesOn of here past u next after → next ≡ nexts.Send asked.command asked.expect asked.extended
    → AreInDialogue of (record { run = after; answer = Some by.answer; index = here.index }) (past_behind_command of.at.start of.at.round of.at.slot asked.command past)
operations-sent {of} {here} {past} {u} {after} asked by on is =
    let sent = sends-next asked on is in
    let answers = subst (λ (n : OpNext). IsNextOperation n after of.list of.epc of.rn u.moves) is on.answers in
    let behind : left_behind of (answered by.answer ∷ u.moves) ≡ sent.go_on (reception_in by.answer) = ap (λ (d : Dialogue). dialogue_behind (answered by.answer) d) sent.is in
    let few = subst (SendsAtMost u.left) sent.is u.sends_few in
    record {
      moves = answered by.answer ∷ u.moves;
      left = u.left - 1;
      goes = answers.stands (answered by.answer) by.expected;
      last = refl;
      awaits = subst AwaitsReplies (sym behind) ((subst AwaitsReplies sent.is u.awaits).1 (reception_in by.answer));
      sends_few = subst (SendsAtMost (u.left - 1)) (sym behind) (few.1 (reception_in by.answer));
      few = omega (arith, u.few, few.0);
      rest = ap (λ (d : Dialogue). past_behind_left of here.index d (past_behind_command of.at.start of.at.round of.at.slot asked.command past))
          (behind ∙ ap (λ (r : Reception). sent.go_on r) by.heard)
          ∙ sym (ap (λ (d : Dialogue). past_behind_left of here.index d past) sent.is) ∙ u.rest;
      turns = omega (arith, u.turns, on.fewer, ap turns_in is);
    }

-- a result was told
pub operations-told : {of : TagOperations} {here : OperationsSoFar} {past : List Item} {u : AreInDialogue of here past} {next : OpNext} {after : OpRunValue} (result : OpResult)
    → MovesOn of here past u next after → next ≡ nexts.Result result
    → AreInDialogue of (record { run = after; answer = None; index = here.index + 1 }) (operated of.at.round of.at.slot here.index result ∷ past)
operations-told {of} {here} {past} {u} {after} result on is =
    let answers = subst (λ (n : OpNext). IsNextOperation n after of.list of.epc of.rn u.moves) is on.answers in
    let found = first-tells (left_behind of u.moves) result (sym answers.next) in
    let behind : left_behind of (told ∷ u.moves) ≡ found.0 = ap (λ (d : Dialogue). dialogue_behind told d) found.1 in
    record {
      moves = told ∷ u.moves;
      left = u.left;
      goes = answers.stands told tt;
      last = refl;
      awaits = subst AwaitsReplies (sym behind) (subst AwaitsReplies found.1 u.awaits);
      sends_few = subst (SendsAtMost u.left) (sym behind) (subst (SendsAtMost u.left) found.1 u.sends_few);
      few = u.few;
      rest = ap (λ (d : Dialogue). past_behind_left of (here.index + 1) d (operated of.at.round of.at.slot here.index result ∷ past)) behind
          ∙ sym (ap (λ (d : Dialogue). past_behind_left of here.index d past) found.1) ∙ u.rest;
      turns = omega (arith, u.turns, on.fewer, ap turns_in is);
    }

-- all is done
pub operations-end : {of : TagOperations} {here : OperationsSoFar} {past : List Item} {u : AreInDialogue of here past} {next : OpNext} {after : OpRunValue}
    → MovesOn of here past u next after → next ≡ nexts.End → past_behind_operations of ≡ past
operations-end {of} {here} {past} {u} {after} on is =
    let answers = subst (λ (n : OpNext). IsNextOperation n after of.list of.epc of.rn u.moves) is on.answers in
    let over : left_behind of u.moves ≡ done = first-done (left_behind of u.moves) (sym answers.next) in
    sym u.rest ∙ ap (λ (d : Dialogue). past_behind_left of here.index d past) over
