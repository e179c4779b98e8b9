-- How many exchanges a run has: one for a Select or NAK, and for each slot of a round at most the slot command, an ACK, one command
-- for the handle and four for each operation.
use Rattle.runs.proofs.Names.{◌≡◌, ℕ, ◌+◌, ◌-◌, ◌*◌, ◌≤◌, List, [], ◌∷◌, length, arith, mul-add, mul-one, mul-le-mul, mul-le-mul_left, SendsAtMost, dialogues-are-few, Dialogue, dialogue_of, OpList}
use Rattle.runs.proofs.Names.{Start, Item, past_behind_command, exchanges_in, rounds_in, AreLegalSteps, most_operating, most_exchanges, past_behind_dialogue, ack_reception, past_behind_ack}
use Rattle.runs.proofs.Names.{slot_reception, past_behind_slot, past_behind_round, past_behind_step, past_behind, Command, SpecValue, IsLegalSpec, Step}
use Rattle.command_grammar.specs.declared.commands.Command.TheVariants as commands
use Rattle.scenario.specs.declared.values.Step.TheVariants as steps
use Rattle.runs.proofs.Growth.{RoundsKeepLimit, dialogue-holds, listing-holds, answer-holds, round-holds, few-outcomes}
use Rattle.runs.proofs.PlayedRounds.{SlotOfRun}

-- what is left of a dialogue, with so many commands at most, adds no more exchanges than those
record FewLeft (most : ℕ) (dialogue : Dialogue) (past : List Item) : Type 0 where
  pub left : ℕ
  pub sends_few : SendsAtMost left dialogue
  pub within : exchanges_in past + left ≤ most

pub dialogue-exchanges : (at : SlotOfRun) (index most : ℕ) (dialogue : Dialogue) (past : List Item) → SendsAtMost most dialogue
    → exchanges_in (past_behind_dialogue at.start at.round at.slot index dialogue past) ≤ exchanges_in past + most
dialogue-exchanges at index most dialogue past few =
    dialogue-holds (λ index left now. FewLeft (exchanges_in past + most) left now) (λ now. exchanges_in now ≤ exchanges_in past + most) at
    (record {
      command = λ index command expect extended go_on now here.
          record { left = here.left - 1; sends_few = here.sends_few.1 _; within = omega (arith, here.within, here.sends_few.0) };
      result = λ index result later now here. record { left = here.left; sends_few = here.sends_few; within = here.within };
      end = λ index now here. omega (arith, here.within);
    })
    index dialogue past (record { left = most; sends_few = few; within = omega arith })

-- an ACK, and the operations
pub ack-exchanges : (start : Start) (operations : OpList) (round slot rn : ℕ) (past : List Item)
    → exchanges_in (past_behind_ack start operations round slot rn past) ≤ exchanges_in past + (1 + most_operating operations)
ack-exchanges start operations round slot rn past =
    let at : SlotOfRun = record { start = start; round = round; slot = slot } in
    let sent = past_behind_command start round slot (commands.Ack rn) past in
    listing-holds (λ now. exchanges_in now ≤ exchanges_in past + (1 + most_operating operations)) at operations rn
    (ack_reception start round slot rn past) sent (omega arith)
    (λ pc epc is.
    let few : exchanges_in (past_behind_dialogue start round slot 1 (dialogue_of operations epc rn) sent) ≤ exchanges_in past + 1 + most_operating operations =
    dialogue-exchanges at 1 (most_operating operations) (dialogue_of operations epc rn) sent (dialogues-are-few operations epc rn) in
    omega (arith, few))

-- a slot command, and an ACK with the operations or none
pub slot-exchanges : (start : Start) (operations : OpList) (round slot : ℕ) (command : Command) (past : List Item)
    → exchanges_in (past_behind_slot start operations round slot command past) ≤ exchanges_in past + (2 + most_operating operations)
slot-exchanges start operations round slot command past =
    let sent = past_behind_command start round slot command past in
    answer-holds (λ now. exchanges_in now ≤ exchanges_in past + (2 + most_operating operations)) (record { start = start; round = round; slot = slot }) operations
    (slot_reception start round slot command past) sent (omega arith)
    (λ rn is.
    let few : exchanges_in (past_behind_ack start operations round slot rn sent) ≤ exchanges_in past + 1 + (1 + most_operating operations) =
    ack-exchanges start operations round slot rn sent in
    omega (arith, few))

pub round-exchanges : RoundsKeepLimit → (start : Start) (operations : OpList) (spec : SpecValue) (past : List Item) → IsLegalSpec spec
    → exchanges_in (past_behind_round start operations spec past) ≤ exchanges_in past + (2 + most_operating operations) * spec.limit
round-exchanges keeps start operations spec past legal =
    let each : ℕ = 2 + most_operating operations in
    round-holds (λ outcomes now. exchanges_in now ≤ exchanges_in past + each * length outcomes) (λ now. exchanges_in now ≤ exchanges_in past + each * spec.limit)
    (record { start = start; operations = operations; spec = spec; before = past }) keeps legal
    (record {
      slot = λ outcomes now command next holds.
          let more : exchanges_in (past_behind_slot start operations (rounds_in past + 1) (length outcomes + 1) command now) ≤ exchanges_in now + each =
          slot-exchanges start operations (rounds_in past + 1) (length outcomes + 1) command now in
          let one_more : each * (length outcomes + 1) ≡ each * length outcomes + each * 1 = mul-add each (length outcomes) 1 in
          omega (arith, more, one_more, holds, mul-one each);
      end = λ outcomes now end next holds.
          let few : each * length outcomes ≤ each * spec.limit = mul-le-mul_left each (few-outcomes keeps spec outcomes legal next.are) in
          omega (arith, few, holds);
    })
    (omega arith)

-- the steps' exchanges are added to those of the past
pub steps-exchanges : RoundsKeepLimit → (start : Start) (steps : List Step) (past : List Item) → AreLegalSteps steps
    → exchanges_in (past_behind start steps past) ≤ exchanges_in past + most_exchanges steps
steps-exchanges keeps start [] past legal = omega arith
steps-exchanges keeps start (steps.Round spec operations ∷ later) past legal =
    let behind = past_behind_round start operations spec past in
    let round : exchanges_in behind ≤ exchanges_in past + (2 + most_operating operations) * spec.limit = round-exchanges keeps start operations spec past legal.0.legal in
    let more : exchanges_in (past_behind start later behind) ≤ exchanges_in behind + most_exchanges later = steps-exchanges keeps start later behind legal.1 in
    omega arith
steps-exchanges keeps start (step ∷ later) past legal =
    let behind = past_behind_step start step past in
    let more : exchanges_in (past_behind start later behind) ≤ exchanges_in behind + most_exchanges later = steps-exchanges keeps start later behind legal.1 in
    omega arith

-- a step has at most 9,170,000 exchanges: 70,000 slots of 131
pub few-exchanges : (steps : List Step) → AreLegalSteps steps → most_exchanges steps ≤ 9170000 * length steps
few-exchanges [] legal = omega arith
few-exchanges (steps.Round spec operations ∷ later) legal =
    let each : 2 + most_operating operations ≤ 131 = omega (arith, legal.0.few) in
    let round : (2 + most_operating operations) * spec.limit ≤ 131 * 70000 = mul-le-mul each legal.0.legal.limit.1 in
    let few = few-exchanges later legal.1 in
    omega (arith, round, few)
few-exchanges (step ∷ later) legal = let few = few-exchanges later legal.1 in omega arith
