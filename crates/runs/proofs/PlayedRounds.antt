-- A round of a run as it is played, and a slot of a run: what the laws of rounds speak of.
use Rattle.runs.proofs.Names.{◌≡◌, ℕ, ◌+◌, List, OpList, Start, Item, rounds_in, SpecValue, AreOutcomes, next_command, Outcome, Next, past_behind_round}

-- a slot of a run: the start of the run, the number of the round, and that of the slot in the round
pub record SlotOfRun : Type 0 where
  pub start : Start
  pub round : ℕ
  pub slot : ℕ

-- a round that a run plays: the start of the run, the operations and the parameters of the round, and what was past when it began
pub record PlayedRound : Type 0 where
  pub start : Start
  pub operations : OpList
  pub spec : SpecValue
  pub before : List Item

-- its number among the rounds of the run
abbrev pub number_of : PlayedRound → ℕ
number_of round = rounds_in round.before + 1

-- one of its slots
abbrev pub slot_in : PlayedRound → ℕ → SlotOfRun
slot_in round slot = record { start = round.start; round = number_of round; slot = slot }

-- what is past behind it
abbrev pub past_behind_played : PlayedRound → List Item
past_behind_played round = past_behind_round round.start round.operations round.spec round.before

-- the round came to these outcomes, the latest first, and does this next
pub record DoesNext (round : PlayedRound) (outcomes : List Outcome) (next : Next) : Type 0 where
  pub are : AreOutcomes round.spec outcomes
  pub is : next_command round.spec round.start.link outcomes ≡ next
