-- How many slot commands a round gives, and which commands they are.
use Rattle.std.proofs.Common.{◌≡◌, ◌+◌, true, false, List, [], ◌∷◌, length, refl, arith}
use Rattle.pie_line.specs.Link.{LinkValue}
use Rattle.q_round.specs.declared.frame.Outcome.{Outcome}
use Rattle.q_round.specs.laws.RoundLaws.{IsEnd, SendsSlotCommand}
use Rattle.q_round.specs.Rounds.{Turn, query, adjust, rep, quiet, limit, is_last_turn, turn_of, is_over, AreOutcomes, slots_of, next_of_turn, next_command}
use Rattle.q_round.specs.SpecValue.{SpecValue}

-- where the round goes on, it gave one command more than it was given outcomes
pub slots-underway : (spec : SpecValue) (outcomes : List Outcome) → AreOutcomes spec outcomes → is_over spec outcomes ≡ false → slots_of spec outcomes ≡ length outcomes + 1
slots-underway spec [] are on = refl
slots-underway spec (outcome ∷ before) are on = rw (on, slots-underway spec before are.1 are.0) (omega arith)

-- where it is over, each command had its outcome
pub slots-over : (spec : SpecValue) (outcomes : List Outcome) → AreOutcomes spec outcomes → is_over spec outcomes ≡ true → slots_of spec outcomes ≡ length outcomes
slots-over spec [] are over = absurd (cc)
slots-over spec (outcome ∷ before) are over = rw (over, slots-underway spec before are.1 are.0) (omega arith)

answer-slot : (spec : SpecValue) (link : LinkValue) (turn : Turn) → is_last_turn turn ≡ false → SendsSlotCommand spec.session (next_of_turn spec link turn)
answer-slot spec link query on = refl
answer-slot spec link (adjust updn) on = refl
answer-slot spec link rep on = refl
answer-slot spec link quiet on = absurd (cc)
answer-slot spec link limit on = absurd (cc)

-- a round that goes on gives a slot command of its session
pub next-underway : (spec : SpecValue) (link : LinkValue) (outcomes : List Outcome) → is_over spec outcomes ≡ false → SendsSlotCommand spec.session (next_command spec link outcomes)
next-underway spec link outcomes on = answer-slot spec link (turn_of spec outcomes) on

answer-end : (spec : SpecValue) (link : LinkValue) (turn : Turn) → is_last_turn turn ≡ true → IsEnd (next_of_turn spec link turn)
answer-end spec link query over = absurd (cc)
answer-end spec link (adjust updn) over = absurd (cc)
answer-end spec link rep over = absurd (cc)
answer-end spec link quiet over = tt
answer-end spec link limit over = tt

-- one that is over gives one of the two ends
pub next-over : (spec : SpecValue) (link : LinkValue) (outcomes : List Outcome) → is_over spec outcomes ≡ true → IsEnd (next_command spec link outcomes)
next-over spec link outcomes over = answer-end spec link (turn_of spec outcomes) over
