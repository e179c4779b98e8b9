-- The slots of a round, one after another.
use Rattle.air_world.proofs.Names.{◌≡◌, ℕ, suc, ◌+◌, ◌-◌, ◌*◌, ◌≤◌, false, Option, Some, List, ◌∷◌, length, refl, sym, ◌∙◌, ap, subst, arith, [], OpList, AirValue, Start, Item, ended}
use Rattle.air_world.proofs.Names.{past_behind_command, exchanges_in, rounds_in, Begun, RunValue, StandsAt, most_in_slot, Command, LinkValue, AreOutcomes, Turn, next_of_turn, is_over, slots_of}
use Rattle.air_world.proofs.Names.{next_command, turn_of, SpecValue, RoundEnd, ReportLine, Grows, answer-keeps, turns-grow, slot-exchanges, PlayedRound, past_behind_played, most_operating, outcome_of}
use Rattle.air_world.proofs.Names.{slot_reception, past_behind_slot, past_behind_turn, past_behind_turns, expectation_of}
use Rattle.command_grammar.specs.declared.commands.Command.TheVariants as commands
use Rattle.reply_grammar.specs.declared.expected.Expect.TheVariants as expects
use Rattle.q_round.proofs.SlotLaws.{slots-underway}
use Rattle.q_round.specs.Rounds as turns
use Rattle.q_round.specs.NextAnswer.{next_of}
use Rattle.q_round.specs.RoundValue.{RoundValue, RoundStandsFor, IsNextAnswer}
use Rattle.q_round.specs.declared.frame.Outcome.{Outcome}
use Rattle.q_round.specs.declared.round.Next.{Next}
use Rattle.q_round.specs.declared.round.Next.TheVariants as nexts
use Rattle.q_round.specs.declared.round.RoundEnd.TheVariants as ends

-- how far a round has come that is played: its number, the slots that were sent, and the slot command that comes next
pub record RoundSoFar : Type 0 where
  pub number : ℕ
  pub round : RoundValue
  pub command : Command

-- between two slots of the round, behind this past: the outcomes so far, and the turns that are left
pub record IsInRound (played : PlayedRound) (here : RoundSoFar) (past : List Item) : Type 0 where
  pub outcomes : List Outcome
  pub left : ℕ
  pub goes : RoundStandsFor here.round played.spec outcomes
  pub on : is_over played.spec outcomes ≡ false
  pub sends : next_command played.spec played.start.link outcomes ≡ nexts.Send here.command
  pub slots : suc left + length outcomes ≡ played.spec.limit
  pub rest : past_behind_turns (suc (suc left)) played.start played.operations here.number played.spec outcomes past ≡ past_behind_played played
  pub few : exchanges_in past + most_in_slot * suc left ≤ exchanges_in played.before + most_in_slot * played.spec.limit
  pub rounds : here.number ≡ rounds_in past + 1

-- ... with the air and the run
pub record RoundUnderway {A : Type 0} (hears : A → List ReportLine → A → Type 0) (begun : Begun A) (played : PlayedRound) (here : RoundSoFar)
    (air : AirValue) (run : RunValue) (report : A) : Type 0 where
  pub past : List Item
  pub stands : StandsAt hears begun past air run report
  pub is : IsInRound played here past

-- a round begins
pub round-begins : (played : PlayedRound) (here : RoundSoFar) → 1 ≤ played.spec.limit → here.number ≡ rounds_in played.before + 1 → RoundStandsFor here.round played.spec []
    → next_command played.spec played.start.link [] ≡ nexts.Send here.command → IsInRound played here played.before
round-begins played here some is goes sends =
    let start = played.start in
    let spec = played.spec in
    let left : ℕ = spec.limit - 1 in
    let whole : suc left ≡ spec.limit = omega (arith, some) in
    record {
      outcomes = [];
      left = left;
      goes = goes;
      on = refl;
      sends = sends;
      slots = omega (arith, whole);
      rest = ap (λ n. past_behind_turns (suc n) start played.operations here.number spec [] played.before) whole
          ∙ ap (λ n. past_behind_turns (suc spec.limit) start played.operations n spec [] played.before) is;
      few = omega (arith, whole);
      rounds = is;
    }

-- the slot that comes next was played, with this number and outcome
pub record SlotPlayed (played : PlayedRound) (here : RoundSoFar) (past : List Item) (outcomes : List Outcome) : Type 0 where
  pub slot : ℕ
  pub outcome : Outcome
  pub is : slot ≡ length outcomes + 1
  pub outcome_is : outcome ≡ outcome_of (slot_reception played.start here.number slot here.command past)

abbrev pub slot_played : {played : PlayedRound} {here : RoundSoFar} {past : List Item} (u : IsInRound played here past) (slot : ℕ) (outcome : Outcome)
    → ((spec : SpecValue) (outcomes : List Outcome) → RoundStandsFor here.round spec outcomes → slot ≡ slots_of spec outcomes)
    → outcome ≡ outcome_of (slot_reception played.start here.number slot here.command past) → SlotPlayed played here past u.outcomes
slot_played {played} u slot outcome counted outcome_is = record {
  slot = slot;
  outcome = outcome;
  is = counted played.spec u.outcomes u.goes ∙ slots-underway played.spec u.outcomes u.goes.outcomes_are u.on;
  outcome_is = outcome_is;
}

-- what is past behind a slot with this number
abbrev pub past_behind_numbered : PlayedRound → RoundSoFar → ℕ → List Item → List Item
past_behind_numbered played here slot past = past_behind_slot played.start played.operations here.number slot here.command past

-- the turns that are left behind it lead to the end of the round
turn-rest : (played : PlayedRound) (here : RoundSoFar) (past : List Item) (u : IsInRound played here past) (s : SlotPlayed played here past u.outcomes)
    → past_behind_turns (suc u.left) played.start played.operations here.number played.spec (s.outcome ∷ u.outcomes) (past_behind_numbered played here s.slot past)
    ≡ past_behind_played played
turn-rest played here past u s =
    let start = played.start in
    let turns = past_behind_turns (suc u.left) start played.operations here.number played.spec in
    ap (λ (o : Outcome). turns (o ∷ u.outcomes) (past_behind_numbered played here s.slot past)) s.outcome_is
    ∙ ap (λ n. turns (outcome_of (slot_reception start here.number n here.command past) ∷ u.outcomes) (past_behind_numbered played here n past)) s.is
    ∙ sym (ap (λ (n : Next). past_behind_turn turns start played.operations here.number u.outcomes past n) u.sends)
    ∙ u.rest

-- no round ends in a slot
pub rounds-slot : (start : Start) (operations : OpList) (round slot : ℕ) (command : Command) (past : List Item)
    → rounds_in (past_behind_slot start operations round slot command past) ≡ rounds_in past
rounds-slot start operations round slot command past =
    answer-keeps (λ now. rounds_in now ≡ rounds_in past) (record { start = start; round = round; slot = slot }) operations (slot_reception start round slot command past)
    (past_behind_command start round slot command past) (record { command = λ sent expect extended now expects same. same; result = λ index result now same. same })
    (λ rn same. same) refl

-- what the code of a round keeps to: few operations, and no more slots than the limit
pub record HasFewTurns (played : PlayedRound) : Type 0 where
  pub few_operations : length played.operations.ops ≤ 32
  pub within : (outcomes : List Outcome) → AreOutcomes played.spec outcomes → slots_of played.spec outcomes ≤ played.spec.limit

-- a slot command of a round expects an RN16
turn-expects : (spec : SpecValue) (link : LinkValue) (turn : Turn) (command : Command) → next_of_turn spec link turn ≡ nexts.Send command → expectation_of command ≡ Some expects.Rn16
turn-expects spec link turns.query command is =
    let same : commands.Query link.dr link.code link.trext spec.sel spec.session spec.target spec.q ≡ command = cc in ap (λ (c : Command). expectation_of c) (sym same)
turn-expects spec link (turns.adjust updn) command is =
    let same : commands.QueryAdjust spec.session updn ≡ command = cc in ap (λ (c : Command). expectation_of c) (sym same)
turn-expects spec link turns.rep command is = let same : commands.QueryRep spec.session ≡ command = cc in ap (λ (c : Command). expectation_of c) (sym same)
turn-expects spec link turn command is = absurd (cc)

pub round-expects : (played : PlayedRound) (here : RoundSoFar) (past : List Item) → IsInRound played here past → expectation_of here.command ≡ Some expects.Rn16
round-expects played here past u = turn-expects played.spec played.start.link (turn_of played.spec u.outcomes) here.command u.sends

-- a slot of a round that goes on with a slot command
pub round-goes-on : (played : PlayedRound) (here : RoundSoFar) (past : List Item) (u : IsInRound played here past) (s : SlotPlayed played here past u.outcomes)
    (after : RoundValue) (next : Command) → HasFewTurns played → IsNextAnswer (nexts.Send next) after played.spec (s.outcome ∷ u.outcomes)
    → IsInRound played (record { number = here.number; round = after; command = next }) (past_behind_numbered played here s.slot past)
round-goes-on played here past u s after next fits answers =
    let start = played.start in
    let spec = played.spec in
    let between : List Item = past_behind_numbered played here s.slot past in
    let on : is_over spec (s.outcome ∷ u.outcomes) ≡ false = answers.over in
    let sent : slots_of spec (s.outcome ∷ u.outcomes) ≡ suc (length u.outcomes) + 1 = slots-underway spec (s.outcome ∷ u.outcomes) answers.stands.outcomes_are on in
    let within = fits.within (s.outcome ∷ u.outcomes) answers.stands.outcomes_are in
    let some : 1 ≤ u.left = omega (arith, u.slots, sent, within) in
    let one : suc (u.left - 1) ≡ u.left = omega (arith, some) in
    let grown : exchanges_in between ≤ exchanges_in past + (2 + most_operating played.operations) =
    slot-exchanges start played.operations here.number s.slot here.command past in
    record {
      outcomes = s.outcome ∷ u.outcomes;
      left = u.left - 1;
      goes = answers.stands;
      on = on;
      sends = sym (answers.next start.link);
      slots = omega (arith, one, u.slots);
      rest = ap (λ n. past_behind_turns (suc n) start played.operations here.number spec (s.outcome ∷ u.outcomes) between) one ∙ turn-rest played here past u s;
      few = omega (arith, one, u.few, grown, fits.few_operations);
      rounds = u.rounds ∙ ap (λ n. n + 1) (sym (rounds-slot start played.operations here.number s.slot here.command past));
    }

last-slot : (outcomes : List Outcome) (slot : ℕ) → slot ≡ length outcomes + 1 → slot ≡ suc (length outcomes)
last-slot outcomes slot is = omega (arith, is)

-- what a round answers next, by what it is known to be
pub answers-known : {end known : Option RoundEnd} (command : Command) {after : RoundValue} {spec : SpecValue} {outcomes : List Outcome} → end ≡ known
    → IsNextAnswer (next_of end command) after spec outcomes → IsNextAnswer (next_of known command) after spec outcomes
answers-known command {after} {spec} {outcomes} is answers = subst (λ (e : Option RoundEnd). IsNextAnswer (next_of e command) after spec outcomes) is answers

-- the past that the end of a round leaves
round-left : (played : PlayedRound) (here : RoundSoFar) (past : List Item) (u : IsInRound played here past) (s : SlotPlayed played here past u.outcomes)
    (after : RoundValue) (next : Next) → IsNextAnswer next after played.spec (s.outcome ∷ u.outcomes)
    → past_behind_turn (past_behind_turns u.left played.start played.operations here.number played.spec) played.start played.operations here.number (s.outcome ∷ u.outcomes)
    (past_behind_numbered played here s.slot past) next
    ≡ past_behind_played played
round-left played here past u s after next answers =
    let start = played.start in
    ap (λ (n : Next). past_behind_turn (past_behind_turns u.left start played.operations here.number played.spec) start played.operations here.number (s.outcome ∷ u.outcomes)
    (past_behind_numbered played here s.slot past) n) (answers.next start.link)
    ∙ turn-rest played here past u s

-- ... with that end, whichever of the two it is, and the number of its last slot
pub round-ends : (played : PlayedRound) (here : RoundSoFar) (past : List Item) (u : IsInRound played here past) (s : SlotPlayed played here past u.outcomes)
    (after : RoundValue) (end : RoundEnd) (command : Command) → IsNextAnswer (next_of (Some end) command) after played.spec (s.outcome ∷ u.outcomes)
    → ended here.number end s.slot ∷ past_behind_numbered played here s.slot past ≡ past_behind_played played
round-ends played here past u s after ends.Quiet command answers =
    ap (λ n. ended here.number ends.Quiet n ∷ past_behind_numbered played here s.slot past) (last-slot u.outcomes s.slot s.is) ∙ round-left played here past u s after nexts.Quiet answers
round-ends played here past u s after ends.Limit command answers =
    ap (λ n. ended here.number ends.Limit n ∷ past_behind_numbered played here s.slot past) (last-slot u.outcomes s.slot s.is) ∙ round-left played here past u s after nexts.Limit answers

-- what is past behind a slot leads to what is past behind the round
pub slot-leads : (played : PlayedRound) (here : RoundSoFar) (past : List Item) (u : IsInRound played here past) (s : SlotPlayed played here past u.outcomes)
    → Grows (past_behind_numbered played here s.slot past) (past_behind_played played)
slot-leads played here past u s =
    let between : List Item = past_behind_numbered played here s.slot past in
    subst (λ (behind : List Item). Grows between behind) (turn-rest played here past u s)
    (turns-grow (suc u.left) played.start played.operations here.number played.spec (s.outcome ∷ u.outcomes) between)
