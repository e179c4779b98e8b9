-- A past only grows. What each command and each result of a dialogue keeps, the dialogue keeps; what holds after each slot of a
-- round and at both of its ends holds of the round; what holds after each step holds of the run; and what each item keeps, all keep.
use Rattle.runs.proofs.Names.{◌≡◌, ℕ, zero, suc, ◌+◌, ◌≤◌, Bool, true, false, List, [], ◌∷◌, ◌++◌, length, None, refl, ap, sym, ◌∙◌, append_assoc, append-nil, arith, AllByRecursion, AwaitsReplies}
use Rattle.runs.proofs.Names.{dialogues-await, Expects, Dialogue, sends, tells, done, dialogue_of, OpList, OpResult, Event, Start, Item, befell, operated, ended, past_behind_command, rounds_in}
use Rattle.runs.proofs.Names.{Reception, no_stream, whole_reply, no_such_reply, outcome_of, operation_reception, past_behind_dialogue, dialogue_begun, past_behind_listing, ack_reception}
use Rattle.runs.proofs.Names.{past_behind_ack, past_behind_answer, slot_reception, past_behind_slot, past_behind_turn, past_behind_turns, past_behind_step, past_behind, rn_of, item_lines, past_lines}
use Rattle.runs.proofs.Names.{Command, LinkValue, SpecValue, IsLegalSpec, Turn, quiet, limit, is_last_turn, turn_of, is_over, AreOutcomes, slots_of, next_of_turn, next_command, slots-underway}
use Rattle.runs.proofs.Names.{slots-over, Outcome, Whole, Next, RoundEnd, Expect, ReportLine, Step}
use Rattle.command_grammar.specs.declared.commands.Command.TheVariants as commands
use Rattle.q_round.specs.declared.round.Next.TheVariants as nexts
use Rattle.q_round.specs.declared.round.RoundEnd.TheVariants as round_ends
use Rattle.reply_grammar.specs.declared.expected.Reply.TheVariants as replies
use Rattle.scenario.specs.declared.values.Step.TheVariants as steps
use Rattle.runs.proofs.PlayedRounds.{SlotOfRun, PlayedRound, number_of, past_behind_played, DoesNext}

-- a past, and what was added to it
pub record Grows (past behind : List Item) : Type 0 where
  pub own : List Item
  pub is : behind ≡ own ++ past

grows-none : (past : List Item) → Grows past past
grows-none past = record { own = []; is = refl }

pub grows-more : (past behind : List Item) (item : Item) → Grows past behind → Grows past (item ∷ behind)
grows-more past behind item grown = record { own = item ∷ grown.own; is = ap (λ items. item ∷ items) grown.is }

-- What each command and each result of a dialogue keeps, and the end. `During` speaks of the number of the next result, what is
-- left of the dialogue, and the past; `After` of the past behind the dialogue.
pub record DialogueSteps (During : ℕ → Dialogue → List Item → Type 0) (After : List Item → Type 0) (at : SlotOfRun) : Type 0 where
  pub command : (index : ℕ) (command : Command) (expect : Expect) (extended : Bool) (go_on : Reception → Dialogue) (past : List Item)
      → During index (sends command expect extended go_on) past
      → During index (go_on (operation_reception at.start at.round at.slot command expect extended past)) (past_behind_command at.start at.round at.slot command past)
  pub result : (index : ℕ) (result : OpResult) (later : Dialogue) (past : List Item) → During index (tells result later) past
      → During (index + 1) later (operated at.round at.slot index result ∷ past)
  pub end : (index : ℕ) (past : List Item) → During index done past → After past

-- what holds at first holds behind the dialogue
pub dialogue-holds : (During : ℕ → Dialogue → List Item → Type 0) (After : List Item → Type 0) (at : SlotOfRun) → DialogueSteps During After at
    → (index : ℕ) (dialogue : Dialogue) (past : List Item) → During index dialogue past
    → After (past_behind_dialogue at.start at.round at.slot index dialogue past)
dialogue-holds During After at each index (sends command expect extended go_on) past holds =
    dialogue-holds During After at each index (go_on (operation_reception at.start at.round at.slot command expect extended past))
    (past_behind_command at.start at.round at.slot command past) (each.command index command expect extended go_on past holds)
dialogue-holds During After at each index (tells result later) past holds =
    dialogue-holds During After at each (index + 1) later (operated at.round at.slot index result ∷ past) (each.result index result later past holds)
dialogue-holds During After at each index done past holds = each.end index past holds

-- what holds of a past, and each command of an operation and each result keeps
pub record KeptByOperations (Holds : List Item → Type 0) (at : SlotOfRun) : Type 0 where
  pub command : (command : Command) (expect : Expect) (extended : Bool) (past : List Item) → Expects command expect extended → Holds past
      → Holds (past_behind_command at.start at.round at.slot command past)
  pub result : (index : ℕ) (result : OpResult) (past : List Item) → Holds past → Holds (operated at.round at.slot index result ∷ past)

-- ... holds behind a dialogue
pub dialogue-keeps : (Holds : List Item → Type 0) (at : SlotOfRun) → KeptByOperations Holds at
    → (index : ℕ) (dialogue : Dialogue) (past : List Item) → AwaitsReplies dialogue → Holds past
    → Holds (past_behind_dialogue at.start at.round at.slot index dialogue past)
dialogue-keeps Holds at kept index dialogue past awaits holds =
    dialogue-holds (λ index left now. AwaitsReplies left × Holds now) Holds at
    (record {
      command = λ index command expect extended go_on now during. (during.0.1 _, kept.command command expect extended now during.0.0 during.1);
      result = λ index result later now during. (during.0, kept.result index result now during.1);
      end = λ index now during. during.1;
    })
    index dialogue past (awaits, holds)

-- what holds where nothing is done, and of the dialogue with each tag whose EPC came whole, holds of what is done behind an ACK
-- that brought this
pub begun-holds : (Holds : Dialogue → Type 0) (operations : OpList) (rn : ℕ) (reception : Reception) → Holds done
    → ((pc : ℕ) (epc : List ℕ) → reception ≡ whole_reply (replies.Epc pc epc) → Holds (dialogue_of operations epc rn))
    → Holds (dialogue_begun operations rn reception)
begun-holds Holds operations rn no_stream none whole = none
begun-holds Holds operations rn no_such_reply none whole = none
begun-holds Holds operations rn (whole_reply (replies.Epc pc epc)) none whole = whole pc epc refl
begun-holds Holds operations rn (whole_reply reply) none whole = none

-- each command of it awaits a reply of its kind
pub begun-awaits : (operations : OpList) (rn : ℕ) (reception : Reception) → AwaitsReplies (dialogue_begun operations rn reception)
begun-awaits operations rn reception = begun-holds AwaitsReplies operations rn reception tt (λ pc epc is. dialogues-await operations epc rn)

-- What holds behind an ACK, and what holds behind each dialogue with a tag whose EPC came whole, holds behind the rest of a slot
-- whose ACK brought this.
pub listing-holds : (Holds : List Item → Type 0) (at : SlotOfRun) (operations : OpList) (rn : ℕ) (reception : Reception) (past : List Item) → Holds past
    → ((pc : ℕ) (epc : List ℕ) → reception ≡ whole_reply (replies.Epc pc epc) → Holds (past_behind_dialogue at.start at.round at.slot 1 (dialogue_of operations epc rn) past))
    → Holds (past_behind_listing at.start operations at.round at.slot rn reception past)
listing-holds Holds at operations rn reception past holds whole =
    begun-holds (λ dialogue. Holds (past_behind_dialogue at.start at.round at.slot 1 dialogue past)) operations rn reception holds whole

-- What holds of the outcome of a slot and the past where no RN16 came, and behind each ACK with what follows it, holds behind the
-- rest of a slot whose slot command brought this.
pub outcome-cases : (Holds : Outcome → List Item → Type 0) (at : SlotOfRun) (operations : OpList) (reception : Reception) (past : List Item)
    → (rn_of reception ≡ None → Holds (outcome_of reception) past)
    → ((rn : ℕ) → reception ≡ whole_reply (replies.Rn16 rn) → Holds Whole (past_behind_ack at.start operations at.round at.slot rn past))
    → Holds (outcome_of reception) (past_behind_answer at.start operations at.round at.slot reception past)
outcome-cases Holds at operations no_stream past none whole = none refl
outcome-cases Holds at operations no_such_reply past none whole = none refl
outcome-cases Holds at operations (whole_reply (replies.Rn16 rn)) past none whole = whole rn refl
outcome-cases Holds at operations (whole_reply reply) past none whole = none refl

-- ... also what says nothing of the outcome
pub answer-cases : (Holds : List Item → Type 0) (at : SlotOfRun) (operations : OpList) (reception : Reception) (past : List Item)
    → (rn_of reception ≡ None → Holds past)
    → ((rn : ℕ) → reception ≡ whole_reply (replies.Rn16 rn) → Holds (past_behind_ack at.start operations at.round at.slot rn past))
    → Holds (past_behind_answer at.start operations at.round at.slot reception past)
answer-cases Holds at operations reception past none whole =
    outcome-cases (λ outcome now. Holds now) at operations reception past none whole

-- ... also of what holds behind the slot command whatever came
pub answer-holds : (Holds : List Item → Type 0) (at : SlotOfRun) (operations : OpList) (reception : Reception) (past : List Item) → Holds past
    → ((rn : ℕ) → reception ≡ whole_reply (replies.Rn16 rn) → Holds (past_behind_ack at.start operations at.round at.slot rn past))
    → Holds (past_behind_answer at.start operations at.round at.slot reception past)
answer-holds Holds at operations reception past holds whole =
    answer-cases Holds at operations reception past (λ none. holds) whole

-- what each command of an operation and each result keeps holds behind an ACK and what follows it, where it holds behind the ACK
pub ack-keeps : (Holds : List Item → Type 0) (at : SlotOfRun) (operations : OpList) (rn : ℕ) (past : List Item) → KeptByOperations Holds at
    → Holds (past_behind_command at.start at.round at.slot (commands.Ack rn) past) → Holds (past_behind_ack at.start operations at.round at.slot rn past)
ack-keeps Holds at operations rn past kept holds =
    let reception = ack_reception at.start at.round at.slot rn past in
    dialogue-keeps Holds at kept 1 (dialogue_begun operations rn reception) (past_behind_command at.start at.round at.slot (commands.Ack rn) past)
    (begun-awaits operations rn reception) holds

-- ... and behind the rest of a slot, where the ACK keeps it too
pub answer-keeps : (Holds : List Item → Type 0) (at : SlotOfRun) (operations : OpList) (reception : Reception) (past : List Item)
    → KeptByOperations Holds at
    → ((rn : ℕ) → Holds past → Holds (past_behind_command at.start at.round at.slot (commands.Ack rn) past))
    → Holds past → Holds (past_behind_answer at.start operations at.round at.slot reception past)
answer-keeps Holds at operations reception past kept ack holds =
    answer-holds Holds at operations reception past holds
    (λ rn is. ack-keeps Holds at operations rn past kept (ack rn holds))

-- What holds of a past, and each item that a run adds keeps.
pub record KeptByItems (Holds : List Item → Type 0) (start : Start) : Type 0 where
  pub command : (round slot : ℕ) (command : Command) (past : List Item) → Holds past → Holds (past_behind_command start round slot command past)
  pub event : (event : Event) (number : ℕ) (past : List Item) → Holds past → Holds (befell event number ∷ past)
  pub result : (round slot index : ℕ) (result : OpResult) (past : List Item) → Holds past → Holds (operated round slot index result ∷ past)
  pub end : (round : ℕ) (end : RoundEnd) (slots : ℕ) (past : List Item) → Holds past → Holds (ended round end slots ∷ past)

-- ... holds behind the turns of a round, a step and a run
module _ (Holds : List Item → Type 0) (start : Start) (kept : KeptByItems Holds start) where
  slot-always : (operations : OpList) (round slot : ℕ) (command : Command) (past : List Item) → Holds past → Holds (past_behind_slot start operations round slot command past)
  slot-always operations round slot command past holds =
      answer-keeps Holds (record { start = start; round = round; slot = slot }) operations (slot_reception start round slot command past)
      (past_behind_command start round slot command past)
      (record { command = λ command expect extended now suits. kept.command round slot command now; result = kept.result round slot })
      (λ rn. kept.command round slot (commands.Ack rn) (past_behind_command start round slot command past))
      (kept.command round slot command past holds)

  turn-always : (go_on : List Outcome → List Item → List Item) (operations : OpList) (round : ℕ) (outcomes : List Outcome) (past : List Item) (next : Next)
      → ((outcomes : List Outcome) (past : List Item) → Holds past → Holds (go_on outcomes past)) → Holds past
      → Holds (past_behind_turn go_on start operations round outcomes past next)
  turn-always go_on operations round outcomes past (nexts.Send command) later holds =
      later _ _ (slot-always operations round (length outcomes + 1) command past holds)
  turn-always go_on operations round outcomes past nexts.Quiet later holds = kept.end round round_ends.Quiet (length outcomes) past holds
  turn-always go_on operations round outcomes past nexts.Limit later holds = kept.end round round_ends.Limit (length outcomes) past holds

  turns-always : (left : ℕ) (operations : OpList) (round : ℕ) (spec : SpecValue) (outcomes : List Outcome) (past : List Item) → Holds past
      → Holds (past_behind_turns left start operations round spec outcomes past)
  turns-always zero operations round spec outcomes past holds = holds
  turns-always (suc left) operations round spec outcomes past holds =
      turn-always (past_behind_turns left start operations round spec) operations round outcomes past (next_command spec start.link outcomes)
      (turns-always left operations round spec) holds

  step-always : (step : Step) (past : List Item) → Holds past → Holds (past_behind_step start step past)
  step-always (steps.Select command) past holds = kept.command 0 0 command past holds
  step-always steps.Nak past holds = kept.command 0 0 commands.Nak past holds
  step-always (steps.Event event number) past holds = kept.event event number past holds
  step-always (steps.Round spec operations) past holds = turns-always (suc spec.limit) operations (rounds_in past + 1) spec [] past holds

  pub run-always : (steps : List Step) (past : List Item) → Holds past → Holds (past_behind start steps past)
  run-always [] past holds = holds
  run-always (step ∷ later) past holds = run-always later (past_behind_step start step past) (step-always step past holds)

-- so a past only grows
grows-items : (start : Start) (past : List Item) → KeptByItems (Grows past) start
grows-items start past = record {
  command = λ round slot command now grown. grows-more past now _ grown;
  event = λ event number now grown. grows-more past now _ grown;
  result = λ round slot index result now grown. grows-more past now _ grown;
  end = λ round end slots now grown. grows-more past now _ grown;
}

pub turns-grow : (left : ℕ) (start : Start) (operations : OpList) (round : ℕ) (spec : SpecValue) (outcomes : List Outcome) (past : List Item)
    → Grows past (past_behind_turns left start operations round spec outcomes past)
turns-grow left start operations round spec outcomes past =
    turns-always (Grows past) start (grows-items start past) left operations round spec outcomes past (grows-none past)

pub steps-grow : (start : Start) (steps : List Step) (past : List Item) → Grows past (past_behind start steps past)
steps-grow start steps past = run-always (Grows past) start (grows-items start past) steps past (grows-none past)

-- the lines of what was added
abbrev pub added_lines : LinkValue → List Item → List ReportLine
added_lines link [] = []
added_lines link (item ∷ own) = added_lines link own ++ item_lines link item

-- they follow the lines of the past
pub past_lines-more : (link : LinkValue) (own past : List Item)
    → past_lines link (own ++ past) ≡ past_lines link past ++ added_lines link own
past_lines-more link [] past = sym (append-nil (past_lines link past))
past_lines-more link (item ∷ own) past =
    ap (λ lines. lines ++ item_lines link item) (past_lines-more link own past)
    ∙ append_assoc (past_lines link past) (added_lines link own) (item_lines link item)

-- what a round does next where it ends so
abbrev pub next_at_end : RoundEnd → Next
next_at_end round_ends.Quiet = nexts.Quiet
next_at_end round_ends.Limit = nexts.Limit

sends-underway : (spec : SpecValue) (link : LinkValue) (turn : Turn) (command : Command) → next_of_turn spec link turn ≡ nexts.Send command → is_last_turn turn ≡ false
sends-underway spec link quiet command is = absurd (cc)
sends-underway spec link limit command is = absurd (cc)
sends-underway spec link turn command is = refl

-- where a slot command comes next, the round is not over
pub send-underway : (spec : SpecValue) (link : LinkValue) (outcomes : List Outcome) (command : Command)
    → next_command spec link outcomes ≡ nexts.Send command → is_over spec outcomes ≡ false
send-underway spec link outcomes command is = sends-underway spec link (turn_of spec outcomes) command is

-- What holds at first, after each slot and at the end. `During` speaks of the outcomes so far, the latest first, and the past;
-- `After` of the past behind the round.
pub record RoundSteps (During : List Outcome → List Item → Type 0) (After : List Item → Type 0) (round : PlayedRound) : Type 0 where
  pub slot : (outcomes : List Outcome) (past : List Item) (command : Command) → DoesNext round outcomes (nexts.Send command) → During outcomes past
      → During (outcome_of (slot_reception round.start (number_of round) (length outcomes + 1) command past) ∷ outcomes)
      (past_behind_slot round.start round.operations (number_of round) (length outcomes + 1) command past)
  pub end : (outcomes : List Outcome) (past : List Item) (end : RoundEnd) → DoesNext round outcomes (next_at_end end) → During outcomes past
      → After (ended (number_of round) end (length outcomes) ∷ past)

-- a round gives no more slot commands than its limit: a law of rounds
abbrev pub RoundsKeepLimit : Type 0
RoundsKeepLimit = (spec : SpecValue) (outcomes : List Outcome) → IsLegalSpec spec → AreOutcomes spec outcomes → slots_of spec outcomes ≤ spec.limit

outcomes-within : (spec : SpecValue) (outcomes : List Outcome) (over : Bool) → is_over spec outcomes ≡ over → AreOutcomes spec outcomes → length outcomes ≤ slots_of spec outcomes
outcomes-within spec outcomes false on are = rw (slots-underway spec outcomes are on) (omega arith)
outcomes-within spec outcomes true over are = rw (slots-over spec outcomes are over) (omega arith)

-- a round has at most as many outcomes as its limit
pub few-outcomes : RoundsKeepLimit → (spec : SpecValue) (outcomes : List Outcome) → IsLegalSpec spec → AreOutcomes spec outcomes → length outcomes ≤ spec.limit
few-outcomes keeps spec outcomes legal are =
    let within : slots_of spec outcomes ≤ spec.limit = keeps spec outcomes legal are in
    let few : length outcomes ≤ slots_of spec outcomes = outcomes-within spec outcomes (is_over spec outcomes) refl are in
    omega arith

-- a moment of a round behind some of its slots: their outcomes, the latest first, what is past, and that this holds
record Moment (During : List Outcome → List Item → Type 0) (round : PlayedRound) : Type 0 where
  pub outcomes : List Outcome
  pub past : List Item
  pub are : AreOutcomes round.spec outcomes
  pub holds : During outcomes past

-- how a round goes on behind its next slot; what holds then leads to what holds in the end
record GoesOn (During : List Outcome → List Item → Type 0) (After : List Item → Type 0) (round : PlayedRound) (outcomes : List Outcome) : Type 0 where
  pub go_on : List Outcome → List Item → List Item
  pub leads : (outcome : Outcome) (behind : List Item) → AreOutcomes round.spec (outcome ∷ outcomes) → During (outcome ∷ outcomes) behind
      → After (go_on (outcome ∷ outcomes) behind)

turn-holds : (During : List Outcome → List Item → Type 0) (After : List Item → Type 0) (round : PlayedRound) → RoundSteps During After round
    → (here : Moment During round) (on : GoesOn During After round here.outcomes) (next : Next) → next_command round.spec round.start.link here.outcomes ≡ next
    → After (past_behind_turn on.go_on round.start round.operations (number_of round) here.outcomes here.past next)
turn-holds During After round each here on (nexts.Send command) is =
    on.leads _ _ (send-underway round.spec round.start.link here.outcomes command is, here.are)
    (each.slot here.outcomes here.past command (record { are = here.are; is = is }) here.holds)
turn-holds During After round each here on nexts.Quiet is = each.end here.outcomes here.past round_ends.Quiet (record { are = here.are; is = is }) here.holds
turn-holds During After round each here on nexts.Limit is = each.end here.outcomes here.past round_ends.Limit (record { are = here.are; is = is }) here.holds

-- what holds after each slot, and from there at both ends, holds behind the turns that are left
turns-hold : (During : List Outcome → List Item → Type 0) (After : List Item → Type 0) (round : PlayedRound)
    → RoundsKeepLimit → IsLegalSpec round.spec → RoundSteps During After round
    → (left : ℕ) (here : Moment During round) → left + length here.outcomes ≡ round.spec.limit + 1
    → After (past_behind_turns left round.start round.operations (number_of round) round.spec here.outcomes here.past)
turns-hold During After round keeps legal each zero here count =
    let few : length here.outcomes ≤ round.spec.limit = few-outcomes keeps round.spec here.outcomes legal here.are in
    absurd (omega arith)
turns-hold During After round keeps legal each (suc left) here count =
    turn-holds During After round each here
    (record {
      go_on = past_behind_turns left round.start round.operations (number_of round) round.spec;
      leads = λ outcome behind more during.
          turns-hold During After round keeps legal each left
          (record { outcomes = outcome ∷ here.outcomes; past = behind; are = more; holds = during }) (omega arith);
    })
    (next_command round.spec round.start.link here.outcomes) refl

-- ... and behind a whole round
pub round-holds : (During : List Outcome → List Item → Type 0) (After : List Item → Type 0) (round : PlayedRound)
    → RoundsKeepLimit → IsLegalSpec round.spec → RoundSteps During After round → During [] round.before → After (past_behind_played round)
round-holds During After round keeps legal each holds =
    turns-hold During After round keeps legal each (suc round.spec.limit) (record { outcomes = []; past = round.before; are = tt; holds = holds }) (omega arith)

-- what each step keeps, a run keeps
pub steps-hold : (Holds : List Item → Type 0) (Can : Step → Type 0) (start : Start)
    → ((step : Step) (past : List Item) → Can step → Holds past → Holds (past_behind_step start step past))
    → (steps : List Step) (past : List Item) → AllByRecursion Can steps → Holds past → Holds (past_behind start steps past)
steps-hold Holds Can start each [] past can holds = holds
steps-hold Holds Can start each (step ∷ steps) past can holds =
    steps-hold Holds Can start each steps (past_behind_step start step past) can.1 (each step past can.0 holds)
