-- Profile: the one history of a run. The interrogator goes by the rounds of Annex D; the standard leaves it free.
use Rattle.std.specs.Prelude.{ℕ, Bool, zero, suc, ◌+◌, List, [], ◌∷◌, length}
use Rattle.access_ops.specs.Operations.{Dialogue, sends, tells, done, dialogue_of}
use Rattle.access_ops.specs.declared.OpList.{OpList}
use Rattle.air_model.specs.Past.{Start, Item, befell, operated, ended, next_record, past_behind_command, rounds_in}
use Rattle.air_model.specs.Reception.{reception_of, reception_with}
use Rattle.reply_grammar.specs.Reception.{Reception, no_stream, whole_reply, no_such_reply}
use Rattle.command_grammar.specs.declared.commands.Command.{Command}
use Rattle.command_grammar.specs.declared.commands.Command.TheVariants as commands
use Rattle.q_round.specs.SpecValue.{SpecValue}
use Rattle.q_round.specs.Rounds.{next_command}
use Rattle.q_round.specs.declared.frame.Outcome.{Outcome}
use Rattle.q_round.specs.declared.frame.Outcome.TheVariants as outcomes
use Rattle.q_round.specs.declared.round.Next.{Next}
use Rattle.q_round.specs.declared.round.RoundEnd.TheVariants as ends
use Rattle.q_round.specs.declared.round.Next.TheVariants as nexts
use Rattle.reply_grammar.specs.declared.expected.Expect.{Expect}
use Rattle.reply_grammar.specs.declared.expected.Expect.TheVariants as expects
use Rattle.reply_grammar.specs.declared.expected.Reply.TheVariants as replies
use Rattle.scenario.specs.declared.values.Step.{Step}
use Rattle.scenario.specs.declared.values.Step.TheVariants as steps

-- the outcome of a slot, by what was heard for its slot command
abbrev pub outcome_of : Reception → Outcome
outcome_of no_stream = outcomes.Silence
outcome_of (whole_reply reply) = outcomes.Whole
outcome_of no_such_reply = outcomes.Refused

-- what a command of an operation brings
abbrev pub operation_reception : Start → (round slot : ℕ) → Command → Expect → Bool → List Item → Reception
operation_reception start round slot command expect extended past =
    reception_with start.link.trext extended expect (next_record start round slot command past).given

-- The past behind the rest of a dialogue with a tag: each command is sent in the slot, each result is told with its number, and
-- what comes next goes by what came back.
abbrev pub past_behind_dialogue : Start → (round slot index : ℕ) → Dialogue → List Item → List Item
past_behind_dialogue start round slot index (sends command expect extended go_on) past =
    past_behind_dialogue start round slot index (go_on (operation_reception start round slot command expect extended past))
    (past_behind_command start round slot command past)
past_behind_dialogue start round slot index (tells result later) past =
    past_behind_dialogue start round slot (index + 1) later (operated round slot index result ∷ past)
past_behind_dialogue start round slot index done past = past

-- What the interrogator does in the slot behind an ACK with this RN16 that brought this: with a tag whose EPC came whole the
-- operations of the round, and in each other case nothing.
abbrev pub dialogue_begun : OpList → ℕ → Reception → Dialogue
dialogue_begun operations rn (whole_reply (replies.Epc pc epc)) = dialogue_of operations epc rn
dialogue_begun operations rn reception = done

-- the past behind the rest of a slot, whose ACK with this RN16 brought this
abbrev pub past_behind_listing : Start → OpList → (round slot rn : ℕ) → Reception → List Item → List Item
past_behind_listing start operations round slot rn reception past = past_behind_dialogue start round slot 1 (dialogue_begun operations rn reception) past

-- what an ACK brings
abbrev pub ack_reception : Start → (round slot rn : ℕ) → List Item → Reception
ack_reception start round slot rn past = reception_of expects.Epc (next_record start round slot (commands.Ack rn) past).given

-- the past behind an ACK with this RN16 and what follows it in the slot
abbrev pub past_behind_ack : Start → OpList → (round slot rn : ℕ) → List Item → List Item
past_behind_ack start operations round slot rn past =
    past_behind_listing start operations round slot rn (ack_reception start round slot rn past) (past_behind_command start round slot (commands.Ack rn) past)

-- The past behind the rest of a slot, whose slot command brought this: after a whole RN16 the interrogator sends an ACK with
-- it, and in each other case the slot ends.
abbrev pub past_behind_answer : Start → OpList → (round slot : ℕ) → Reception → List Item → List Item
past_behind_answer start operations round slot (whole_reply (replies.Rn16 rn)) past = past_behind_ack start operations round slot rn past
past_behind_answer start operations round slot reception past = past

-- what a slot command brings
abbrev pub slot_reception : Start → (round slot : ℕ) → Command → List Item → Reception
slot_reception start round slot command past = reception_of expects.Rn16 (next_record start round slot command past).given

-- the past behind a slot that begins with this command
abbrev pub past_behind_slot : Start → OpList → (round slot : ℕ) → Command → List Item → List Item
past_behind_slot start operations round slot command past =
    past_behind_answer start operations round slot (slot_reception start round slot command past) (past_behind_command start round slot command past)

-- The past behind one turn of a round: a slot, behind which the round goes on, or the end of the round.
abbrev pub past_behind_turn : (List Outcome → List Item → List Item) → Start → OpList → ℕ → List Outcome → List Item → Next → List Item
past_behind_turn go_on start operations round outcomes past (nexts.Send command) =
    let slot = length outcomes + 1 in
    go_on (outcome_of (slot_reception start round slot command past) ∷ outcomes) (past_behind_slot start operations round slot command past)
past_behind_turn go_on start operations round outcomes past nexts.Quiet = ended round ends.Quiet (length outcomes) ∷ past
past_behind_turn go_on start operations round outcomes past nexts.Limit = ended round ends.Limit (length outcomes) ∷ past

-- The past behind so many more turns of a round, or as many as it has, after these outcomes, the latest first.
abbrev pub past_behind_turns : ℕ → Start → OpList → ℕ → SpecValue → List Outcome → List Item → List Item
past_behind_turns zero start operations round spec outcomes past = past
past_behind_turns (suc left) start operations round spec outcomes past =
    past_behind_turn (past_behind_turns left start operations round spec) start operations round outcomes past (next_command spec start.link outcomes)

-- The past behind a round. A round has no more slots than its limit, so that turns for those and for the end are all that it has.
abbrev pub past_behind_round : Start → OpList → SpecValue → List Item → List Item
past_behind_round start operations spec past = past_behind_turns (suc spec.limit) start operations (rounds_in past + 1) spec [] past

-- the past behind a step; the exchange of a Select or NAK belongs to no round
abbrev pub past_behind_step : Start → Step → List Item → List Item
past_behind_step start (steps.Select command) past = past_behind_command start 0 0 command past
past_behind_step start steps.Nak past = past_behind_command start 0 0 commands.Nak past
past_behind_step start (steps.Event event number) past = befell event number ∷ past
past_behind_step start (steps.Round spec operations) past = past_behind_round start operations spec past

-- the past behind steps
abbrev pub past_behind : Start → List Step → List Item → List Item
past_behind start [] past = past
past_behind start (step ∷ steps) past = past_behind start steps (past_behind_step start step past)

-- the history of a run: what is past when no step is left, the latest first
abbrev pub history_of : Start → List Step → List Item
history_of start steps = past_behind start steps []
