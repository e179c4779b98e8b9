-- Profile: the history of a run, item by item. What comes next goes by the start, the steps and what is past alone.
use Rattle.std.specs.Prelude.{◌≡◌, ℕ, ◌+◌, ◌==◌, List, [], ◌∷◌, length, map, Option, Some, None, slice_get, if◌then◌else◌}
use Rattle.access_ops.specs.Operations.{Dialogue, sends, tells, done}
use Rattle.access_ops.specs.declared.OpList.{OpList}
use Rattle.air_model.specs.Past.{Start, Record, Item, befell, exchanged, operated, ended, next_record, rounds_in}
use Rattle.air_model.specs.Reception.{reception_of, reception_with}
use Rattle.reply_grammar.specs.Reception.{Reception, whole_reply}
use Rattle.runs.specs.Headline.{begins_slot, slot_records}
use Rattle.runs.specs.History.{outcome_of, dialogue_begun}
use Rattle.command_grammar.specs.declared.commands.Command.{Command}
use Rattle.command_grammar.specs.declared.commands.Command.TheVariants as commands
use Rattle.q_round.specs.SpecValue.{SpecValue}
use Rattle.q_round.specs.Rounds.{next_command}
use Rattle.q_round.specs.declared.frame.Outcome.{Outcome}
use Rattle.q_round.specs.declared.round.Next.{Next}
use Rattle.q_round.specs.declared.round.Next.TheVariants as nexts
use Rattle.q_round.specs.declared.round.RoundEnd.TheVariants as ends
use Rattle.reply_grammar.specs.declared.expected.Expect.{Expect}
use Rattle.reply_grammar.specs.declared.expected.Expect.TheVariants as expects
use Rattle.reply_grammar.specs.declared.expected.Reply.TheVariants as replies
use Rattle.scenario.specs.declared.values.Step.{Step}
use Rattle.scenario.specs.declared.values.Step.TheVariants as steps

-- 6.3.2.11 Interrogator commands and Tag replies: what an interrogator expects in reply to the commands of an inventory
abbrev pub expectation_of : Command → Option Expect
expectation_of (commands.QueryRep session) = Some expects.Rn16
expectation_of (commands.Ack rn) = Some expects.Epc
expectation_of (commands.Query dr line_code trext sel session target q) = Some expects.Rn16
expectation_of (commands.QueryAdjust session updn) = Some expects.Rn16
expectation_of command = None

-- how many steps are finished: an event between exchanges, an exchange outside rounds and the end of a round each finish one
abbrev pub finished_in : List Item → ℕ
finished_in [] = 0
finished_in (befell event number ∷ past) = finished_in past + 1
finished_in (exchanged sent ∷ past) = if sent.round == 0 then finished_in past + 1 else finished_in past
finished_in (operated round slot index result ∷ past) = finished_in past
finished_in (ended round end slots ∷ past) = finished_in past + 1

-- what an exchange brought where an RN16 is expected
abbrev pub reception_of_slot : Record → Reception
reception_of_slot sent = reception_of expects.Rn16 sent.given

-- the outcomes of the slots of a round so far, the latest first
abbrev pub outcomes_of_round : ℕ → List Item → List Outcome
outcomes_of_round round past = map (λ sent. outcome_of (reception_of_slot sent)) (slot_records round past)

-- the RN16 of a whole reply
abbrev pub rn_of : Reception → Option ℕ
rn_of (whole_reply (replies.Rn16 rn)) = Some rn
rn_of reception = None

-- the RN16 that the interrogator has just received whole: the latest item is a slot command, which brought it
abbrev pub rn_received : List Item → Option ℕ
rn_received (exchanged sent ∷ past) = if begins_slot sent.command then rn_of (reception_of_slot sent) else None
rn_received past = None

-- the slot command or the end that the rounds' rule gives after these outcomes
abbrev pub item_by_rule : Start → ℕ → List Outcome → List Item → Next → Item
item_by_rule start round outcomes past (nexts.Send command) = exchanged (next_record start round (length outcomes + 1) command past)
item_by_rule start round outcomes past nexts.Quiet = ended round ends.Quiet (length outcomes)
item_by_rule start round outcomes past nexts.Limit = ended round ends.Limit (length outcomes)

-- what is left of a dialogue behind the record of its command
abbrev pub dialogue_behind_record : Start → Record → Dialogue → Dialogue
dialogue_behind_record start sent (sends command expect extended go_on) = go_on (reception_with start.link.trext extended expect sent.given)
dialogue_behind_record start sent dialogue = done

-- what is left of a dialogue behind the result that it tells
abbrev pub dialogue_behind_result : Dialogue → Dialogue
dialogue_behind_result (tells result later) = later
dialogue_behind_result dialogue = done

-- behind an exchange: an ACK may begin a dialogue, and a command of an operation goes on with it
abbrev pub dialogue_behind_exchange : Start → OpList → Record → Command → Dialogue → Dialogue
dialogue_behind_exchange start operations sent (commands.Ack rn) before = dialogue_begun operations rn (reception_of expects.Epc sent.given)
dialogue_behind_exchange start operations sent command before = dialogue_behind_record start sent before

-- what is left of the dialogue with the tag that was listed last
abbrev pub dialogue_left : Start → OpList → List Item → Dialogue
dialogue_left start operations (exchanged sent ∷ past) =
    dialogue_behind_exchange start operations sent sent.command (dialogue_left start operations past)
dialogue_left start operations (operated round slot index result ∷ past) = dialogue_behind_result (dialogue_left start operations past)
dialogue_left start operations past = done

-- how many operations have had a result since the last ACK
abbrev pub results_behind_exchange : Command → ℕ → ℕ
results_behind_exchange (commands.Ack rn) before = 0
results_behind_exchange command before = before

abbrev pub results_told_in : List Item → ℕ
results_told_in (exchanged sent ∷ past) = results_behind_exchange sent.command (results_told_in past)
results_told_in (operated round slot index result ∷ past) = results_told_in past + 1
results_told_in past = 0

-- in a round, where no operation is left: an ACK directly after a slot command whose RN16 was received whole, and else what the
-- rounds' rule gives
abbrev pub item_of_slots : Start → SpecValue → ℕ → List Outcome → List Item → Option ℕ → Item
item_of_slots start spec round outcomes past (Some rn) = exchanged (next_record start round (length outcomes) (commands.Ack rn) past)
item_of_slots start spec round outcomes past None = item_by_rule start round outcomes past (next_command spec start.link outcomes)

-- in a round: what the dialogue with the tag that was listed last wants, while it goes on
abbrev pub item_in_round : Start → SpecValue → ℕ → List Outcome → List Item → Dialogue → Item
item_in_round start spec round outcomes past (sends command expect extended go_on) = exchanged (next_record start round (length outcomes) command past)
item_in_round start spec round outcomes past (tells result later) = operated round (length outcomes) (results_told_in past + 1) result
item_in_round start spec round outcomes past done = item_of_slots start spec round outcomes past (rn_received past)

-- what comes next in a step, or nothing where no step is left
abbrev pub item_of_step : Start → List Item → Option Step → Option Item
item_of_step start past None = None
item_of_step start past (Some (steps.Select command)) = Some (exchanged (next_record start 0 0 command past))
item_of_step start past (Some steps.Nak) = Some (exchanged (next_record start 0 0 commands.Nak past))
item_of_step start past (Some (steps.Event event number)) = Some (befell event number)
item_of_step start past (Some (steps.Round spec operations)) =
    let round = rounds_in past + 1 in
    Some (item_in_round start spec round (outcomes_of_round round past) past (dialogue_left start operations past))

-- what comes next behind a past, or nothing
abbrev pub next_item : Start → List Step → List Item → Option Item
next_item start steps past = item_of_step start past (slice_get steps (finished_in past))

-- a past that starts empty and grows by what comes next alone
abbrev pub GrowsByNext : Start → List Step → List Item → Type 0
GrowsByNext start steps [] = Unit {0}
GrowsByNext start steps (item ∷ past) = (next_item start steps past ≡ Some item) × GrowsByNext start steps past
