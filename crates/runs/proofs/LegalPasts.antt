-- The tags behind each past of a history are legal, since each command that is sent has its numbers in their fields.
use Rattle.runs.proofs.Names.{◌≡◌, ℕ, ◌+◌, Bool, true, false, ◌&&◌, ◌||◌, List, [], ◌∷◌, ◌++◌, length, Some, if◌then◌else◌, refl, ap, sym, ◌∙◌, subst, and_parts, recursion_from_All, AllByRecursion}
use Rattle.runs.proofs.Names.{IsLegalOp, Dialogue, dialogue_of, dialogue_after, dialogue_behind, first_of, next_operation, reception_in, Move, answered, told, IsAnswerFor, IsMoveFor, AreMoves, OpList}
use Rattle.runs.proofs.Names.{Answer, Got, OpNext, Send, Result, OpResult, AreLegalTags, outcome_unless, outcomes_from, tags_after, tags_after_event, tag_after_events, is_missed, given_in, Given}
use Rattle.runs.proofs.Names.{whole, raw, Start, Record, Item, befell, exchanged, operated, ended, next_record, next_entry, past_behind_command, rounds_in, tags_behind, tags_behind_from, has_handle}
use Rattle.runs.proofs.Names.{has_preamble, is_expected, reception_of, reception_with, IsGiven, Entry, Event, from_whole, Code, StaysLegal, events-legal, IsRecordOf, operation_reception}
use Rattle.runs.proofs.Names.{past_behind_dialogue, ack_reception, past_behind_ack, slot_reception, past_behind_slot, past_behind_round, past_behind_step, start_of, history, IsWord, IsLegalCommand}
use Rattle.runs.proofs.Names.{Command, table_of, LinkValue, IsLegalNext, next_command, SpecValue, IsLegalSpec, Outcome, RoundEnd, Reception, no_stream, whole_reply, no_such_reply, reception_from}
use Rattle.runs.proofs.Names.{suits-true, Suits, suits, handle_of, IsReply, Expect, Received, Refused, Reply, IsReceived, received_of, received_there, tags_of, IsStep, IsScenario, Scenario, Step}
use Rattle.runs.proofs.Names.{Version, Sent, IsSent, step, TagValue, StateValue, BodyValue, IsLegalTag}
use Rattle.command_grammar.specs.declared.commands.Command.TheVariants as commands
use Rattle.reply_grammar.specs.declared.expected.Expect.TheVariants as expects
use Rattle.reply_grammar.specs.declared.expected.Reply.TheVariants as replies
use Rattle.scenario.specs.declared.values.Step.TheVariants as steps
use Rattle.access_ops.specs.declared.op_next.Answer.TheVariants.{Silence}
use Rattle.runs.proofs.Answering.{SendsInRange, given-of-answers}
use Rattle.runs.proofs.Growth.{RoundsKeepLimit, dialogue-holds, listing-holds, answer-holds, round-holds, steps-hold}
use Rattle.runs.proofs.PlayedRounds.{SlotOfRun}
use Rattle.runs.proofs.LegalStart.{CopiesAreTags, start-legal, selection-legal}
use Rattle.runs.proofs.Tags.{tags-exchanged, tags-befell, tags-operated, tags-ended}
use Rattle.reply_grammar.specs.declared.expected.Received.TheVariants.{Whole}

-- the laws of tags, of rounds and of operations that this goes by
abbrev pub HeardLegal : Type 0
HeardLegal = (command : Command) (state : StateValue) (body : BodyValue) → IsLegalCommand command → IsLegalTag (record { state = state; body = body })
    → IsLegalTag (step command state body).tag

abbrev pub RoundsLegal : Type 0
RoundsLegal = (spec : SpecValue) (link : LinkValue) (outcomes : List Outcome) → IsLegalSpec spec → IsLegalNext (next_command spec link outcomes)

abbrev pub OperationsLegal : Type 0
OperationsLegal = (list : OpList) (epc : List ℕ) (rn : ℕ) (moves : List Move) (command : Command) (expect : Expect) (extended : Bool) → AllByRecursion IsLegalOp list.ops → IsWord rn
    → AreMoves list epc rn moves → next_operation list epc rn moves ≡ Send command expect extended → IsLegalCommand command

pub record Laws : Type 0 where
  pub limit : RoundsKeepLimit
  pub range : SendsInRange
  pub heard : HeardLegal
  pub befallen : StaysLegal
  pub rounds : RoundsLegal
  pub operations : OperationsLegal
  pub copies : CopiesAreTags

-- what an exchange sends has its numbers in their fields
abbrev SendsLegal : Item → Type 0
SendsLegal (exchanged sent) = IsLegalCommand sent.command
SendsLegal item = Unit {0}

-- the tags are legal behind the past and behind each earlier one, and so is each command
abbrev pub AreLegalBehind : Start → List Item → Type 0
AreLegalBehind start [] = AreLegalTags (tags_behind start [])
AreLegalBehind start (item ∷ past) = AreLegalTags (tags_behind start (item ∷ past)) × SendsLegal item × AreLegalBehind start past

now-legal : (start : Start) (past : List Item) → AreLegalBehind start past → AreLegalTags (tags_behind start past)
now-legal start [] are = are
now-legal start (item ∷ past) are = are.0

earlier-legal : (start : Start) (later earlier : List Item) → AreLegalBehind start (later ++ earlier) → AreLegalTags (tags_behind start earlier)
earlier-legal start [] earlier are = now-legal start earlier are
earlier-legal start (item ∷ later) earlier are = earlier-legal start later earlier are.2

sent-legal : (start : Start) (later : List Item) (sent : Record) (earlier : List Item) → AreLegalBehind start (later ++ exchanged sent ∷ earlier)
    → IsLegalCommand sent.command
sent-legal start [] sent earlier are = are.1
sent-legal start (item ∷ later) sent earlier are = sent-legal start later sent earlier are.2

pub first-legal : (number : ℕ) (starts : List TagValue) → AreLegalTags starts → AreLegalTags (tags_behind_from number starts [])
first-legal number [] are = tt
first-legal number (start ∷ starts) are = (are.0, first-legal (number + 1) starts are.1)

-- a tag that misses a command or hears it is legal after it
outcome-legal : (misses : Bool) (command : Command) (tag : TagValue) → HeardLegal → IsLegalCommand command → IsLegalTag tag → IsLegalTag (outcome_unless misses command tag).tag
outcome-legal true command tag heard legal is = is
outcome-legal false command tag heard legal is = heard command tag.state tag.body legal is

pub outcomes-legal : (number : ℕ) (command : Command) (entry : Entry) (tags : List TagValue) → HeardLegal → StaysLegal → IsLegalCommand command → AreLegalTags tags
    → AreLegalTags (tags_after (outcomes_from number command entry tags))
outcomes-legal number command entry [] heard stays legal are = tt
outcomes-legal number command entry (tag ∷ tags) heard stays legal are = (
  outcome-legal (is_missed number entry) command (tag_after_events number entry.events tag) heard legal (events-legal number entry.events tag stays are.0),
  outcomes-legal (number + 1) command entry tags heard stays legal are.1,
)

befallen-legal : (number : ℕ) (event : Event) (befallen : ℕ) (tags : List TagValue) → Laws → AreLegalTags tags → AreLegalTags (tags_after_event number event befallen tags)
befallen-legal number event befallen [] laws are = tt
befallen-legal number event befallen (tag ∷ tags) laws are =
    (events-legal number ((event, befallen) ∷ []) tag laws.befallen are.0, befallen-legal (number + 1) event befallen tags laws are.1)

-- so they are behind each item
legal-sent : Laws → (start : Start) (round slot : ℕ) (command : Command) (past : List Item) → IsLegalCommand command → AreLegalBehind start past
    → AreLegalBehind start (past_behind_command start round slot command past)
legal-sent laws start round slot command past legal are = (
  subst AreLegalTags (sym (tags-exchanged start (next_record start round slot command past) past))
      (outcomes-legal 0 command (next_entry start past) (tags_behind start past) laws.heard laws.befallen legal (now-legal start past are)),
  legal,
  are,
)

legal-befell : Laws → (start : Start) (event : Event) (number : ℕ) (past : List Item) → AreLegalBehind start past → AreLegalBehind start (befell event number ∷ past)
legal-befell laws start event number past are =
    (subst AreLegalTags (sym (tags-befell start event number past)) (befallen-legal 0 event number (tags_behind start past) laws (now-legal start past are)), tt, are)

legal-operated : (start : Start) (round slot index : ℕ) (result : OpResult) (past : List Item) → AreLegalBehind start past
    → AreLegalBehind start (operated round slot index result ∷ past)
legal-operated start round slot index result past are = (subst AreLegalTags (sym (tags-operated start round slot index result past)) (now-legal start past are), tt, are)

legal-ended : (start : Start) (round : ℕ) (end : RoundEnd) (slots : ℕ) (past : List Item) → AreLegalBehind start past → AreLegalBehind start (ended round end slots ∷ past)
legal-ended start round end slots past are = (subst AreLegalTags (sym (tags-ended start round end slots past)) (now-legal start past are), tt, are)

-- what the channel gives of the answers of legal tags is in its ranges
given-legal : Laws → (start : Start) (command : Command) (entry : Entry) (tags : List TagValue) → AreLegalTags tags → IsGiven (given_in start.link start.several command entry tags)
given-legal laws start command entry tags legal =
    given-of-answers (λ sent. IsSent (Some sent)) start command entry tags (λ tag lawful sent is. laws.range command tag.state tag.body sent lawful is) laws.befallen legal

-- a whole reply is one that is expected
whole-suits : (expected : Bool) (expect : Expect) (sent : Sent) (reply : Reply) → is_expected expect sent ≡ expected → IsSent (Some sent)
    → (if expected then whole_reply sent.reply else no_such_reply) ≡ whole_reply reply → Suits reply expect × IsReply reply
whole-suits true expect sent reply is range heard =
    let same : sent.reply ≡ reply = cc in
    let suit : Suits sent.reply expect = suits-true sent.reply expect (and_parts (suits sent.reply expect) (has_handle sent.reply sent.handle (handle_of expect)) is).0 in
    (subst (λ (r : Reply). Suits r expect) same suit, subst IsReply same range.0)
whole-suits false expect sent reply is range heard = absurd (cc)

-- ... also where the levels are a raw stream
received-suits : (code : Code) (trext : Bool) (expect : Expect) (levels : List Bool) (reply : Reply) → reception_from (received_of code trext expect levels) ≡ whole_reply reply
    → Suits reply expect × IsReply reply
received-suits code trext expect levels reply heard =
    let whole_is = from_whole (received_of code trext expect levels) reply heard in
    let is : IsReceived (table_of code) trext expect levels (Whole reply) =
    subst (λ (r : Received). IsReceived (table_of code) trext expect levels r) whole_is (received_there code trext expect levels) in
    (is.answers.suits, is.answers.in_range)

reception-suits : (expect : Expect) (given : Given) (reply : Reply) → IsGiven given → reception_of expect given ≡ whole_reply reply → Suits reply expect × IsReply reply
reception-suits expect (whole replied) reply range heard = whole-suits (is_expected expect replied.sent) expect replied.sent reply refl range heard
reception-suits expect (raw code trext levels) reply range heard = received-suits code trext expect levels reply heard
reception-suits expect given reply range heard = absurd (cc)

whole-awaited : (awaited : Bool) (reception : Reception) (reply : Reply) → (if awaited then reception else no_such_reply) ≡ whole_reply reply → reception ≡ whole_reply reply
whole-awaited true reception reply heard = heard
whole-awaited false reception reply heard = absurd (cc)

awaited-suits : (trext extended : Bool) (expect : Expect) (given : Given) (reply : Reply) → IsGiven given → reception_with trext extended expect given ≡ whole_reply reply
    → Suits reply expect × IsReply reply
awaited-suits trext extended expect (whole replied) reply range heard =
    reception-suits expect (whole replied) reply range (whole-awaited (has_preamble trext extended replied.sent) (reception_of expect (whole replied)) reply heard)
awaited-suits trext extended expect (raw code own levels) reply range heard = received-suits code (extended || own) expect levels reply heard
awaited-suits trext extended expect given reply range heard = absurd (cc)

-- what is made of an answer is this
record IsAnswered (expect : Expect) (reception : Reception) : Type 0 where
  pub answer : Answer
  pub fits : IsAnswerFor expect answer
  pub is : reception_in answer ≡ reception

answer-for : (expect : Expect) (reception : Reception) → ((reply : Reply) → reception ≡ whole_reply reply → Suits reply expect × IsReply reply) → IsAnswered expect reception
answer-for expect no_stream suit = record { answer = Silence; fits = tt; is = refl }
answer-for expect (whole_reply reply) suit = record { answer = Got (Whole reply); fits = suit reply refl; is = refl }
answer-for expect no_such_reply suit = record { answer = Got (Refused 0); fits = tt; is = refl }

-- within a dialogue: what is left of it is what comes behind some moves
record InDialogue (start : Start) (list : OpList) (epc : List ℕ) (rn : ℕ) (left : Dialogue) (past : List Item) : Type 0 where
  pub legal : AreLegalBehind start past
  pub moves : List Move
  pub are : AreMoves list epc rn moves
  pub left_is : dialogue_after list epc rn moves ≡ left

dialogue-legal : Laws → (at : SlotOfRun) (list : OpList) (epc : List ℕ) (rn : ℕ) (past : List Item) → AllByRecursion IsLegalOp list.ops → IsWord rn → AreLegalBehind at.start past
    → AreLegalBehind at.start (past_behind_dialogue at.start at.round at.slot 1 (dialogue_of list epc rn) past)
dialogue-legal laws at list epc rn past ops word legal =
    let start = at.start in
    dialogue-holds (λ index left now. InDialogue start list epc rn left now) (AreLegalBehind start) at
    (record {
      command = λ index command expect extended go_on now here.
          let next : next_operation list epc rn here.moves ≡ Send command expect extended = ap first_of here.left_is in
          let given : Given = (next_record start at.round at.slot command now).given in
          let range : IsGiven given = given-legal laws start command (next_entry start now) (tags_behind start now) (now-legal start now here.legal) in
          let came : IsAnswered expect (operation_reception start at.round at.slot command expect extended now) =
          answer-for expect (operation_reception start at.round at.slot command expect extended now)
          (λ reply heard. awaited-suits start.link.trext extended expect given reply range heard) in
          record {
            legal = legal-sent laws start at.round at.slot command now (laws.operations list epc rn here.moves command expect extended ops word here.are next) here.legal;
            moves = answered came.answer ∷ here.moves;
            are = (subst (λ (n : OpNext). IsMoveFor n (answered came.answer)) (sym next) came.fits, here.are);
            left_is = ap (λ (d : Dialogue). dialogue_behind (answered came.answer) d) here.left_is ∙ ap go_on came.is;
          };
      result = λ index result later now here.
          let next : next_operation list epc rn here.moves ≡ Result result = ap first_of here.left_is in
          record {
            legal = legal-operated start at.round at.slot index result now here.legal;
            moves = told ∷ here.moves;
            are = (subst (λ (n : OpNext). IsMoveFor n told) (sym next) tt, here.are);
            left_is = ap (λ (d : Dialogue). dialogue_behind told d) here.left_is;
          };
      end = λ index now here. here.legal;
    })
    1 (dialogue_of list epc rn) past (record { legal = legal; moves = []; are = tt; left_is = refl })

ack-legal : Laws → (at : SlotOfRun) (operations : OpList) (rn : ℕ) (past : List Item) → AllByRecursion IsLegalOp operations.ops → IsWord rn → AreLegalBehind at.start past
    → AreLegalBehind at.start (past_behind_ack at.start operations at.round at.slot rn past)
ack-legal laws at operations rn past ops word legal =
    let sent = past_behind_command at.start at.round at.slot (commands.Ack rn) past in
    let behind : AreLegalBehind at.start sent = legal-sent laws at.start at.round at.slot (commands.Ack rn) past word legal in
    listing-holds (AreLegalBehind at.start) at operations rn (ack_reception at.start at.round at.slot rn past) sent behind
    (λ pc epc is. dialogue-legal laws at operations epc rn sent ops word behind)

slot-legal : Laws → (at : SlotOfRun) (operations : OpList) (command : Command) (past : List Item) → AllByRecursion IsLegalOp operations.ops → IsLegalCommand command
    → AreLegalBehind at.start past → AreLegalBehind at.start (past_behind_slot at.start operations at.round at.slot command past)
slot-legal laws at operations command past ops lawful legal =
    let start = at.start in
    let sent = past_behind_command start at.round at.slot command past in
    let behind : AreLegalBehind start sent = legal-sent laws start at.round at.slot command past lawful legal in
    let given : Given = (next_record start at.round at.slot command past).given in
    let range : IsGiven given = given-legal laws start command (next_entry start past) (tags_behind start past) (now-legal start past legal) in
    answer-holds (AreLegalBehind start) at operations (slot_reception start at.round at.slot command past) sent behind
    (λ rn heard. ack-legal laws at operations rn sent ops (reception-suits expects.Rn16 given (replies.Rn16 rn) range heard).1 behind)

round-legal : Laws → (start : Start) (operations : OpList) (spec : SpecValue) (past : List Item) → AllByRecursion IsLegalOp operations.ops → IsLegalSpec spec
    → AreLegalBehind start past → AreLegalBehind start (past_behind_round start operations spec past)
round-legal laws start operations spec past ops lawful legal =
    let round = rounds_in past + 1 in
    round-holds (λ outcomes now. AreLegalBehind start now) (AreLegalBehind start) (record { start = start; operations = operations; spec = spec; before = past })
    laws.limit lawful
    (record {
      slot = λ outcomes now command next holds.
          slot-legal laws (record { start = start; round = round; slot = length outcomes + 1 }) operations command now ops (subst IsLegalNext next.is (laws.rounds spec start.link outcomes lawful)) holds;
      end = λ outcomes now end next holds. legal-ended start round end (length outcomes) now holds;
    })
    legal

step-legal : Laws → (start : Start) (version : Version) (tags : ℕ) (step : Step) (past : List Item) → IsStep version tags step → AreLegalBehind start past
    → AreLegalBehind start (past_behind_step start step past)
step-legal laws start version tags (steps.Select command) past is legal = legal-sent laws start 0 0 command past (selection-legal version tags command is) legal
step-legal laws start version tags steps.Nak past is legal = legal-sent laws start 0 0 commands.Nak past tt legal
step-legal laws start version tags (steps.Event event number) past is legal = legal-befell laws start event number past legal
step-legal laws start version tags (steps.Round spec operations) past is legal =
    round-legal laws start operations spec past (recursion_from_All IsLegalOp operations.ops is.1.ops) is.0.legal legal

history-legal : Laws → (scenario : Scenario) → IsScenario scenario → AreLegalBehind (start_of scenario) (history scenario)
history-legal laws scenario is =
    let start = start_of scenario in
    let version = scenario.version in
    let tags = length (tags_of scenario.groups) in
    steps-hold (AreLegalBehind start) (IsStep version tags) start (step-legal laws start version tags) scenario.steps [] (recursion_from_All (IsStep version tags) scenario.steps is.steps)
    (first-legal 0 start.tags (start-legal laws.copies scenario is))

-- the tags behind each past of the history of a scenario
pub past-legal : Laws → (scenario : Scenario) (later earlier : List Item) → IsScenario scenario → history scenario ≡ later ++ earlier
    → AreLegalTags (tags_behind (start_of scenario) earlier)
past-legal laws scenario later earlier is split =
    earlier-legal (start_of scenario) later earlier (subst (AreLegalBehind (start_of scenario)) split (history-legal laws scenario is))

-- the commands of the history of a scenario
pub command-legal : Laws → (scenario : Scenario) (sent : Record) (earlier : List Item) → IsScenario scenario → IsRecordOf (history scenario) sent earlier
    → IsLegalCommand sent.command
command-legal laws scenario sent earlier is recorded =
    sent-legal (start_of scenario) recorded.later sent earlier (subst (AreLegalBehind (start_of scenario)) recorded.is (history-legal laws scenario is))
