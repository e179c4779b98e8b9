-- A history grows by what comes next alone, and stops where nothing does.
use Rattle.runs.proofs.Names.{◌≡◌, ℕ, suc, ◌+◌, ◌==◌, Bool, true, false, List, [], ◌∷◌, ◌++◌, length, map, Option, Some, None, slice_get, refl, ap, sym, ◌∙◌, subst, arith, add-one, ne_eqb, eq-eqb}
use Rattle.runs.proofs.Names.{◌⊎◌, inl, inr, append-nil, AwaitsReplies, Expects, Dialogue, sends, tells, done, OpList, Start, Record, Item, exchanged, operated, ended, next_record}
use Rattle.runs.proofs.Names.{past_behind_command, rounds_in, Reception, IsSelect, IsLegalStep, AreLegalSteps, begins_slot, begins_slot_of, slot_records, rounds_of, outcome_of, operation_reception}
use Rattle.runs.proofs.Names.{past_behind_dialogue, dialogue_begun, ack_reception, past_behind_ack, past_behind_answer, slot_reception, past_behind_round, past_behind_step, past_behind, history_of}
use Rattle.runs.proofs.Names.{finished_in, reception_of_slot, outcomes_of_round, rn_of, rn_received, item_by_rule, dialogue_behind_record, dialogue_behind_result, dialogue_behind_exchange}
use Rattle.runs.proofs.Names.{dialogue_left, results_behind_exchange, results_told_in, item_of_slots, item_in_round, item_of_step, next_item, GrowsByNext, Command, SpecValue, IsLegalSpec, Outcome}
use Rattle.runs.proofs.Names.{Next, RoundEnd, Expect, Step}
use Rattle.command_grammar.specs.declared.commands.Command.TheVariants as commands
use Rattle.q_round.specs.declared.round.RoundEnd.TheVariants as round_ends
use Rattle.scenario.specs.declared.values.Step.TheVariants as steps
use Rattle.runs.proofs.Growth.{Grows, grows-more, RoundsKeepLimit, dialogue-holds, begun-awaits, answer-cases, next_at_end, round-holds}
use Rattle.runs.proofs.HeadlineLines.{and-true}
use Rattle.runs.proofs.HeadlineSlots.{no-slots, next-begins, expects-begins-none}
use Rattle.runs.proofs.OtherRounds.{Adds, adds-none, adds-on, step-adds}
use Rattle.runs.proofs.RoundsAmong.{none-of-later}

-- a round that is under way: the step of a run that it is, behind so many finished steps and so many ended rounds
record UnderWay : Type 0 where
  pub start : Start
  pub all : List Step
  pub finished : ℕ
  pub rounds : ℕ
  pub spec : SpecValue
  pub operations : OpList
  pub at : slice_get all finished ≡ Some (steps.Round spec operations)

-- within the round: the past so far, with the outcomes of its slots, the RN16 that was just received, and what is left of the dialogue
-- with the tag that was listed last
record Inside (on : UnderWay) (outcomes : List Outcome) (received : Option ℕ) (left : Dialogue) (past : List Item) : Type 0 where
  pub grows : GrowsByNext on.start on.all past
  pub finished_is : finished_in past ≡ on.finished
  pub rounds_are : rounds_in past ≡ on.rounds
  pub outcomes_are : outcomes_of_round (on.rounds + 1) past ≡ outcomes
  pub received_is : rn_received past ≡ received
  pub left_is : dialogue_left on.start on.operations past ≡ left

-- what comes next within a round
next-inside : (on : UnderWay) (outcomes : List Outcome) (received : Option ℕ) (left : Dialogue) (past : List Item) → Inside on outcomes received left past
    → next_item on.start on.all past ≡ Some (item_in_round on.start on.spec (on.rounds + 1) outcomes past left)
next-inside on outcomes received left past inside =
    let start = on.start in
    let spec = on.spec in
    ap (λ n. item_of_step start past (slice_get on.all n)) inside.finished_is
    ∙ ap (λ (step : Option Step). item_of_step start past step) on.at
    ∙ ap (λ n. Some (item_in_round start spec (n + 1) (outcomes_of_round (n + 1) past) past (dialogue_left start on.operations past))) inside.rounds_are
    ∙ ap (λ (o : List Outcome). Some (item_in_round start spec (on.rounds + 1) o past (dialogue_left start on.operations past))) inside.outcomes_are
    ∙ ap (λ (dialogue : Dialogue). Some (item_in_round start spec (on.rounds + 1) outcomes past dialogue)) inside.left_is

-- ... where no operation is left
next-of-slots : (on : UnderWay) (outcomes : List Outcome) (received : Option ℕ) (past : List Item) → Inside on outcomes received done past
    → next_item on.start on.all past ≡ Some (item_of_slots on.start on.spec (on.rounds + 1) outcomes past received)
next-of-slots on outcomes received past inside =
    next-inside on outcomes received done past inside
    ∙ ap (λ (rn : Option ℕ). Some (item_of_slots on.start on.spec (on.rounds + 1) outcomes past rn)) inside.received_is

-- the exchanges of a round finish no step
round-unfinished : (sent : Record) (past : List Item) (rounds : ℕ) → sent.round ≡ rounds + 1 → finished_in (exchanged sent ∷ past) ≡ finished_in past
round-unfinished sent past rounds is =
    let other : (sent.round == 0) ≡ false = ne_eqb sent.round 0 (λ none. absurd (omega (arith, is, none))) in
    rw other refl

-- a slot command begins no dialogue
slot-done : (start : Start) (operations : OpList) (sent : Record) (command : Command) → begins_slot command ≡ true
    → dialogue_behind_exchange start operations sent command done ≡ done
slot-done start operations sent (commands.Ack rn) begins = absurd (cc)
slot-done start operations sent command begins = refl

-- a slot command of the round: it brings one outcome more, and an RN16 or none
inside-sent : (on : UnderWay) (outcomes : List Outcome) (past : List Item) (command : Command)
    → begins_slot command ≡ true → next_item on.start on.all past ≡ Some (exchanged (next_record on.start (on.rounds + 1) (length outcomes + 1) command past))
    → Inside on outcomes None done past
    → Inside on (outcome_of (slot_reception on.start (on.rounds + 1) (length outcomes + 1) command past) ∷ outcomes)
    (rn_of (slot_reception on.start (on.rounds + 1) (length outcomes + 1) command past)) done
    (past_behind_command on.start (on.rounds + 1) (length outcomes + 1) command past)
inside-sent on outcomes past command begins next inside =
    let round : ℕ = on.rounds + 1 in
    let sent = next_record on.start round (length outcomes + 1) command past in
    let this : begins_slot_of round sent ≡ true = and-true (begins_slot command) (round == round) begins (eq-eqb round round refl) in
    let slots : slot_records round (exchanged sent ∷ past) ≡ sent ∷ slot_records round past = rw this refl in
    record {
      grows = (next, inside.grows);
      finished_is = round-unfinished sent past on.rounds refl ∙ inside.finished_is;
      rounds_are = inside.rounds_are;
      outcomes_are = ap (λ (sents : List Record). map (λ sent. outcome_of (reception_of_slot sent)) sents) slots
          ∙ ap (λ (o : List Outcome). outcome_of (reception_of_slot sent) ∷ o) inside.outcomes_are;
      received_is = rw begins refl;
      left_is = ap (λ (dialogue : Dialogue). dialogue_behind_exchange on.start on.operations sent command dialogue) inside.left_is
          ∙ slot-done on.start on.operations sent command begins;
    }

-- an exchange of the round begins no slot, comes next, and leaves this of the dialogue
record IsBetweenSlots (on : UnderWay) (left : Dialogue) (past : List Item) (sent : Record) : Type 0 where
  pub round_is : sent.round ≡ on.rounds + 1
  pub begins_none : begins_slot sent.command ≡ false
  pub next : next_item on.start on.all past ≡ Some (exchanged sent)
  pub left_is : dialogue_left on.start on.operations (exchanged sent ∷ past) ≡ left

-- ... it brings no outcome, and no RN16 of a slot
inside-exchange : (on : UnderWay) (outcomes : List Outcome) (received : Option ℕ) (left now_left : Dialogue) (past : List Item) (sent : Record)
    → IsBetweenSlots on now_left past sent → Inside on outcomes received left past → Inside on outcomes None now_left (exchanged sent ∷ past)
inside-exchange on outcomes received left now_left past sent between inside =
    let none = between.begins_none in
    let slots : slot_records (on.rounds + 1) (exchanged sent ∷ past) ≡ slot_records (on.rounds + 1) past = rw none refl in
    record {
      grows = (between.next, inside.grows);
      finished_is = round-unfinished sent past on.rounds between.round_is ∙ inside.finished_is;
      rounds_are = inside.rounds_are;
      outcomes_are = ap (λ (sents : List Record). map (λ sent. outcome_of (reception_of_slot sent)) sents) slots ∙ inside.outcomes_are;
      received_is = rw none refl;
      left_is = between.left_is;
    }

-- a command of an operation goes on with the dialogue
goes-on : (start : Start) (operations : OpList) (sent : Record) (command : Command) (expect : Expect) (extended : Bool) (left : Dialogue) → Expects command expect extended
    → dialogue_behind_exchange start operations sent command left ≡ dialogue_behind_record start sent left
goes-on start operations sent (commands.Ack rn) expect extended left suits = absurd suits
goes-on start operations sent command expect extended left suits = refl

-- ... and tells no result
tells-none : (command : Command) (expect : Expect) (extended : Bool) (told : ℕ) → Expects command expect extended → results_behind_exchange command told ≡ told
tells-none (commands.Ack rn) expect extended told suits = absurd suits
tells-none command expect extended told suits = refl

-- within a dialogue, whose next result has this number
record InDialogue (on : UnderWay) (outcomes : List Outcome) (index : ℕ) (left : Dialogue) (past : List Item) : Type 0 where
  pub inside : Inside on outcomes None left past
  pub told_is : results_told_in past + 1 ≡ index
  pub awaits : AwaitsReplies left

-- a dialogue grows by what comes next alone
inside-dialogue : (on : UnderWay) (outcomes : List Outcome) (slot index : ℕ) (left : Dialogue) (past : List Item)
    → length outcomes ≡ slot → InDialogue on outcomes index left past
    → Inside on outcomes None done (past_behind_dialogue on.start (on.rounds + 1) slot index left past)
inside-dialogue on outcomes slot index left past count holds =
    let start = on.start in
    let round : ℕ = on.rounds + 1 in
    dialogue-holds (InDialogue on outcomes) (Inside on outcomes None done) (record { start = start; round = round; slot = slot })
    (record {
      command = λ index command expect extended go_on now here.
          let sent = next_record start round slot command now in
          let suits : Expects command expect extended = here.awaits.0 in
          record {
            inside = inside-exchange on outcomes None (sends command expect extended go_on)
                (go_on (operation_reception start round slot command expect extended now)) now sent
                (record {
                  round_is = refl;
                  begins_none = expects-begins-none command expect extended suits;
                  next = next-inside on outcomes None (sends command expect extended go_on) now here.inside ∙ ap (λ n. Some (exchanged (next_record start round n command now))) count;
                  left_is = ap (λ (dialogue : Dialogue). dialogue_behind_exchange start on.operations sent command dialogue) here.inside.left_is
                      ∙ goes-on start on.operations sent command expect extended (sends command expect extended go_on) suits;
                })
                here.inside;
            told_is = ap (λ n. n + 1) (tells-none command expect extended (results_told_in now) suits) ∙ here.told_is;
            awaits = here.awaits.1 _;
          };
      result = λ index result later now here. record {
        inside = record {
          grows = (
            next-inside on outcomes None (tells result later) now here.inside
                ∙ ap (λ n. Some (operated round n (results_told_in now + 1) result)) count
                ∙ ap (λ n. Some (operated round slot n result)) here.told_is,
            here.inside.grows,
          );
          finished_is = here.inside.finished_is;
          rounds_are = here.inside.rounds_are;
          outcomes_are = here.inside.outcomes_are;
          received_is = refl;
          left_is = ap dialogue_behind_result here.inside.left_is;
        };
        told_is = ap (λ n. n + 1) here.told_is;
        awaits = here.awaits;
      };
      end = λ index now here. here.inside;
    })
    index left past holds

-- the ACK that follows a whole RN16, and what follows it
inside-ack : (on : UnderWay) (outcomes : List Outcome) (slot rn : ℕ) (past : List Item) → length outcomes ≡ slot → Inside on outcomes (Some rn) done past
    → Inside on outcomes None done (past_behind_ack on.start on.operations (on.rounds + 1) slot rn past)
inside-ack on outcomes slot rn past count inside =
    let start = on.start in
    let round : ℕ = on.rounds + 1 in
    let sent = next_record start round slot (commands.Ack rn) past in
    let begun = dialogue_begun on.operations rn (ack_reception start round slot rn past) in
    inside-dialogue on outcomes slot 1 begun (exchanged sent ∷ past) count
    (record {
      inside = inside-exchange on outcomes (Some rn) done begun past sent
          (record {
            round_is = refl;
            begins_none = refl;
            next = next-of-slots on outcomes (Some rn) past inside ∙ ap (λ n. Some (exchanged (next_record start round n (commands.Ack rn) past))) count;
            left_is = refl;
          })
          inside;
      told_is = refl;
      awaits = begun-awaits on.operations rn (ack_reception start round slot rn past);
    })

inside-answer : (on : UnderWay) (outcomes : List Outcome) (slot : ℕ) (reception : Reception) (past : List Item) → length outcomes ≡ slot → Inside on outcomes (rn_of reception) done past
    → Inside on outcomes None done (past_behind_answer on.start on.operations (on.rounds + 1) slot reception past)
inside-answer on outcomes slot reception past count inside =
    answer-cases (Inside on outcomes None done) (record { start = on.start; round = on.rounds + 1; slot = slot }) on.operations reception past
    (λ none. subst (λ (received : Option ℕ). Inside on outcomes received done past) none inside)
    (λ rn is. inside-ack on outcomes slot rn past count (subst (λ (reception : Reception). Inside on outcomes (rn_of reception) done past) is inside))

-- what a step leaves, behind so many finished ones
record Behind (start : Start) (all : List Step) (finished : ℕ) (past : List Item) : Type 0 where
  pub grows : GrowsByNext start all past
  pub finished_is : finished_in past ≡ finished
  pub received_is : rn_received past ≡ None
  pub over : (operations : OpList) → dialogue_left start operations past ≡ done

-- between steps: so, and so many rounds are past
record Between (start : Start) (all : List Step) (finished : ℕ) (past : List Item) : Type 0 where
  pub behind : Behind start all finished past
  pub rounds : ℕ
  pub added : Adds [] past rounds

end-item : (start : Start) (round : ℕ) (outcomes : List Outcome) (past : List Item) (end : RoundEnd)
    → item_by_rule start round outcomes past (next_at_end end) ≡ ended round end (length outcomes)
end-item start round outcomes past round_ends.Quiet = refl
end-item start round outcomes past round_ends.Limit = refl

round-grows : RoundsKeepLimit → (start : Start) (all : List Step) (finished : ℕ) (past : List Item) (spec : SpecValue) (operations : OpList) → IsLegalSpec spec
    → slice_get all finished ≡ Some (steps.Round spec operations) × Between start all finished past → Behind start all (finished + 1) (past_behind_round start operations spec past)
round-grows keeps start all finished past spec operations legal (at, between) =
    let rounds : ℕ = rounds_in past in
    let on : UnderWay = record { start = start; all = all; finished = finished; rounds = rounds; spec = spec; operations = operations; at = at } in
    round-holds (λ outcomes now. Inside on outcomes None done now) (λ now. Behind start all (finished + 1) now)
    (record { start = start; operations = operations; spec = spec; before = past }) keeps legal
    (record {
      slot = λ outcomes now command does inside.
          let slot : ℕ = length outcomes + 1 in
          let begins : begins_slot command ≡ true = next-begins spec start.link outcomes command does.is in
          let next : next_item start all now ≡ Some (exchanged (next_record start (rounds + 1) slot command now)) =
          next-of-slots on outcomes None now inside ∙ ap (λ (next : Next). Some (item_by_rule start (rounds + 1) outcomes now next)) does.is in
          let reception = slot_reception start (rounds + 1) slot command now in
          inside-answer on (outcome_of reception ∷ outcomes) slot reception (past_behind_command start (rounds + 1) slot command now)
          (sym (add-one (length outcomes)))
          (inside-sent on outcomes now command begins next inside);
      end = λ outcomes now end does inside. record {
        grows = (
          next-of-slots on outcomes None now inside
              ∙ ap (λ (next : Next). Some (item_by_rule start (rounds + 1) outcomes now next)) does.is
              ∙ ap (λ (item : Item). Some item) (end-item start (rounds + 1) outcomes now end),
          inside.grows,
        );
        finished_is = ap (λ n. n + 1) inside.finished_is;
        received_is = refl;
        over = λ other. refl;
      };
    })
    (record {
      grows = between.behind.grows;
      finished_is = between.behind.finished_is;
      rounds_are = refl;
      outcomes_are = ap (λ (sents : List Record). map (λ sent. outcome_of (reception_of_slot sent)) sents)
          (no-slots (rounds + 1) past (none-of-later past between.rounds (rounds + 1) between.added (omega (arith, between.added.rounds_are))));
      received_is = between.behind.received_is;
      left_is = between.behind.over operations;
    })

-- a Select begins no slot
pub select-begins-none : (command : Command) → IsSelect command → begins_slot command ≡ false
select-begins-none (commands.Select target action bank pointer mask) is = refl
select-begins-none command is = absurd is

-- ... and no dialogue
select-done : (start : Start) (operations : OpList) (sent : Record) (command : Command) → IsSelect command
    → dialogue_behind_exchange start operations sent command done ≡ done
select-done start operations sent (commands.Ack rn) is = absurd is
select-done start operations sent command is = refl

-- what comes next between steps
next-between : (start : Start) (all : List Step) (finished : ℕ) (past : List Item) (step : Option Step) → slice_get all finished ≡ step → Between start all finished past
    → next_item start all past ≡ item_of_step start past step
next-between start all finished past step at between =
    ap (λ n. item_of_step start past (slice_get all n)) between.behind.finished_is ∙ ap (λ (s : Option Step). item_of_step start past s) at

step-grows-by-next : RoundsKeepLimit → (start : Start) (all : List Step) (finished : ℕ) (past : List Item) (step : Step) → IsLegalStep step
    → slice_get all finished ≡ Some step → Between start all finished past → Behind start all (finished + 1) (past_behind_step start step past)
step-grows-by-next keeps start all finished past (steps.Select command) legal at between =
    let none : begins_slot command ≡ false = select-begins-none command legal in
    record {
      grows = (next-between start all finished past (Some (steps.Select command)) at between, between.behind.grows);
      finished_is = ap (λ n. n + 1) between.behind.finished_is;
      received_is = rw none refl;
      over = λ operations.
          ap (λ (dialogue : Dialogue). dialogue_behind_exchange start operations (next_record start 0 0 command past) command dialogue) (between.behind.over operations)
          ∙ select-done start operations (next_record start 0 0 command past) command legal;
    }
step-grows-by-next keeps start all finished past steps.Nak legal at between = record {
  grows = (next-between start all finished past (Some steps.Nak) at between, between.behind.grows);
  finished_is = ap (λ n. n + 1) between.behind.finished_is;
  received_is = refl;
  over = λ operations. ap (λ (dialogue : Dialogue). dialogue_behind_record start (next_record start 0 0 commands.Nak past) dialogue) (between.behind.over operations);
}
step-grows-by-next keeps start all finished past (steps.Event event number) legal at between = record {
  grows = (next-between start all finished past (Some (steps.Event event number)) at between, between.behind.grows);
  finished_is = ap (λ n. n + 1) between.behind.finished_is;
  received_is = refl;
  over = λ operations. refl;
}
step-grows-by-next keeps start all finished past (steps.Round spec operations) legal at between =
    round-grows keeps start all finished past spec operations legal.legal (at, between)

-- a run grows by what comes next, and nothing comes next where no step is left
record Ends (start : Start) (all : List Step) (history : List Item) : Type 0 where
  pub grows : GrowsByNext start all history
  pub ends : next_item start all history ≡ None

-- behind so many finished steps of all, these are left
abbrev AreLeft : List Step → ℕ → List Step → Type 0
AreLeft all finished left = (place more : ℕ) → place ≡ finished + more → slice_get all place ≡ slice_get left more

steps-grow-by-next : RoundsKeepLimit → (start : Start) (all left : List Step) (finished : ℕ) (past : List Item) → AreLegalSteps left → AreLeft all finished left
    → Between start all finished past → Ends start all (past_behind start left past)
steps-grow-by-next keeps start all [] finished past legal at between = record {
  grows = between.behind.grows;
  ends = next-between start all finished past None (at finished 0 (omega arith)) between;
}
steps-grow-by-next keeps start all (step ∷ left) finished past legal at between =
    let now = past_behind_step start step past in
    let behind : Behind start all (finished + 1) now = step-grows-by-next keeps start all finished past step legal.0 (at finished 0 (omega arith)) between in
    steps-grow-by-next keeps start all left (finished + 1) now legal.1 (λ place more is. at place (suc more) (omega (arith, is)))
    (record {
      behind = behind;
      rounds = between.rounds + rounds_of (step ∷ []);
      added = adds-on [] past now between.rounds (rounds_of (step ∷ [])) between.added (step-adds keeps start step past legal.0);
    })

history-ends : RoundsKeepLimit → (start : Start) (all : List Step) → AreLegalSteps all → Ends start all (history_of start all)
history-ends keeps start all legal =
    steps-grow-by-next keeps start all all 0 [] legal (λ place more is. ap (λ n. slice_get all n) (is ∙ omega arith))
    (record { behind = record { grows = tt; finished_is = refl; received_is = refl; over = λ operations. refl }; rounds = 0; added = adds-none [] })

pub history-grows : RoundsKeepLimit → (start : Start) (all : List Step) → AreLegalSteps all → GrowsByNext start all (history_of start all)
history-grows keeps start all legal = (history-ends keeps start all legal).grows

pub history-stops : RoundsKeepLimit → (start : Start) (all : List Step) → AreLegalSteps all → next_item start all (history_of start all) ≡ None
history-stops keeps start all legal = (history-ends keeps start all legal).ends

-- each item of it came next behind what was past
pub growth-at : (start : Start) (all : List Step) (later : List Item) (item : Item) (earlier : List Item) → GrowsByNext start all (later ++ item ∷ earlier)
    → next_item start all earlier ≡ Some item
growth-at start all [] item earlier grows = grows.0
growth-at start all (other ∷ later) item earlier grows = growth-at start all later item earlier grows.1

-- what was added to a past is nothing, or begins with an item
grown-of : (own past : List Item) → (own ++ past ≡ past) ⊎ ((later : List Item) × (item : Item) × (own ++ past ≡ later ++ item ∷ past))
grown-of [] past = inl refl
grown-of (latest ∷ own) past = elim (grown-of own past) [
  | inl same ↦ inr ([], latest, ap (λ (items : List Item). latest ∷ items) same)
  | inr more ↦ inr (latest ∷ more.0, more.1, ap (λ (items : List Item). latest ∷ items) more.2)
]

-- where a past has grown from another, behind which this item comes next, it is that one, or has grown from it and the item
further : (start : Start) (all : List Step) (first second : List Item) (item : Item) → Grows second first → GrowsByNext start all first → next_item start all second ≡ Some item
    → Grows first (item ∷ second) ⊎ Grows (item ∷ second) first
further start all first second item grown grows next = elim (grown-of grown.own second) [
  | inl same ↦ inl (record { own = item ∷ []; is = ap (λ (items : List Item). item ∷ items) (sym (grown.is ∙ same)) })
  | inr more ↦
      let is : first ≡ more.0 ++ more.1 ∷ second = grown.is ∙ more.2 in
      let both : Some more.1 ≡ Some item = sym (growth-at start all more.0 more.1 second (subst (λ (past : List Item). GrowsByNext start all past) is grows)) ∙ next in
      let one : more.1 ≡ item = cc in
      inr (record { own = more.0; is = is ∙ ap (λ (i : Item). more.0 ++ i ∷ second) one })
]

-- of two pasts that grow by what comes next one has grown from the other
pub fronts : (start : Start) (all : List Step) (first second : List Item) → GrowsByNext start all first → GrowsByNext start all second
    → Grows first second ⊎ Grows second first
fronts start all first [] left right = inr (record { own = first; is = sym (append-nil first) })
fronts start all first (item ∷ second) left right = elim (fronts start all first second left right.1) [
  | inl grown ↦ inl (grows-more first second item grown)
  | inr grown ↦ further start all first second item grown left right.0
]

-- what has grown from a past that stops is that past
stopped : (start : Start) (all : List Step) (past behind : List Item) → Grows past behind → GrowsByNext start all behind → next_item start all past ≡ None → past ≡ behind
stopped start all past behind grown grows stops = elim (grown-of grown.own past) [
  | inl same ↦ sym (grown.is ∙ same)
  | inr more ↦
      let both : None ≡ Some more.1 =
      sym stops ∙ growth-at start all more.0 more.1 past (subst (λ (items : List Item). GrowsByNext start all items) (grown.is ∙ more.2) grows) in
      absurd (cc)
]

-- the history is the one past that grows by what comes next and stops where nothing does
pub one-growth : (start : Start) (all : List Step) (first second : List Item) → GrowsByNext start all first → GrowsByNext start all second
    → next_item start all first ≡ None → next_item start all second ≡ None → first ≡ second
one-growth start all first second left right left_stops right_stops = elim (fronts start all first second left right) [
  | inl grown ↦ stopped start all first second grown right left_stops
  | inr grown ↦ sym (stopped start all second first grown left right_stops)
]
