-- The round and the slot of a run are the counts that an auditor keeps of its commands: at each ACK they are those of its record.
use Rattle.std.specs.Prelude.{if◌then◌else◌}
use Rattle.air_audit.proofs.Names.{◌≡◌, ◌≢◌, ◌+◌, ◌^◌, ◌<◌, ◌≤◌, ◌==◌, ◌&&◌, ℕ, Bool, true, false, zero, suc, List, [], ◌∷◌, length, Option, Some, None, slice_get, arith, ap, refl, sym, ◌∙◌, subst}
use Rattle.air_audit.proofs.Names.{ne_eqb, eq-eqb, OpResult, IsToldByLines, HasNoEventStep, Place, next_slot, place_in, place_of_command, Start, Record, Item, befell, exchanged, operated, ended}
use Rattle.air_audit.proofs.Names.{next_record, rounds_in, Command, LinkValue, RoundEnd, IsSelect, IsLegalStep, AreLegalSteps, begins_slot, slot_records, GrowsByNext, dialogue_left}
use Rattle.air_audit.proofs.Names.{dialogue_behind_exchange, dialogue_behind_record, dialogue_behind_result, item_by_rule, item_in_round, item_of_slots, item_of_step, outcomes_of_round}
use Rattle.air_audit.proofs.Names.{reception_of_slot, rn_of, rn_received, finished_in, Step, length-map}
use Rattle.command_grammar.specs.declared.commands.Command.TheVariants as commands
use Rattle.access_ops.specs.declared.OpList.{OpList}
use Rattle.access_ops.proofs.DialogueLaws.{AwaitsReplies}
use Rattle.access_ops.specs.laws.OperationLaws.{Expects}
use Rattle.access_ops.specs.Operations.{Dialogue, sends, tells, done}
use Rattle.command_fields.specs.declared.choices.UpDn.TheVariants.{Up, Same, Down}
use Rattle.q_round.specs.Rounds.{adjust, rep, quiet, limit, all_silent, next_of_turn, course_of, goes_down, goes_up, next_command, qfp_of, refused_in}
use Rattle.q_round.specs.SpecValue.{SpecValue}
use Rattle.q_round.specs.declared.frame.Outcome.{Outcome}
use Rattle.q_round.specs.declared.round.Next.{Next}
use Rattle.q_round.specs.declared.round.Next.TheVariants as nexts
use Rattle.reply_grammar.specs.declared.expected.Expect.{Expect}
use Rattle.runs.proofs.Growth.{begun-awaits}
use Rattle.runs.proofs.HeadlineLines.{and-false, and-true}
use Rattle.runs.proofs.HeadlineNext.{select-begins-none}
use Rattle.runs.proofs.HeadlineSlots.{expects-begins-none, next-begins}
use Rattle.scenario.specs.declared.values.Step.TheVariants as steps

-- the command is an ACK
abbrev pub IsAck : Command → Type 0
IsAck (commands.Ack rn) = Unit {0}
IsAck command = ⊥

-- The place behind a past of so many finished rounds, where the next round has so many slots: the last round's where it has none.
abbrev IsPlace : (slots rounds : ℕ) → Place → Type 0
IsPlace zero rounds place = place.round ≡ rounds
IsPlace (suc slots) rounds place = place ≡ record { round = suc rounds; slot = suc slots }

-- how many slots of the round that isn't finished have begun
abbrev slots_begun : List Item → ℕ
slots_begun past = length (slot_records (rounds_in past + 1) past)

-- the counts behind a past are those of its rounds and slots
record Counts (past : List Item) : Type 0 where
  pub place : IsPlace (slots_begun past) (rounds_in past) (place_in past)
  pub later : (round : ℕ) → rounds_in past + 1 < round → slot_records round past ≡ []
  pub received : (rn : ℕ) → rn_received past ≡ Some rn → 1 ≤ slots_begun past

-- what is told of an item of a run without events: it is none, and an ACK is sent at the place that the counts say
abbrev pub IsInPlace : List Item → Item → Type 0
IsInPlace past (befell event number) = ⊥
IsInPlace past (exchanged sent) = IsAck sent.command → place_in past ≡ record { round = sent.round; slot = sent.slot }
IsInPlace past (operated round slot index result) = Unit {0}
IsInPlace past (ended round end slots) = Unit {0}

record GoesInPlace (past : List Item) (item : Item) : Type 0 where
  pub in_place : IsInPlace past item
  pub counts : Counts (item ∷ past)

-- a command that begins no slot leaves the place
place-kept : (place : Place) (command : Command) → begins_slot command ≡ false → place_of_command place command ≡ place
place-kept place (commands.Query dr line_code trext sel session target q) none = absurd (cc)
place-kept place (commands.QueryRep session) none = absurd (cc)
place-kept place (commands.QueryAdjust session updn) none = absurd (cc)
place-kept place command none = refl

-- neither a Select, a command of an operation nor one that begins a slot is an ACK
select-no-ack : (command : Command) → IsSelect command → IsAck command → ⊥
select-no-ack (commands.Ack rn) is ack = is
select-no-ack command is ack = ack

operation-no-ack : (command : Command) (expect : Expect) (extended : Bool) → Expects command expect extended → IsAck command → ⊥
operation-no-ack (commands.Ack rn) expect extended is ack = is
operation-no-ack command expect extended is ack = ack

slot-no-ack : (command : Command) → begins_slot command ≡ true → IsAck command → ⊥
slot-no-ack (commands.Ack rn) begins ack = cc
slot-no-ack command begins ack = ack

-- an exchange within a slot, or outside rounds, changes no count
within-none : (round : ℕ) (sent : Record) (past : List Item) → begins_slot sent.command ≡ false → slot_records round (exchanged sent ∷ past) ≡ slot_records round past
within-none round sent past none =
    ap (λ (begins : Bool). if begins && sent.round == round then sent ∷ slot_records round past else slot_records round past) none

within-counts : (sent : Record) (past : List Item) → begins_slot sent.command ≡ false → Counts past → Counts (exchanged sent ∷ past)
within-counts sent past none counts =
    let round = rounds_in past + 1 in
    let same : slots_begun (exchanged sent ∷ past) ≡ slots_begun past = ap length (within-none round sent past none) in
    let place : place_in (exchanged sent ∷ past) ≡ place_in past = place-kept (place_in past) sent.command none in
    record {
      place = subst (λ (here : Place). IsPlace (slots_begun (exchanged sent ∷ past)) (rounds_in past) here) (sym place)
          (subst (λ (slots : ℕ). IsPlace slots (rounds_in past) (place_in past)) (sym same) counts.place);
      later = λ other above. within-none other sent past none ∙ counts.later other above;
      received = λ rn is. absurd (nothing-received (begins_slot sent.command) sent rn none is);
    }
  where
    nothing-received : (begins : Bool) (sent : Record) (rn : ℕ) → begins ≡ false
        → (if begins then rn_of (reception_of_slot sent) else None) ≡ Some rn → ⊥
    nothing-received true sent rn none is = cc
    nothing-received false sent rn none is = cc

-- what the slot command of a round is, behind so many slots
abbrev IsSlotTurn : ℕ → Command → Type 0
IsSlotTurn zero (commands.Query dr line_code trext sel session target q) = Unit {0}
IsSlotTurn (suc slots) (commands.QueryRep session) = Unit {0}
IsSlotTurn (suc slots) (commands.QueryAdjust session updn) = Unit {0}
IsSlotTurn slots command = ⊥

turn-place : (slots rounds : ℕ) (command : Command) (place : Place) → IsSlotTurn slots command → IsPlace slots rounds place
    → IsPlace (suc slots) rounds (place_of_command place command)
turn-place zero rounds (commands.Query dr line_code trext sel session target q) place is here =
    let next : place.round + 1 ≡ suc rounds = omega arith in ap (λ (round : ℕ). record { round = round; slot = 1 }) next
turn-place (suc slots) rounds (commands.QueryRep session) place is here =
    let next : suc slots + 1 ≡ suc (suc slots) = omega arith in
    ap (λ (p : Place). next_slot p.round p.slot) here ∙ ap (λ (slot : ℕ). record { round = suc rounds; slot = slot }) next
turn-place (suc slots) rounds (commands.QueryAdjust session updn) place is here =
    let next : suc slots + 1 ≡ suc (suc slots) = omega arith in
    ap (λ (p : Place). next_slot p.round p.slot) here ∙ ap (λ (slot : ℕ). record { round = suc rounds; slot = slot }) next
turn-place zero rounds command place is here = absurd is
turn-place (suc slots) rounds command place is here = absurd is

-- a round begins with its Query, and goes on with no second one
sent-is : (one other : Command) → nexts.Send one ≡ nexts.Send other → one ≡ other
sent-is one other same = cc

turn-behind : (spec : SpecValue) (link : LinkValue) (slots : ℕ) (command : Command) (over full up down whole : Bool)
    → next_of_turn spec link (if over then quiet else if full then limit else if up then adjust Up else if down then adjust Down else if whole then adjust Same else rep) ≡ nexts.Send command
    → IsSlotTurn (suc slots) command
turn-behind spec link slots command true full up down whole is = absurd (cc)
turn-behind spec link slots command false true up down whole is = absurd (cc)
turn-behind spec link slots command false false true down whole is = subst (IsSlotTurn (suc slots)) (sent-is (commands.QueryAdjust spec.session Up) command is) tt
turn-behind spec link slots command false false false true whole is = subst (IsSlotTurn (suc slots)) (sent-is (commands.QueryAdjust spec.session Down) command is) tt
turn-behind spec link slots command false false false false true is = subst (IsSlotTurn (suc slots)) (sent-is (commands.QueryAdjust spec.session Same) command is) tt
turn-behind spec link slots command false false false false false is = subst (IsSlotTurn (suc slots)) (sent-is (commands.QueryRep spec.session) command is) tt

sent-turn : (spec : SpecValue) (link : LinkValue) (outcomes : List Outcome) (command : Command) → next_command spec link outcomes ≡ nexts.Send command
    → IsSlotTurn (length outcomes) command
sent-turn spec link [] command is =
    subst (IsSlotTurn zero) (sent-is (commands.Query link.dr link.code link.trext spec.sel spec.session spec.target spec.q) command is) tt
sent-turn spec link (outcome ∷ before) command is =
    let course = course_of spec before in
    let frame = outcome ∷ course.frame in
    let qfp = qfp_of spec (outcome ∷ before) in
    turn-behind spec link (length before) command (length frame == 2 ^ course.q && all_silent frame) (length before + 1 == spec.limit)
    (goes_up spec.rule course.q qfp (length frame) (refused_in frame)) (goes_down spec.rule course.q qfp (length frame) (refused_in frame)) (length frame == 2 ^ course.q) is

-- an end comes behind an outcome alone
abbrev IsEnd : Next → Type 0
IsEnd (nexts.Send command) = ⊥
IsEnd nexts.Quiet = Unit {0}
IsEnd nexts.Limit = Unit {0}

ends-late : (spec : SpecValue) (link : LinkValue) (outcomes : List Outcome) → IsEnd (next_command spec link outcomes) → 1 ≤ length outcomes
ends-late spec link [] end = absurd end
ends-late spec link (outcome ∷ before) end = omega arith

-- the slot command of a round begins its next slot, and no other round's
begun-here : (round : ℕ) (sent : Record) (past : List Item) → begins_slot sent.command ≡ true → sent.round ≡ round
    → slot_records round (exchanged sent ∷ past) ≡ sent ∷ slot_records round past
begun-here round sent past begins is = rw (and-true (begins_slot sent.command) (sent.round == round) begins (eq-eqb sent.round round is)) refl

begun-elsewhere : (round : ℕ) (sent : Record) (past : List Item) → sent.round ≢ round → slot_records round (exchanged sent ∷ past) ≡ slot_records round past
begun-elsewhere round sent past other = rw (and-false (begins_slot sent.command) (sent.round == round) (ne_eqb sent.round round other)) refl

slot-counts : (sent : Record) (past : List Item) → sent.round ≡ rounds_in past + 1 → begins_slot sent.command ≡ true → IsSlotTurn (slots_begun past) sent.command → Counts past
    → Counts (exchanged sent ∷ past)
slot-counts sent past here begins turn counts =
    let round : ℕ = rounds_in past + 1 in
    let more : slots_begun (exchanged sent ∷ past) ≡ suc (slots_begun past) = ap length (begun-here round sent past begins here) in
    record {
      place = subst (λ (slots : ℕ). IsPlace slots (rounds_in past) (place_of_command (place_in past) sent.command)) (sym more)
          (turn-place (slots_begun past) (rounds_in past) sent.command (place_in past) turn counts.place);
      later = λ other above. begun-elsewhere other sent past (λ same. omega arith) ∙ counts.later other above;
      received = λ rn is. omega arith;
    }

place-round : (slots rounds : ℕ) (place : Place) → 1 ≤ slots → IsPlace slots rounds place → place ≡ record { round = rounds + 1; slot = slots }
place-round zero rounds place some is = absurd (omega arith)
place-round (suc slots) rounds place some is =
    let next : suc rounds ≡ rounds + 1 = omega arith in is ∙ ap (λ (round : ℕ). record { round = round; slot = suc slots }) next

ended-counts : (round : ℕ) (end : RoundEnd) (slots : ℕ) (past : List Item) → 1 ≤ slots_begun past → Counts past → Counts (ended round end slots ∷ past)
ended-counts round end slots past some counts =
    let none : slots_begun (ended round end slots ∷ past) ≡ 0 = ap length (counts.later (rounds_in past + 1 + 1) (omega arith)) in
    let place : (place_in past).round ≡ rounds_in past + 1 = ap (λ (p : Place). p.round) (place-round (slots_begun past) (rounds_in past) (place_in past) some counts.place) in
    record {
      place = subst (λ (slots : ℕ). IsPlace slots (rounds_in past + 1) (place_in past)) (sym none) place;
      later = λ other above. counts.later other (omega arith);
      received = λ rn is. absurd (cc);
    }

operated-counts : (round slot index : ℕ) (result : OpResult) (past : List Item) → Counts past → Counts (operated round slot index result ∷ past)
operated-counts round slot index result past counts = record { place = counts.place; later = counts.later; received = λ rn is. absurd (cc) }

-- what the rule of a round gives next
rule-goes : (start : Start) (spec : SpecValue) (past : List Item) (outcomes : List Outcome) (next : Next) → length outcomes ≡ slots_begun past
    → next_command spec start.link outcomes ≡ next → Counts past → GoesInPlace past (item_by_rule start (rounds_in past + 1) outcomes past next)
rule-goes start spec past outcomes (nexts.Send command) few is counts =
    let turn : IsSlotTurn (slots_begun past) command = subst (λ (slots : ℕ). IsSlotTurn slots command) few (sent-turn spec start.link outcomes command is) in
    let begins = next-begins spec start.link outcomes command is in
    record {
      in_place = λ ack. absurd (slot-no-ack command begins ack);
      counts = slot-counts (next_record start (rounds_in past + 1) (length outcomes + 1) command past) past refl begins turn counts;
    }
rule-goes start spec past outcomes next few is counts =
    let some : 1 ≤ length outcomes = ends-late spec start.link outcomes (subst IsEnd (sym is) tt) in
    record { in_place = tt; counts = ended-counts _ _ _ past (omega arith) counts }

-- ... an ACK where an RN16 was received, and else that
slots-go : (start : Start) (spec : SpecValue) (past : List Item) (outcomes : List Outcome) (received : Option ℕ) → length outcomes ≡ slots_begun past
    → rn_received past ≡ received → Counts past → GoesInPlace past (item_of_slots start spec (rounds_in past + 1) outcomes past received)
slots-go start spec past outcomes (Some rn) few is counts = record {
  in_place = λ ack. place-round (slots_begun past) (rounds_in past) (place_in past) (counts.received rn is) counts.place
      ∙ ap (λ (slot : ℕ). record { round = rounds_in past + 1; slot = slot }) (sym few);
  counts = within-counts (next_record start (rounds_in past + 1) (length outcomes) (commands.Ack rn) past) past refl counts;
}
slots-go start spec past outcomes None few is counts = rule-goes start spec past outcomes (next_command spec start.link outcomes) few refl counts

-- ... and before these what is left of a dialogue
round-goes : (start : Start) (spec : SpecValue) (past : List Item) (outcomes : List Outcome) (dialogue : Dialogue) → length outcomes ≡ slots_begun past
    → AwaitsReplies dialogue → Counts past → GoesInPlace past (item_in_round start spec (rounds_in past + 1) outcomes past dialogue)
round-goes start spec past outcomes (sends command expect extended go_on) few awaits counts = record {
  in_place = λ ack. absurd (operation-no-ack command expect extended awaits.0 ack);
  counts = within-counts (next_record start (rounds_in past + 1) (length outcomes) command past) past (expects-begins-none command expect extended awaits.0) counts;
}
round-goes start spec past outcomes (tells result later) few awaits counts = record { in_place = tt; counts = operated-counts _ _ _ result past counts }
round-goes start spec past outcomes done few awaits counts = slots-go start spec past outcomes (rn_received past) few refl counts

-- the commands of what is left of a dialogue await replies of their kinds
record-awaits : (start : Start) (sent : Record) (dialogue : Dialogue) → AwaitsReplies dialogue → AwaitsReplies (dialogue_behind_record start sent dialogue)
record-awaits start sent (sends command expect extended go_on) awaits = awaits.1 _
record-awaits start sent (tells result later) awaits = tt
record-awaits start sent done awaits = tt

result-awaits : (dialogue : Dialogue) → AwaitsReplies dialogue → AwaitsReplies (dialogue_behind_result dialogue)
result-awaits (tells result later) awaits = awaits
result-awaits dialogue awaits = tt

exchange-awaits : (start : Start) (operations : OpList) (sent : Record) (command : Command) (dialogue : Dialogue) → AwaitsReplies dialogue
    → AwaitsReplies (dialogue_behind_exchange start operations sent command dialogue)
exchange-awaits start operations sent (commands.Ack rn) dialogue awaits = begun-awaits operations rn _
exchange-awaits start operations sent command dialogue awaits = record-awaits start sent dialogue awaits

left-awaits : (start : Start) (operations : OpList) (past : List Item) → AwaitsReplies (dialogue_left start operations past)
left-awaits start operations [] = tt
left-awaits start operations (befell event number ∷ past) = tt
left-awaits start operations (exchanged sent ∷ past) =
    exchange-awaits start operations sent sent.command (dialogue_left start operations past) (left-awaits start operations past)
left-awaits start operations (operated round slot index result ∷ past) = result-awaits (dialogue_left start operations past) (left-awaits start operations past)
left-awaits start operations (ended round end slots ∷ past) = tt

-- a step that is legal and no event, where one is left
abbrev IsOwnStep : Option Step → Type 0
IsOwnStep None = Unit {0}
IsOwnStep (Some step) = IsLegalStep step × IsToldByLines step

outside-goes : (start : Start) (command : Command) (past : List Item) (item : Item) → IsSelect command → Some (exchanged (next_record start 0 0 command past)) ≡ Some item
    → Counts past → GoesInPlace past item
outside-goes start command past item is same counts =
    let item_is : exchanged (next_record start 0 0 command past) ≡ item = cc in
    subst (GoesInPlace past) item_is (record {
      in_place = λ ack. absurd (select-no-ack command is ack);
      counts = within-counts (next_record start 0 0 command past) past (select-begins-none command is) counts;
    })

step-goes : (start : Start) (past : List Item) (step : Option Step) (item : Item) → IsOwnStep step → item_of_step start past step ≡ Some item → Counts past
    → GoesInPlace past item
step-goes start past None item own is counts = absurd (cc)
step-goes start past (Some (steps.Select command)) item own is counts = outside-goes start command past item own.0 is counts
step-goes start past (Some steps.Nak) item own is counts =
    let item_is : exchanged (next_record start 0 0 commands.Nak past) ≡ item = cc in
    subst (GoesInPlace past) item_is (record {
      in_place = λ ack. absurd ack;
      counts = within-counts (next_record start 0 0 commands.Nak past) past refl counts;
    })
step-goes start past (Some (steps.Event event number)) item own is counts = absurd own.1
step-goes start past (Some (steps.Round spec operations)) item own is counts =
    let round : ℕ = rounds_in past + 1 in
    let item_is : item_in_round start spec round (outcomes_of_round round past) past (dialogue_left start operations past) ≡ item = cc in
    subst (GoesInPlace past) item_is
    (round-goes start spec past (outcomes_of_round round past) (dialogue_left start operations past) (length-map (slot_records round past) _)
    (left-awaits start operations past) counts)

own-step : (steps : List Step) (place : ℕ) → AreLegalSteps steps → HasNoEventStep steps → IsOwnStep (slice_get steps place)
own-step [] place legal told = tt
own-step (step ∷ steps) zero legal told = (legal.0, told.0)
own-step (step ∷ steps) (suc place) legal told = own-step steps place legal.1 told.1

item-goes : (start : Start) (steps : List Step) (item : Item) (past : List Item) → AreLegalSteps steps → HasNoEventStep steps → GrowsByNext start steps (item ∷ past)
    → Counts past → GoesInPlace past item
item-goes start steps item past legal told grows counts =
    step-goes start past (slice_get steps (finished_in past)) item (own-step steps (finished_in past) legal told) grows.0 counts

counts-hold : (start : Start) (steps : List Step) (past : List Item) → AreLegalSteps steps → HasNoEventStep steps → GrowsByNext start steps past → Counts past
counts-hold start steps [] legal told grows = record { place = refl; later = λ round above. refl; received = λ rn is. absurd (cc) }
counts-hold start steps (item ∷ past) legal told grows =
    (item-goes start steps item past legal told grows (counts-hold start steps past legal told grows.1)).counts

-- each item of a run without events stands in its place
pub stands-in-place : (start : Start) (steps : List Step) (item : Item) (past : List Item) → AreLegalSteps steps → HasNoEventStep steps
    → GrowsByNext start steps (item ∷ past) → IsInPlace past item
stands-in-place start steps item past legal told grows =
    (item-goes start steps item past legal told grows (counts-hold start steps past legal told grows.1)).in_place
