-- What the steps of a run make of it.
use Rattle.std.proofs.Math.Nat.{mul-le-mul}
use Rattle.std.proofs.lemmas.List.{append-nil}
use Rattle.air_world.proofs.Names.{◌≡◌, ℕ, ◌+◌, ◌*◌, ◌≤◌, ◌<◌, List, ◌∷◌, length, drop, get_or, refl, sym, ◌∙◌, ap, subst, arith, All, AirValue, air_after_event, Event, Start, Item, befell}
use Rattle.air_world.proofs.Names.{exchanges_in, rounds_in, Begun, RunValue, RunIsAt, IsPlayable, StandsAt, most_in_round, most_in_slot, most_slots, lines_to_tell, ReportLine, Grows, RoundsKeepLimit}
use Rattle.air_world.proofs.Names.{steps-grow, round-holds, round-exchanges, legal-step, tags-befell, length-tags, most_operating, past_behind, past_behind_step, Step, drop_more, All-get_or}
use Rattle.air_world.proofs.Names.{AreLegalTags}
use Rattle.scenario.specs.declared.values.Step.TheVariants as steps
use Rattle.air_world.proofs.Rounds.{rounds-slot}

-- behind an event
pub stands-befell : {A : Type 0} {hears : A → List ReportLine → A → Type 0} {begun : Begun A} {past : List Item} {air : AirValue} {run : RunValue} {report : A} (event : Event) (number : ℕ)
    (next : AirValue) → StandsAt hears begun past air run report → next ≡ air_after_event air event number → AreLegalTags next.tags → StandsAt hears begun (befell event number ∷ past) next run report
stands-befell {hears} {begun} {past} {air} {report} event number next stands is legal =
    let was = stands.at in
    record {
      at = record {
        names = was.names;
        few = was.few;
        link = ap (λ (a : AirValue). a.link) is ∙ was.link;
        several = ap (λ (a : AirValue). a.several) is ∙ was.several;
        tags = ap (λ (a : AirValue). a.tags) is ∙ ap (λ t. (air_after_event (record air { tags = t }) event number).tags) was.tags ∙ sym (tags-befell begun.start event number past);
        legal = legal;
        exchanges = ap (λ (a : AirValue). a.exchanges) is ∙ was.exchanges;
        made = was.made;
        entries = was.entries;
        rounds = was.rounds;
      };
      heard = subst (λ (lines : List ReportLine). hears begun.first lines report) (sym (append-nil (lines_to_tell begun.start past))) stands.heard;
    }

-- how many exchanges a step adds at most
step-exchanges : RoundsKeepLimit → (tags : ℕ) (start : Start) (step : Step) (past : List Item) → IsPlayable tags step
    → exchanges_in (past_behind_step start step past) ≤ exchanges_in past + most_in_round
step-exchanges keeps tags start (steps.Round spec operations) past is =
    let legal = legal-step is.version tags (steps.Round spec operations) is.is in
    let each : 2 + most_operating operations ≤ most_in_slot = omega (arith, legal.few) in
    let most : (2 + most_operating operations) * spec.limit ≤ most_in_slot * most_slots = mul-le-mul each legal.legal.limit.1 in
    omega (arith, most, round-exchanges keeps start operations spec past legal.legal)
step-exchanges keeps tags start step past is = omega arith

-- ... and how many rounds
step-rounds : RoundsKeepLimit → (tags : ℕ) (start : Start) (step : Step) (past : List Item) → IsPlayable tags step → rounds_in (past_behind_step start step past) ≤ rounds_in past + 1
step-rounds keeps tags start (steps.Round spec operations) past is =
    round-holds (λ outcomes now. rounds_in now ≡ rounds_in past) (λ now. rounds_in now ≤ rounds_in past + 1)
    (record { start = start; operations = operations; spec = spec; before = past }) keeps (legal-step is.version tags (steps.Round spec operations) is.is).legal
    (record {
      slot = λ outcomes now command next same. rounds-slot start operations (rounds_in past + 1) (length outcomes + 1) command now ∙ same;
      end = λ outcomes now end next same. omega (arith, same);
    })
    refl
step-rounds keeps tags start step past is = omega arith

-- steps that are taken behind a past
pub record StepsTaken : Type 0 where
  pub start : Start
  pub before : List Item
  pub steps : List Step

-- what is past behind them
abbrev pub past_behind_taken : StepsTaken → List Item
past_behind_taken taken = past_behind taken.start taken.steps taken.before

-- so many of them are taken, which left this past
pub record AreTaken (taken : StepsTaken) (index : ℕ) (past : List Item) : Type 0 where
  pub rest : past_behind taken.start (drop index taken.steps) past ≡ past_behind_taken taken
  pub few : exchanges_in past ≤ exchanges_in taken.before + most_in_round * index
  pub rounds : rounds_in past ≤ rounds_in taken.before + index

-- before the step with this number
pub record StepsUnderway {A : Type 0} (hears : A → List ReportLine → A → Type 0) (begun : Begun A) (taken : StepsTaken) (index : ℕ) (air : AirValue) (run : RunValue) (report : A) : Type 0 where
  pub past : List Item
  pub stands : StandsAt hears begun past air run report
  pub are : AreTaken taken index past

-- a step among others
pub step-legal : (tags : ℕ) (list : List Step) (index : ℕ) (step : Step) → index < length list → step ≡ get_or list index step → All (IsPlayable tags) list → IsPlayable tags step
step-legal tags list index step inside is all = subst (λ (s : Step). IsPlayable tags s) (sym is) (All-get_or (IsPlayable tags) list index step inside all)

-- the number of tags stays
pub same-count : {start : Start} {earlier : ℕ} {past later : List Item} {air next : AirValue} {run then_run : RunValue} → RunIsAt start earlier past air run → RunIsAt start earlier later next then_run
    → length next.tags ≡ length air.tags
same-count {start} {past} {later} plays goes = ap length goes.tags ∙ length-tags start later ∙ sym (ap length plays.tags ∙ length-tags start past)

-- the step with this number
pub record IsStepAt (taken : StepsTaken) (index : ℕ) (step : Step) : Type 0 where
  pub inside : index < length taken.steps
  pub is : step ≡ get_or taken.steps index step

steps-rest : (taken : StepsTaken) (index : ℕ) (step : Step) (past : List Item) → AreTaken taken index past → IsStepAt taken index step
    → past_behind taken.start (drop (index + 1) taken.steps) (past_behind_step taken.start step past) ≡ past_behind_taken taken
steps-rest taken index step past are at =
    let first : drop index taken.steps ≡ step ∷ drop (index + 1) taken.steps =
    drop_more taken.steps index step at.inside ∙ ap (λ (s : Step). s ∷ drop (index + 1) taken.steps) (sym at.is) in
    ap (λ (l : List Step). past_behind taken.start l past) (sym first) ∙ are.rest

-- one step more
pub steps-go-on : RoundsKeepLimit → (taken : StepsTaken) (tags index : ℕ) (step : Step) (past : List Item) → AreTaken taken index past → IsStepAt taken index step → IsPlayable tags step
    → AreTaken taken (index + 1) (past_behind_step taken.start step past)
steps-go-on keeps taken tags index step past are at playable = record {
  rest = steps-rest taken index step past are at;
  few = omega (arith, step-exchanges keeps tags taken.start step past playable, are.few);
  rounds = omega (arith, step-rounds keeps tags taken.start step past playable, are.rounds);
}

-- what is past behind a step leads to what is past behind all
pub step-leads : (taken : StepsTaken) (index : ℕ) (step : Step) (past : List Item) → AreTaken taken index past → IsStepAt taken index step
    → Grows (past_behind_step taken.start step past) (past_behind_taken taken)
step-leads taken index step past are at =
    let between : List Item = past_behind_step taken.start step past in
    subst (λ (behind : List Item). Grows between behind) (steps-rest taken index step past are at) (steps-grow taken.start (drop (index + 1) taken.steps) between)
