-- A run as it begins and as it ends.
use Rattle.air_world.proofs.Names.{◌≡◌, inl, inr, append-nil, ℕ, ◌+◌, ◌<◌, ◌≤◌, ◌==◌, Bool, true, false, List, ◌∷◌, ◌++◌, length, map, Option, Some, None, Result, Ok, Err, refl, sym, ◌∙◌, ap, subst}
use Rattle.air_world.proofs.Names.{arith, [], All, IfSome, if◌then◌else◌, no_entry, entry_at, AirValue, NamesTags, AreEntriesLeft, most_tags, Choice, Entry, Event, HasFewLevels, tags_behind_from}
use Rattle.air_world.proofs.Names.{new_air, RunValue, RunIsAt, IsPlayable, StandsAt, IsBetweenSteps, NamesItsTags, begun_with, IsCutShort, PlaysOrFails, ReportLine, DoneLine, SeenCount, seen_counts}
use Rattle.air_world.proofs.Names.{seen_line, PlayFault, OutOfMemory, RoundsKeepLimit, few-exchanges, steps-exchanges, legal-steps, last_lines, run_lines, tag_lines, start_of, history, scenario_tag}
use Rattle.air_world.proofs.Names.{pairs_in, tags_of, IsScenario, IsEntry, IsStep, most_tags_of, Scenario, Step, Version, One, Two, length-map, All-head, All-tail, All-nil, All-weaker, IfErr, OnOk}
use Rattle.air_world.proofs.Names.{TagValue, AreLegalTags}
use Rattle.air_events.specs.declared.Choice.TheVariants as choices
use Rattle.scenario_lines.specs.LineForm.{IsChoice, IsEvent, IsPlace}

names-one : (tags : ℕ) (entry : ℕ × Entry) → IsEntry tags entry → NamesTags tags entry.1
names-one tags entry is = record {
  events = All-weaker (λ (event : Event × ℕ). IsEvent event.0 event.1 × (event.1 < tags)) (λ (event : Event × ℕ). event.1 < tags) (λ event named. named.1) entry.1.events is.events;
  missed = All-weaker (λ (tag : ℕ). IsPlace tag × (tag < tags)) (λ (tag : ℕ). tag < tags) (λ tag named. named.1) entry.1.missed is.missed;
}

holds-if : (P : Entry → Type 0) (b : Bool) (one other : Entry) → P one → P other → P (if b then one else other)
holds-if P true one other is are = is
holds-if P false one other is are = are

-- what holds where nothing is said of an exchange, and of each entry that is given, holds of what is said of any
holds-all : (P : Entry → Type 0) (tags : ℕ) (entries : List (ℕ × Entry)) → P no_entry → ((entry : ℕ × Entry) → IsEntry tags entry → P entry.1) → All (IsEntry tags) entries
    → (exchange : ℕ) → P (entry_at entries exchange)
holds-all P tags [] none each are exchange = none
holds-all P tags (entry ∷ entries) none each are exchange =
    holds-if P (entry.0 == exchange) entry.1 (entry_at entries exchange) (each entry (All-head (IsEntry tags) entry entries are))
    (holds-all P tags entries none each (All-tail (IsEntry tags) entry entries are) exchange)

pub scenario-names : (scenario : Scenario) → IsScenario scenario → NamesItsTags (start_of scenario)
scenario-names scenario is exchange =
    let tags = tags_of scenario.groups in
    subst (λ n. NamesTags n (entry_at scenario.entries exchange)) (sym (length-map tags scenario_tag))
    (holds-all (NamesTags (length tags)) (length tags) scenario.entries (record { events = All-nil _; missed = All-nil _ }) (names-one (length tags)) is.entries exchange)

-- its steps can be played on its air
pub scenario-playable : (scenario : Scenario) (air : AirValue) (steps : List Step) → IsScenario scenario → air ≡ new_air (start_of scenario) → steps ≡ scenario.steps
    → All (IsPlayable (length air.tags)) steps
scenario-playable scenario air steps is fresh same =
    let tags = tags_of scenario.groups in
    let count : length air.tags ≡ length tags = ap (λ (a : AirValue). length a.tags) fresh ∙ length-map tags scenario_tag in
    subst (λ (s : List Step). All (IsPlayable (length air.tags)) s) (sym same)
    (subst (λ n. All (IsPlayable n) scenario.steps) (sym count)
    (All-weaker (IsStep scenario.version (length tags)) (IsPlayable (length tags)) (λ step legal. record { version = scenario.version; is = legal }) scenario.steps is.steps))

-- a scenario of either version has few tags
pub few-of-version : (version : Version) → most_tags_of version ≤ most_tags
few-of-version One = omega arith
few-of-version Two = omega arith

pub scenario-few : (scenario : Scenario) → IsScenario scenario → length (tags_of scenario.groups) ≤ most_tags
scenario-few scenario is = omega (arith, few-of-version scenario.version, is.few_tags)

-- a raw stream of a scenario has few levels
chosen-few : (choice : Option Choice) → IfSome choice IsChoice → HasFewLevels choice
chosen-few (Some (choices.Raw levels)) is = is.1
chosen-few choice is = tt

pub tags-before : (number : ℕ) (starts : List TagValue) → tags_behind_from number starts [] ≡ starts
tags-before number [] = refl
tags-before number (start ∷ starts) = ap (λ (t : List TagValue). start ∷ t) (tags-before (number + 1) starts)

-- the run begins
pub at-first : (scenario : Scenario) (air : AirValue) (run : RunValue) → IsScenario scenario → air ≡ new_air (start_of scenario) → AreLegalTags air.tags → (left : List (ℕ × Entry))
    → AreEntriesLeft left scenario.entries 0 → run ≡ record { entries = left; exchanges = 0; rounds = 0 } → RunIsAt (start_of scenario) 0 [] air run
at-first scenario air run is fresh legal left left_is run_is = record {
  names = scenario-names scenario is;
  few = holds-all (λ (entry : Entry). HasFewLevels entry.choice) (length (tags_of scenario.groups)) scenario.entries tt
      (λ entry legal. chosen-few entry.1.choice legal.choice) is.entries;
  link = ap (λ (a : AirValue). a.link) fresh;
  several = ap (λ (a : AirValue). a.several) fresh;
  tags = ap (λ (a : AirValue). a.tags) fresh ∙ sym (tags-before 0 (start_of scenario).tags);
  legal = legal;
  exchanges = ap (λ (a : AirValue). a.exchanges) fresh;
  made = ap (λ (r : RunValue). r.exchanges) run_is;
  entries = subst (λ l. AreEntriesLeft l scenario.entries 0) (sym (ap (λ (r : RunValue). r.entries) run_is)) left_is;
  rounds = ap (λ (r : RunValue). r.rounds) run_is;
}

-- there is room for all steps
pub between-first : {A : Type 0} {hears : A → List ReportLine → A → Type 0} {first report : A} {air : AirValue} {run : RunValue} (scenario : Scenario) → IsScenario scenario
    → StandsAt hears (begun_with scenario first) [] air run report → IsBetweenSteps hears (length scenario.steps) air run report
between-first {first} scenario is stands = record { begun = begun_with scenario first; past = []; stands = stands; room = omega (arith, is.few_steps); rounds = omega (arith, is.few_steps) }

-- what is told behind the steps is what the report has there
pub last-told : (scenario : Scenario) {air : AirValue} {run : RunValue} {seen : List SeenCount} → RunIsAt (start_of scenario) 0 (history scenario) air run
    → seen ≡ seen_counts (pairs_in (history scenario)) → map seen_line seen ++ tag_lines 0 air.tags ++ DoneLine ∷ [] ≡ last_lines (start_of scenario) (history scenario)
last-told scenario at counted = λ i. map seen_line (counted i) ++ tag_lines 0 (at.tags i) ++ DoneLine ∷ []

-- all is told, so the run is played, or its listener met a fault
pub ends-played : {A : Type 0} (hears : A → List ReportLine → A → Type 0) (failed : A → Option PlayFault) (old new : A) (r : Result (Unit {0}) PlayFault) (scenario : Scenario)
    {air : AirValue} {run : RunValue} → RoundsKeepLimit → IsScenario scenario → hears old (run_lines (start_of scenario) scenario.steps) new → RunIsAt (start_of scenario) 0 (history scenario) air run
    → OnOk r (failed new ≡ None) → IfErr r (λ fault. failed new ≡ Some fault) → PlaysOrFails hears failed r scenario old new air
ends-played hears failed old new (Ok done) scenario keeps is told at faultless cause =
    let legal = legal-steps scenario is in
    let most = steps-exchanges keeps (start_of scenario) scenario.steps [] legal in
    let few = few-exchanges scenario.steps legal in
    record { told = told; faultless = faultless; tags = at.tags; exchanges = omega (arith, at.exchanges, most, few, is.few_steps) }
ends-played hears failed old new (Err fault) scenario keeps is told at faultless cause = record {
  front = run_lines (start_of scenario) scenario.steps;
  rest = [];
  split = sym (append-nil (run_lines (start_of scenario) scenario.steps));
  heard = told;
  cause = inl cause;
}

-- nothing was told before there was no memory
pub cut-at-first : {A : Type 0} (hears : A → List ReportLine → A → Type 0) (failed : A → Option PlayFault) (now : A) (whole : List ReportLine) → hears now [] now → failed now ≡ None
    → IsCutShort hears failed now now whole OutOfMemory
cut-at-first hears failed now whole told none = record { front = []; rest = whole; split = refl; heard = told; cause = inr (refl, none) }

-- what holds of a listener that was lent, once it is given back
pub given-back : {A : Type 0} (hears : A → List ReportLine → A → Type 0) (failed : A → Option PlayFault) (r : Result (Unit {0}) PlayFault) (scenario : Scenario)
    (air : AirValue) {first old later new : A} → first ≡ old → later ≡ new → PlaysOrFails hears failed r scenario first later air → PlaysOrFails hears failed r scenario old new air
given-back hears failed r scenario air {old} {later} was is ends =
    subst (λ now. PlaysOrFails hears failed r scenario old now air) is (subst (λ before. PlaysOrFails hears failed r scenario before later air) was ends)
