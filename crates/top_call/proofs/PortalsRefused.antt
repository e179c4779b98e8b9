-- The first line of a scenario for which it is none of two portals, part by part.
use Rattle.top_call.proofs.PortalNames.{◌≡◌, ◌⊎◌, inl, inr, ℕ, ◌+◌, ◌≤◌, Bool, true, false, List, [], ◌∷◌, ◌++◌, length, map, Option, Some, None, refl, ap, sym, ◌∙◌, subst, append_assoc, arith, ◌==◌, ◌≢◌, All, IsTrue, if◌then◌else◌, flat_map, eqb-true, length-append, All-head, All-tail, Op, OpList, Choice, Entry, Several, Command, LinkValue, SpecValue, AreTurns, IsOfPortals, other_portal, Event, count_copies, copies_of, tags_of, air_lines, entry_lines, IsCount, IsDefault, IsEntry, IsGroup, IsScenario, most_tags_of, group_line, head_lines, scenario_lines, step_lines, Scenario, Step, TagGroup, Line, Version, One, Two, captures, first_refused, head_length, lines_of_steps, portal_fault}
use Rattle.air_events.specs.declared.Several.TheVariants as severals
use Rattle.command_grammar.specs.declared.commands.Command.TheVariants as commands
use Rattle.scenario.specs.declared.values.Step.TheVariants as steps
use Rattle.scenario_lines.specs.declared.line.Line.TheVariants as lines

-- lines of tags are passed over
group-passes : (number next : ℕ) (group : TagGroup) (later : List Line) → first_refused number next (group_line group ∷ later) ≡ first_refused (number + 1) next later
group-passes number next group later = of_one (group.count == 1)
  where
    of_one : (one : Bool) → first_refused number next ((if one then lines.Tag group.spec else lines.Copies group.count group.spec) ∷ later) ≡ first_refused (number + 1) next later
    of_one true = refl
    of_one false = refl

groups-pass : (number next : ℕ) (groups : List TagGroup) (later : List Line) → first_refused number next (map group_line groups ++ later) ≡ first_refused (number + length groups) next later
groups-pass number next [] later = ap (λ n. first_refused n next later) (omega arith)
groups-pass number next (group ∷ groups) later =
    group-passes number next group (map group_line groups ++ later)
    ∙ groups-pass (number + 1) next groups later ∙ ap (λ n. first_refused n next later) (omega arith)

-- a line of an exchange is not
air-refused : (number next : ℕ) (tags : ℕ) (entry : ℕ × Entry) (later : List Line) → IsEntry tags entry → first_refused number next (entry_lines entry ++ later) ≡ Some number
air-refused number next tags entry later is = says number next entry.0 entry.1.events entry.1.missed entry.1.choice later is.something
  where
    says : (number next exchange : ℕ) (events : List (Event × ℕ)) (missed : List ℕ) (choice : Option Choice) (later : List Line) → (events ≢ []) ⊎ (missed ≢ []) ⊎ (choice ≢ None)
        → first_refused number next (entry_lines (exchange, record { events = events; missed = missed; choice = choice }) ++ later) ≡ Some number
    says number next exchange (event ∷ events) missed choice later something = refl
    says number next exchange [] (tag ∷ missed) choice later something = refl
    says number next exchange [] [] (Some choice) later something = refl
    says number next exchange [] [] None later (inl events) = absurd (events refl)
    says number next exchange [] [] None later (inr (inl missed)) = absurd (missed refl)
    says number next exchange [] [] None later (inr (inr choice)) = absurd (choice refl)

airs-refused : (number next tags : ℕ) (entry : ℕ × Entry) (entries : List (ℕ × Entry)) (later : List Line) → All (IsEntry tags) (entry ∷ entries)
    → first_refused number next (air_lines (entry ∷ entries) ++ later) ≡ Some number
airs-refused number next tags entry entries later each =
    ap (first_refused number next) (append_assoc (entry_lines entry) (air_lines entries) later)
    ∙ air-refused number next tags entry (air_lines entries ++ later) (All-head (IsEntry tags) entry entries each)

-- a step that is no round
pub select-refused : (version : Version) (command : Command) (number next : ℕ) (later : List Line) → first_refused number next (step_lines version (steps.Select command) ++ later) ≡ Some number
select-refused version (commands.Select target action bank pointer mask) number next later = refl
select-refused version command number next later = refl

-- a round
round-other : (version : Version) (spec : SpecValue) (operations : OpList) (number next : ℕ) (later : List Line) → (spec.session == next) ≡ false
    → first_refused number next (step_lines version (steps.Round spec operations) ++ later) ≡ Some number
round-other version spec operations number next later other = rw other refl

-- what stands behind its line
abbrev behind_round : (number next : ℕ) → Option (List ℕ) → List Op → List Line → Option ℕ
behind_round number next (Some epc) ops later = Some (number + 1)
behind_round number next None (op ∷ ops) later = Some (number + 1)
behind_round number next None [] later = first_refused (number + 1) (other_portal next) later

round-own : (version : Version) (spec : SpecValue) (only : Option (List ℕ)) (ops : List Op) (number next : ℕ) (later : List Line) → (spec.session == next) ≡ true
    → first_refused number next (step_lines version (steps.Round spec (record { only = only; ops = ops })) ++ later) ≡ behind_round number next only ops later
round-own version spec (Some epc) ops number next later own = rw own refl
round-own version spec None (op ∷ ops) number next later own = rw own refl
round-own version spec None [] number next later own = rw own refl

-- the lines of the steps, step by step
pub steps-on : (version : Version) (step : Step) (taken : List Step) → lines_of_steps version (step ∷ taken) ≡ step_lines version step ++ lines_of_steps version taken
steps-on version step taken = append_assoc (step_lines version step) (flat_map (step_lines version) taken) (lines.End ∷ [])

-- a step for which the lines are none of two portals at its first line
pub data IsNoTurn (next : ℕ) : Step → Type 0 where
  selects : (command : Command) → IsNoTurn next (steps.Select command)
  naks : IsNoTurn next steps.Nak
  befalls : (event : Event) (number : ℕ) → IsNoTurn next (steps.Event event number)
  others : (spec : SpecValue) (operations : OpList) → (spec.session == next) ≡ false → IsNoTurn next (steps.Round spec operations)

pub no-turn : (version : Version) (number next : ℕ) (step : Step) (taken : List Step) → IsNoTurn next step → first_refused number next (lines_of_steps version (step ∷ taken)) ≡ Some number
no-turn version number next step taken (selects command) =
    ap (first_refused number next) (steps-on version step taken) ∙ select-refused version command number next (lines_of_steps version taken)
no-turn version number next step taken naks = refl
no-turn version number next step taken (befalls event befallen) = refl
no-turn version number next step taken (others spec operations other) =
    ap (first_refused number next) (steps-on version step taken) ∙ round-other version spec operations number next (lines_of_steps version taken) other

-- one whose operations are
pub operates : (version : Version) (number next : ℕ) (spec : SpecValue) (only : Option (List ℕ)) (ops : List Op) (taken : List Step) → (spec.session == next) ≡ true → (only ≢ None) ⊎ (ops ≢ [])
    → first_refused number next (lines_of_steps version (steps.Round spec (record { only = only; ops = ops }) ∷ taken)) ≡ Some (number + 1)
operates version number next spec only ops taken own some =
    ap (first_refused number next) (steps-on version (steps.Round spec (record { only = only; ops = ops })) taken)
    ∙ round-own version spec only ops number next (lines_of_steps version taken) own ∙ names only ops some
  where
    names : (only : Option (List ℕ)) (ops : List Op) → (only ≢ None) ⊎ (ops ≢ []) → behind_round number next only ops (lines_of_steps version taken) ≡ Some (number + 1)
    names (Some epc) ops some = refl
    names None (op ∷ ops) some = refl
    names None [] (inl only) = absurd (only refl)
    names None [] (inr ops) = absurd (ops refl)

-- ... and one that is a turn
pub turn : (version : Version) (number next : ℕ) (spec : SpecValue) (operations : OpList) (taken : List Step) → (spec.session == next) ≡ true → operations.only ≡ None → operations.ops ≡ []
    → first_refused number next (lines_of_steps version (steps.Round spec operations ∷ taken)) ≡ first_refused (number + 1) (other_portal next) (lines_of_steps version taken)
turn version number next spec operations taken own only ops =
    ap (first_refused number next) (steps-on version (steps.Round spec operations) taken)
    ∙ round-own version spec operations.only operations.ops number next (lines_of_steps version taken) own
    ∙ (λ i. behind_round number next (only i) (ops i) (lines_of_steps version taken))

-- no step is left
pub over : (version : Version) (number next : ℕ) → first_refused number next (lines_of_steps version []) ≡ None
over version number next = refl

-- the lines in groups
grouped : (head groups air rest : List Line) → head ++ groups ++ air ++ rest ≡ head ++ (groups ++ (air ++ rest))
grouped head groups air rest = append_assoc (head ++ groups) air rest ∙ append_assoc head groups (air ++ rest)

lines-grouped : (scenario : Scenario)
    → scenario_lines scenario
    ≡ head_lines scenario.version scenario.link scenario.several ++ (map group_line scenario.groups ++ (air_lines scenario.entries ++ lines_of_steps scenario.version scenario.steps))
lines-grouped scenario =
    let head = head_lines scenario.version scenario.link scenario.several in
    let groups = map group_line scenario.groups in
    let air = air_lines scenario.entries in
    let steps = flat_map (step_lines scenario.version) scenario.steps in
    append_assoc (head ++ groups ++ air) steps (lines.End ∷ []) ∙ grouped head groups air (steps ++ lines.End ∷ [])

-- behind the lines before those of the tags
head-passed : (version : Version) (link : LinkValue) (later : List Line) → first_refused 1 2 (head_lines version link severals.Break ++ later) ≡ first_refused (head_length version + 1) 2 later
head-passed One link later = refl
head-passed Two link later = refl

head-refused : (version : Version) (link : LinkValue) (later : List Line) → IsDefault version severals.Capture → first_refused 1 2 (head_lines version link severals.Capture ++ later) ≡ Some 3
head-refused One link later is = absurd (cc)
head-refused Two link later is = refl

pub captured : (scenario : Scenario) → IsScenario scenario → scenario.several ≡ severals.Capture → portal_fault scenario ≡ Some 3
captured scenario is captures =
    let later = map group_line scenario.groups ++ (air_lines scenario.entries ++ lines_of_steps scenario.version scenario.steps) in
    ap (first_refused 1 2) (lines-grouped scenario)
    ∙ ap (λ (several : Several). first_refused 1 2 (head_lines scenario.version scenario.link several ++ later)) captures
    ∙ head-refused scenario.version scenario.link later (subst (IsDefault scenario.version) captures is.several)

-- where the channel breaks, up to the air lines
tags-passed : (scenario : Scenario) → scenario.several ≡ severals.Break
    → portal_fault scenario ≡ first_refused (head_length scenario.version + 1 + length scenario.groups) 2 (air_lines scenario.entries ++ lines_of_steps scenario.version scenario.steps)
tags-passed scenario breaks =
    let rest = air_lines scenario.entries ++ lines_of_steps scenario.version scenario.steps in
    let later = map group_line scenario.groups ++ rest in
    ap (first_refused 1 2) (lines-grouped scenario)
    ∙ ap (λ (several : Several). first_refused 1 2 (head_lines scenario.version scenario.link several ++ later)) breaks
    ∙ head-passed scenario.version scenario.link later
    ∙ groups-pass (head_length scenario.version + 1) 2 scenario.groups rest

pub said : (scenario : Scenario) → IsScenario scenario → scenario.several ≡ severals.Break → scenario.entries ≢ []
    → portal_fault scenario ≡ Some (head_length scenario.version + length scenario.groups + 1)
said scenario is breaks some =
    tags-passed scenario breaks ∙ first scenario.entries some is.entries ∙ ap (λ n. Some n) (omega arith)
  where
    first : (entries : List (ℕ × Entry)) → entries ≢ [] → All (IsEntry (length (tags_of scenario.groups))) entries
        → first_refused (head_length scenario.version + 1 + length scenario.groups) 2 (air_lines entries ++ lines_of_steps scenario.version scenario.steps)
        ≡ Some (head_length scenario.version + 1 + length scenario.groups)
    first [] some each = absurd (some refl)
    first (entry ∷ entries) some each =
        airs-refused (head_length scenario.version + 1 + length scenario.groups) 2 (length (tags_of scenario.groups)) entry entries (lines_of_steps scenario.version scenario.steps) each

pub unsaid : (scenario : Scenario) → scenario.several ≡ severals.Break → scenario.entries ≡ []
    → portal_fault scenario ≡ first_refused (head_length scenario.version + length scenario.groups + 1) 2 (lines_of_steps scenario.version scenario.steps)
unsaid scenario breaks none =
    tags-passed scenario breaks
    ∙ ap (λ (entries : List (ℕ × Entry)). first_refused (head_length scenario.version + 1 + length scenario.groups) 2 (air_lines entries ++ lines_of_steps scenario.version scenario.steps)) none
    ∙ ap (λ n. first_refused n 2 (lines_of_steps scenario.version scenario.steps)) (omega arith)

-- there are no more groups than tags
at-least-one : (version : Version) (count : ℕ) → IsCount version count → 1 ≤ count
at-least-one One count is = omega (arith, is)
at-least-one Two count is = is

few : (version : Version) (groups : List TagGroup) → All (IsGroup version) groups → length groups ≤ length (tags_of groups)
few version [] each = omega arith
few version (group ∷ groups) each =
    let here = at-least-one version group.count (All-head (IsGroup version) group groups each).count in
    let later = few version groups (All-tail (IsGroup version) group groups each) in
    let both = length-append (copies_of group) (tags_of groups) in
    let own = count_copies group.count group.spec in
    omega (arith, here, later, both, own)

pub few-groups : (scenario : Scenario) → IsScenario scenario → length scenario.groups ≤ 4096
few-groups scenario is =
    let groups = few scenario.version scenario.groups is.groups in
    let tags = most scenario.version (length (tags_of scenario.groups)) is.few_tags in
    omega (arith, groups, tags)
  where
    most : (version : Version) (count : ℕ) → count ≤ most_tags_of version → count ≤ 4096
    most One count few = omega (arith, few)
    most Two count few = few

-- lines of steps that are not refused are those of turns
turns-of : (version : Version) (number next : ℕ) (taken : List Step) → first_refused number next (lines_of_steps version taken) ≡ None → AreTurns next taken
turns-of version number next [] none = tt
turns-of version number next (steps.Select command ∷ taken) none = absurd (let some = no-turn version number next (steps.Select command) taken (selects command) in cc)
turns-of version number next (steps.Nak ∷ taken) none = absurd (cc)
turns-of version number next (steps.Event event befallen ∷ taken) none = absurd (cc)
turns-of version number next (steps.Round spec operations ∷ taken) none =
    by_session (turns-of version (number + 1) (other_portal next) taken) (spec.session == next) refl
  where
    by_operations : (first_refused (number + 1) (other_portal next) (lines_of_steps version taken) ≡ None → AreTurns (other_portal next) taken) → (only : Option (List ℕ)) (ops : List Op) → (spec.session == next) ≡ true → operations.only ≡ only → operations.ops ≡ ops
        → behind_round number next only ops (lines_of_steps version taken) ≡ None → AreTurns next (steps.Round spec operations ∷ taken)
    by_operations later (Some epc) ops own only_is ops_are none = absurd (cc)
    by_operations later None (op ∷ ops) own only_is ops_are none = absurd (cc)
    by_operations later None [] own only_is ops_are none =
        ((eqb-true spec.session next own, only_is, ops_are), later none)

    by_session : (first_refused (number + 1) (other_portal next) (lines_of_steps version taken) ≡ None → AreTurns (other_portal next) taken) → (test : Bool) → (spec.session == next) ≡ test → AreTurns next (steps.Round spec operations ∷ taken)
    by_session later false other = absurd (let some = no-turn version number next (steps.Round spec operations) taken (others spec operations other) in cc)
    by_session later true own =
        by_operations later operations.only operations.ops own refl refl
        (sym (ap (first_refused number next) (steps-on version (steps.Round spec operations) taken)
        ∙ round-own version spec operations.only operations.ops number next (lines_of_steps version taken) own) ∙ none)

breaks-or-captures : (several : Several) → (several ≡ severals.Break) ⊎ (several ≡ severals.Capture)
breaks-or-captures severals.Break = inl refl
breaks-or-captures severals.Capture = inr refl

none-or-some : (entries : List (ℕ × Entry)) → (entries ≡ []) ⊎ (entries ≢ [])
none-or-some [] = inl refl
none-or-some (entry ∷ entries) = inr (λ none. cc)

-- a scenario without such a line
pub of-portals : (scenario : Scenario) → IsScenario scenario → portal_fault scenario ≡ None → IsOfPortals scenario
of-portals scenario is none =
    elim (breaks-or-captures scenario.several) [
      | inr captures ↦ absurd (let some = captured scenario is captures in cc)
      | inl breaks ↦
          elim (none-or-some scenario.entries) [
            | inr some ↦ absurd (let first = said scenario is breaks some in cc)
            | inl entries ↦ record {
              several = breaks;
              entries = entries;
              turns = turns-of scenario.version (head_length scenario.version + length scenario.groups + 1) 2 scenario.steps (sym (unsaid scenario breaks entries) ∙ none);
            }
          ]
    ]

-- a step that is no round is no turn
pub no-round : (next : ℕ) (step : Step) → ((spec : SpecValue) (operations : OpList) → step ≢ steps.Round spec operations) → IsNoTurn next step
no-round next (steps.Select command) other = selects command
no-round next steps.Nak other = naks
no-round next (steps.Event event number) other = befalls event number
no-round next (steps.Round spec operations) other = absurd (other spec operations refl)

-- a test does not both fail and hold
pub not-both : (test : Bool) → test ≡ false → IsTrue test → ⊥
not-both true is holds = absurd (cc)
not-both false is holds = absurd (cc)
