-- The rounds of a scenario of two portals, as its histories tell them.
use Rattle.runs.proofs.Names.{◌≡◌, ◌⊎◌, inl, inr, ℕ, Bool, true, false, List, [], ◌∷◌, ◌++◌, map, refl, ap, sym, ◌∙◌, subst, append_assoc, append-nil, ◌==◌, All, filter, if◌then◌else◌, AllByRecursion}
use Rattle.runs.proofs.Names.{All-cons, All-nil, Start, Item, tags_behind, slots-within, SpecValue, IsLegalSpec, tags_of, TagSpec, Scenario, Step, TagValue, Played, HaveTheSameSenders, IsNewTag}
use Rattle.runs.proofs.Names.{IsOfPortal, is_of_session, portal_lines_of, lines_of_portal, portal_lines, portal_rounds_of, rounds_played, new-tags-agree, new-tags-same, PortalLine, AreLegalSteps}
use Rattle.runs.proofs.Names.{history_of, past_behind, past_behind_round, AreTurns, ArePortalsIndependent, IsOfPortals, alone, is_round_of, lines_told, other_portal, portals_told, specs_of}
use Rattle.runs.proofs.Names.{IsBetweenRounds, IsPlain, played_of, rounds_told, start_of, scenario_tag}
use Rattle.scenario.specs.declared.values.Step.TheVariants as steps
use Rattle.runs.proofs.OneRound.{played-laws}
use Rattle.runs.proofs.PlainRounds.{goes-by-tags, tags-from-none}

-- a legal round without operations
abbrev pub IsPlainStep : Step → Type 0
IsPlainStep (steps.Round spec operations) = IsLegalSpec spec × (operations.ops ≡ [])
IsPlainStep step = ⊥

-- behind a past the rounds are told as they are played one after the other
told-behind : (start : Start) → IsPlain start → (taken : List Step) (past : List Item) → AllByRecursion IsPlainStep taken → IsBetweenRounds past
    → rounds_told start (past_behind start taken past) ≡ rounds_told start past ++ rounds_played played_of (tags_behind start past) (specs_of taken)
told-behind start plain [] past each between = sym (append-nil (rounds_told start past))
told-behind start plain (steps.Round spec operations ∷ taken) past each between =
    let behind = past_behind_round start operations spec past in
    let tags = tags_behind start past in
    let round = goes-by-tags slots-within start operations spec past plain each.0.1 each.0.0 between in
    told-behind start plain taken behind each.1 round.between
    ∙ (λ i. round.told i ++ rounds_played played_of (round.tags i) (specs_of taken))
    ∙ append_assoc (rounds_told start past) (played_of tags spec ∷ []) (rounds_played played_of (played_of tags spec).tags (specs_of taken))
told-behind start plain (step ∷ taken) past each between = absurd each.0

-- ... and so in a history
pub told-whole : (start : Start) → IsPlain start → (taken : List Step) → AllByRecursion IsPlainStep taken
    → rounds_told start (history_of start taken) ≡ rounds_played played_of start.tags (specs_of taken)
told-whole start plain taken each =
    told-behind start plain taken [] each (record { pairs = refl; senders = refl })
    ∙ ap (λ (tags : List TagValue). rounds_played played_of tags (specs_of taken)) (tags-from-none 0 start.tags)

-- the steps of a session are the rounds of it
specs-of-session : (session : ℕ) (taken : List Step) → AllByRecursion IsPlainStep taken → specs_of (filter (is_round_of session) taken) ≡ filter (is_of_session session) (specs_of taken)
specs-of-session session [] each = refl
specs-of-session session (steps.Round spec operations ∷ taken) each =
    kept (spec.session == session) (steps.Round spec operations) spec (filter (is_round_of session) taken) (filter (is_of_session session) (specs_of taken)) (λ later. refl) (specs-of-session session taken each.1)
  where
    kept : (passes : Bool) (step : Step) (spec : SpecValue) (later : List Step) (specs : List SpecValue) → ((later : List Step) → specs_of (step ∷ later) ≡ spec ∷ specs_of later)
        → specs_of later ≡ specs → specs_of (if passes then step ∷ later else later) ≡ (if passes then spec ∷ specs else specs)
    kept true step spec later specs here same = here later ∙ ap (λ (l : List SpecValue). spec ∷ l) same
    kept false step spec later specs here same = same
specs-of-session session taken each = absurd each.0

plain-kept : (session : ℕ) (taken : List Step) → AllByRecursion IsPlainStep taken → AllByRecursion IsPlainStep (filter (is_round_of session) taken)
plain-kept session [] each = tt
plain-kept session (step ∷ taken) each = kept (is_round_of session step) step (filter (is_round_of session) taken) each.0 (plain-kept session taken each.1)
  where
    kept : (passes : Bool) (step : Step) (later : List Step) → IsPlainStep step → AllByRecursion IsPlainStep later → AllByRecursion IsPlainStep (if passes then step ∷ later else later)
    kept true step later here each = (here, each)
    kept false step later here each = each

-- the lines of the three histories are those of the rounds as they are played
lines-played : (scenario : Scenario) (session : ℕ) → IsPlain (start_of scenario) → AllByRecursion IsPlainStep scenario.steps
    → lines_told session scenario ≡ lines_of_portal session played_of (start_of scenario).tags (specs_of scenario.steps)
lines-played scenario session plain each =
    let start = start_of scenario in
    let joint = told-whole start plain scenario.steps each in
    let own = told-whole start plain (filter (is_round_of session) scenario.steps) (plain-kept session scenario.steps each)
    ∙ ap (rounds_played played_of start.tags) (specs-of-session session scenario.steps each) in
    (λ i. portal_lines_of session 1 (portal_rounds_of session (specs_of scenario.steps) (joint i)) (own i))

pub portals-played : (scenario : Scenario) → IsPlain (start_of scenario) → AllByRecursion IsPlainStep scenario.steps
    → portals_told scenario ≡ portal_lines played_of (start_of scenario).tags (specs_of scenario.steps)
portals-played scenario plain each =
    let two = lines-played scenario 2 plain each in
    let three = lines-played scenario 3 plain each in
    (λ i. two i ++ three i)

-- a scenario of two portals has a plain start, and plain steps
pub plain-of : (scenario : Scenario) → IsOfPortals scenario → IsPlain (start_of scenario)
plain-of scenario portals = record { entries = portals.entries; several = portals.several }

pub plain-steps : (session : ℕ) (taken : List Step) → AreLegalSteps taken → AreTurns session taken → AllByRecursion IsPlainStep taken
plain-steps session [] legal turns = tt
plain-steps session (steps.Round spec operations ∷ taken) legal turns = ((legal.0.legal, turns.0.2), plain-steps (other_portal session) taken legal.1 turns.1)
plain-steps session taken legal turns = absurd turns.0

-- its tags are new at the start
all-new : (tags : List TagSpec) → All IsNewTag (map scenario_tag tags)
all-new [] = All-nil IsNewTag
all-new (tag ∷ tags) = All-cons IsNewTag (scenario_tag tag) (map scenario_tag tags) (record { state = refl; flags = refl }) (all-new tags)

pub new-at-start : (scenario : Scenario) → All IsNewTag (start_of scenario).tags
new-at-start scenario = all-new (tags_of scenario.groups)

-- each of its rounds is one of a portal
of-turn : (session : ℕ) (spec : SpecValue) → (session ≡ 2) ⊎ (session ≡ 3) → spec.session ≡ session → IsOfPortal spec
of-turn session spec (inl two) is = inl (is ∙ two)
of-turn session spec (inr three) is = inr (is ∙ three)

turned : (session : ℕ) → (session ≡ 2) ⊎ (session ≡ 3) → (other_portal session ≡ 2) ⊎ (other_portal session ≡ 3)
turned session (inl two) = inr (ap other_portal two)
turned session (inr three) = inl (ap other_portal three)

of-portals : (session : ℕ) (taken : List Step) → (session ≡ 2) ⊎ (session ≡ 3) → AreTurns session taken → All IsOfPortal (specs_of taken)
of-portals session [] portal turns = All-nil IsOfPortal
of-portals session (steps.Round spec operations ∷ taken) portal turns =
    All-cons IsOfPortal spec (specs_of taken) (of-turn session spec portal turns.0.0) (of-portals (other_portal session) taken (turned session portal) turns.1)
of-portals session taken portal turns = absurd turns.0

legal-specs : (taken : List Step) → AllByRecursion IsPlainStep taken → All IsLegalSpec (specs_of taken)
legal-specs [] each = All-nil IsLegalSpec
legal-specs (steps.Round spec operations ∷ taken) each = All-cons IsLegalSpec spec (specs_of taken) each.0.0 (legal-specs taken each.1)
legal-specs taken each = absurd each.0

pub rounds-of-portals : (scenario : Scenario) → IsOfPortals scenario → All IsOfPortal (specs_of scenario.steps)
rounds-of-portals scenario portals = of-portals 2 scenario.steps (inl refl) portals.turns

-- where each round of the three histories ended quiet, each portal lists jointly what it lists alone
pub portals-independent : (scenario : Scenario) → IsOfPortals scenario → AllByRecursion IsPlainStep scenario.steps → All (λ line. line.quiet ≡ true) (portals_told scenario)
    → ArePortalsIndependent scenario
portals-independent scenario portals each quiet =
    let start = start_of scenario in
    let specs = specs_of scenario.steps in
    let plain = plain-of scenario portals in
    let told = portals-played scenario plain each in
    let legal = legal-specs scenario.steps each in
    let fresh = new-at-start scenario in
    let of = rounds-of-portals scenario portals in
    let quiet_played = subst (λ (lines : List PortalLine). All (λ line. line.quiet ≡ true) lines) told quiet in
    let agree = new-tags-agree played_of played-laws specs start.tags legal of fresh quiet_played in
    let joint = told-whole start plain scenario.steps each in
    let own : (session : ℕ) → rounds_told start (alone scenario session) ≡ rounds_played played_of start.tags (filter (is_of_session session) specs) =
    λ session.
    told-whole start plain (filter (is_round_of session) scenario.steps) (plain-kept session scenario.steps each)
    ∙ ap (rounds_played played_of start.tags) (specs-of-session session scenario.steps each) in
    record {
      second = (subst (λ (rounds : List Played). HaveTheSameSenders (portal_rounds_of 2 specs rounds) (rounds_told start (alone scenario 2))) (sym joint)
          (subst (HaveTheSameSenders (portal_rounds_of 2 specs (rounds_played played_of start.tags specs))) (sym (own 2)) agree.0));
      third = (subst (λ (rounds : List Played). HaveTheSameSenders (portal_rounds_of 3 specs rounds) (rounds_told start (alone scenario 3))) (sym joint)
          (subst (HaveTheSameSenders (portal_rounds_of 3 specs (rounds_played played_of start.tags specs))) (sym (own 3)) agree.1));
      same = subst (λ (lines : List PortalLine). All (λ line. line.same ≡ true) lines) (sym told)
          (new-tags-same played_of played-laws specs start.tags legal of fresh quiet_played);
    }
