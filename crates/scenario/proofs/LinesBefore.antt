-- What a scenario has settled behind some lines says the same of the next line as those lines do.
use Rattle.std.proofs.Common.{◌≡◌, ◌≢◌, ℕ, ◌+◌, ◌<◌, ◌≤◌, ◌==◌, ◌↔◌, Bool, true, false, List, [], ◌∷◌, ◌++◌, length, filter, Option, Some, None, if◌then◌else◌, inl, inr, refl, sym, ◌∙◌, ap, subst, arith, append_assoc, append-nil}
use Rattle.std.proofs.lemmas.Bool.{cases_lt, eqb-true, eqb-false}
use Rattle.std.proofs.lemmas.List.{length-append, nil_from_length}
use Rattle.std.proofs.lemmas.List.Elements.{filter-append}
use Rattle.std.specs.List.{AllByRecursion}
use Rattle.access_ops.specs.declared.OpList.{OpList}
use Rattle.air_events.specs.Entries.{no_entry}
use Rattle.air_events.specs.declared.Entry.{Entry}
use Rattle.air_events.specs.declared.Choice.{Choice}
use Rattle.q_round.specs.SpecValue.{SpecValue}
use Rattle.scenario_lines.specs.declared.version.Version.{Version}
use Rattle.scenario_lines.specs.declared.version.Version.TheVariants.{One, Two}
use Rattle.scenario_lines.specs.declared.keywords.Keyword.{Keyword}
use Rattle.scenario_lines.specs.declared.keywords.Keyword.TheVariants as keywords
use Rattle.scenario_lines.specs.declared.line.Happening.{Happening}
use Rattle.scenario_lines.specs.declared.line.Happening.TheVariants as happenings
use Rattle.scenario_lines.specs.declared.line.Line.{Line}
use Rattle.scenario_lines.specs.declared.line.Line.TheVariants as lines
use Rattle.checked_lines.specs.declared.fault.FaultReason.{FaultReason}
use Rattle.checked_lines.specs.declared.fault.FaultReason.TheVariants as faults
use Rattle.scenario.specs.declared.values.Step.{Step}
use Rattle.scenario.specs.declared.values.Step.TheVariants as steps
use Rattle.scenario.specs.Limits.{most_tags_of, most_air_lines, most_ops, most_steps}
use Rattle.scenario.specs.Draft.{DraftValue, HeadValue, new_draft, draft_after, tag_count}
use Rattle.scenario.specs.Standing.{ScenarioStanding, start, begun, first_head, head_size, linked, second_head, within, ended, standing_after, MayStandNext, LinesLead, HasRoomForLine, MayStand, IsOfVersion, MayCopy, NamesTag}
use Rattle.scenario.specs.AirLinesSoFar.{AirLinesValue, at_exchange, with_said, with_happening, MayFollow, KeepsOrder, ChoosesOnce}
use Rattle.scenario.specs.StepLinesSoFar.{IsBareRound, StepLinesValue, steps_of, with_last, with_step}
use Rattle.scenario.specs.Faults.{DisagreesBy, IsFirstUnmet}
use Rattle.scenario.proofs.Counts.{tags_more}
use Rattle.scenario.proofs.Settled.{not_empty, same_count}
use Rattle.scenario.specs.OrderFaults.{is_air, is_step, tags_by, tags_in, version_in, airs_in, steps_in, ops_behind, EndsInRound, IsFullBefore, IsNoEnd, IsRoundLine, MayStandBehind, happening_turn, ComesBefore, ChoosesOther, KeepsOrderBehind, ChoosesFirst, DisagreesWith}

-- lists with one more

all-push : {A : Type 0} (P : A → Type 0) (xs : List A) (x : A) → AllByRecursion P xs → P x → AllByRecursion P (xs ++ x ∷ [])
all-push P [] x all last = (last, tt)
all-push P (first ∷ xs) x all last = (all.0, all-push P xs x all.1 last)

all-front : {A : Type 0} (P : A → Type 0) (xs : List A) (x : A) → AllByRecursion P (xs ++ x ∷ []) → AllByRecursion P xs
all-front P [] x all = tt
all-front P (first ∷ xs) x all = (all.0, all-front P xs x all.1)

all-last : {A : Type 0} (P : A → Type 0) (xs : List A) (x : A) → AllByRecursion P (xs ++ x ∷ []) → P x
all-last P [] x all = all.0
all-last P (first ∷ xs) x all = all-last P xs x all.1

-- how many lines of a kind one line is
abbrev airs_one : Line → ℕ
airs_one line = airs_in (line ∷ [])

abbrev steps_one : Line → ℕ
steps_one line = steps_in (line ∷ [])

-- a line more is counted last
count-push : (counts : Line → Bool) (before : List Line) (line : Line)
    → length (filter counts (before ++ line ∷ [])) ≡ length (filter counts before) + length (filter counts (line ∷ []))
count-push counts before line = ap length (filter-append counts before (line ∷ [])) ∙ length-append (filter counts before) (filter counts (line ∷ []))

tags-push : (before : List Line) (line : Line) → tags_in (before ++ line ∷ []) ≡ tags_in before + tags_by line
tags-push [] line = omega arith
tags-push (first ∷ before) line = omega (arith, tags-push before line)

airs-push : (before : List Line) (line : Line) → airs_in (before ++ line ∷ []) ≡ airs_in before + airs_one line
airs-push = count-push is_air

steps-push : (before : List Line) (line : Line) → steps_in (before ++ line ∷ []) ≡ steps_in before + steps_one line
steps-push = count-push is_step

ops-push : (count : ℕ) (before : List Line) (line : Line) → ops_behind count (before ++ line ∷ []) ≡ ops_behind (ops_behind count before) (line ∷ [])
ops-push count [] line = refl
ops-push count (lines.Select selection ∷ before) line = ops-push 0 before line
ops-push count (lines.Nak ∷ before) line = ops-push 0 before line
ops-push count (lines.Event event tag ∷ before) line = ops-push 0 before line
ops-push count (lines.Round version spec ∷ before) line = ops-push 0 before line
ops-push count (lines.Op op ∷ before) line = ops-push (count + 1) before line
ops-push count (first ∷ before) line = ops-push count before line

-- what is said of one exchange

-- one thing more leaves its turn to what comes no earlier
may-still : (entry : Entry) (said happening : Happening) → MayFollow entry happening → happening_turn said ≤ happening_turn happening → MayFollow (with_happening entry said) happening
may-still entry (happenings.Event event tag) (happenings.Event event' tag') may turn = may
may-still entry said (happenings.Event event' tag') may turn = absurd (omega (arith, turn))
may-still entry (happenings.Choice choice) (happenings.Miss tag') may turn = absurd (omega (arith, turn))
may-still entry said (happenings.Miss tag') may turn = may
may-still entry said (happenings.Choice choice') may turn = tt

some-none : (choice : Choice) → Some choice ≡ None → ⊥
some-none choice same = cc

-- ... and what may follow it comes no earlier
turn-kept : (entry : Entry) (said happening : Happening) → MayFollow (with_happening entry said) happening → happening_turn said ≤ happening_turn happening
turn-kept entry (happenings.Miss tag) (happenings.Event event' tag') may = absurd (not_empty entry.missed tag may.0)
turn-kept entry (happenings.Choice choice) (happenings.Event event' tag') may = absurd (some-none choice may.1)
turn-kept entry (happenings.Choice choice) (happenings.Miss tag') may = absurd (some-none choice may)
turn-kept entry said happening may = omega arith

-- ... and could follow before
may-before : (entry : Entry) (said happening : Happening) → MayFollow (with_happening entry said) happening → MayFollow entry happening
may-before entry (happenings.Miss tag) (happenings.Event event' tag') may = absurd (not_empty entry.missed tag may.0)
may-before entry (happenings.Choice choice) (happenings.Event event' tag') may = absurd (some-none choice may.1)
may-before entry (happenings.Choice choice) (happenings.Miss tag') may = absurd (some-none choice may)
may-before entry said (happenings.Choice choice') may = tt
may-before entry said happening may = may

nothing-said : (happening : Happening) → MayFollow no_entry happening
nothing-said (happenings.Event event tag) = (refl, refl)
nothing-said (happenings.Miss tag) = refl
nothing-said (happenings.Choice choice) = tt

-- an exchange has no choice with one thing more where it had none, and that is none
choice-of : (entry : Entry) (said : Happening) (exchange number : ℕ) → exchange ≡ number → entry.choice ≡ None → ChoosesOther number (lines.Air exchange said) → (with_happening entry said).choice ≡ None
choice-of entry (happenings.Choice choice) exchange number same none other = absurd (other same)
choice-of entry said exchange number same none other = none

-- ... and where it has none, that was none
no-choice : (entry : Entry) (said : Happening) (exchange number : ℕ) → (number ≡ exchange → (with_happening entry said).choice ≡ None) → ChoosesOther number (lines.Air exchange said)
no-choice entry (happenings.Choice choice) exchange number none = λ same. some-none choice (none (sym same))
no-choice entry said exchange number none = tt

choice-before : (entry : Entry) (said : Happening) → (with_happening entry said).choice ≡ None → entry.choice ≡ None
choice-before entry (happenings.Choice choice) none = absurd (some-none choice none)
choice-before entry said none = none

-- What the number of the last exchange and what is said of it tell of the next air line, and what the lines before it do.
record TellsAirs (before : List Line) (last : ℕ) (latest : Entry) : Type 0 where
  order : (exchange : ℕ) (happening : Happening) → last ≤ exchange → (exchange ≡ last → MayFollow latest happening) → AllByRecursion (ComesBefore exchange happening) before
  above : (exchange : ℕ) (happening : Happening) → AllByRecursion (ComesBefore exchange happening) before → last ≤ exchange
  may : (exchange : ℕ) (happening : Happening) → AllByRecursion (ComesBefore exchange happening) before → exchange ≡ last → MayFollow latest happening
  once : (exchange : ℕ) → last ≤ exchange → (exchange ≡ last → latest.choice ≡ None) → AllByRecursion (ChoosesOther exchange) before
  chosen : (exchange : ℕ) → AllByRecursion (ChoosesOther exchange) before → exchange ≡ last → latest.choice ≡ None

-- a line that is no air line changes nothing of that
airs-kept : (before : List Line) (last : ℕ) (latest : Entry) (line : Line) → ((exchange : ℕ) (happening : Happening) → ComesBefore exchange happening line)
    → ((exchange : ℕ) → ChoosesOther exchange line) → TellsAirs before last latest → TellsAirs (before ++ line ∷ []) last latest
airs-kept before last latest line comes other told = record {
  order = λ exchange happening above may. all-push (ComesBefore exchange happening) before line (told.order exchange happening above may) (comes exchange happening);
  above = λ exchange happening all. told.above exchange happening (all-front (ComesBefore exchange happening) before line all);
  may = λ exchange happening all same. told.may exchange happening (all-front (ComesBefore exchange happening) before line all) same;
  once = λ exchange above none. all-push (ChoosesOther exchange) before line (told.once exchange above none) (other exchange);
  chosen = λ exchange all same. told.chosen exchange (all-front (ChoosesOther exchange) before line all) same;
}

-- one thing more of the last exchange
airs-same : (before : List Line) (last : ℕ) (latest : Entry) (said : Happening) → TellsAirs before last latest
    → TellsAirs (before ++ lines.Air last said ∷ []) last (with_happening latest said)
airs-same before last latest said told =
    let line = lines.Air last said in
    record {
      order = λ exchange happening above may.
          all-push (ComesBefore exchange happening) before line (told.order exchange happening above (λ same. may-before latest said happening (may same)))
          (above, λ same. turn-kept latest said happening (may (sym same)));
      above = λ exchange happening all. told.above exchange happening (all-front (ComesBefore exchange happening) before line all);
      may = λ exchange happening all same.
          may-still latest said happening (told.may exchange happening (all-front (ComesBefore exchange happening) before line all) same)
          ((all-last (ComesBefore exchange happening) before line all).1 (sym same));
      once = λ exchange above none.
          all-push (ChoosesOther exchange) before line (told.once exchange above (λ same. choice-before latest said (none same))) (no-choice latest said last exchange none);
      chosen = λ exchange all same.
          choice-of latest said last exchange (sym same) (told.chosen exchange (all-front (ChoosesOther exchange) before line all) same)
          (all-last (ChoosesOther exchange) before line all);
    }

-- the first of another exchange
airs-next : (before : List Line) (last next : ℕ) (latest : Entry) (said : Happening) → last < next → TellsAirs before last latest
    → TellsAirs (before ++ lines.Air next said ∷ []) next (with_happening no_entry said)
airs-next before last next latest said later told =
    let line = lines.Air next said in
    record {
      order = λ exchange happening above may.
          all-push (ComesBefore exchange happening) before line (told.order exchange happening (omega (arith, later, above)) (λ same. absurd (omega (arith, later, above, same))))
          (above, λ same. turn-kept no_entry said happening (may (sym same)));
      above = λ exchange happening all. (all-last (ComesBefore exchange happening) before line all).0;
      may = λ exchange happening all same. may-still no_entry said happening (nothing-said happening) ((all-last (ComesBefore exchange happening) before line all).1 (sym same));
      once = λ exchange above none.
          all-push (ChoosesOther exchange) before line (told.once exchange (omega (arith, later, above)) (λ same. absurd (omega (arith, later, above, same))))
          (no-choice no_entry said next exchange none);
      chosen = λ exchange all same. choice-of no_entry said next exchange (sym same) refl (all-last (ChoosesOther exchange) before line all);
    }

-- what is said of rounds

through : {A B C : Type 0} → A ↔ B → B ↔ C → A ↔ C
through first second = (λ a. second.0 (first.0 a), λ c. first.1 (second.1 c))

-- the last line is the one that is put behind the others
ends-push : (before : List Line) (line : Line) → IsRoundLine line ↔ EndsInRound (before ++ line ∷ [])
ends-push [] line = (λ ends. ends, λ ends. ends)
ends-push (first ∷ []) line = (λ ends. ends, λ ends. ends)
ends-push (first ∷ next ∷ before) line = ends-push (next ∷ before) line

-- the last step is a round exactly where the lines say so
abbrev TellsRound : List Line → StepLinesValue → Type 0
TellsRound before said = (said.round ≢ None) ↔ EndsInRound (filter is_step before)

-- a line that is no step changes nothing of that
round-kept : (before : List Line) (line : Line) (said grows : StepLinesValue) → filter is_step (line ∷ []) ≡ [] → grows.round ≡ said.round
    → TellsRound before said → TellsRound (before ++ line ∷ []) grows
round-kept before line said grows none same told =
    let steps : filter is_step (before ++ line ∷ []) ≡ filter is_step before =
    filter-append is_step before (line ∷ []) ∙ ap (λ (list : List Line). filter is_step before ++ list) none ∙ append-nil (filter is_step before) in
    subst (λ (list : List Line). (grows.round ≢ None) ↔ EndsInRound list) (sym steps)
    (subst (λ (round : Option SpecValue). (round ≢ None) ↔ EndsInRound (filter is_step before)) (sym same) told)

-- ... and a step is the last one then
round-next : (before : List Line) (line : Line) (grows : StepLinesValue) → filter is_step (line ∷ []) ≡ line ∷ [] → (grows.round ≢ None) ↔ IsRoundLine line
    → TellsRound (before ++ line ∷ []) grows
round-next before line grows one told =
    let steps : filter is_step (before ++ line ∷ []) ≡ filter is_step before ++ line ∷ [] =
    filter-append is_step before (line ∷ []) ∙ ap (λ (list : List Line). filter is_step before ++ list) one in
    subst (λ (list : List Line). (grows.round ≢ None) ↔ EndsInRound list) (sym steps) (through told (ends-push (filter is_step before) line))

-- no steps, no round
no-round : (closed : List Step) (round : Option SpecValue) (operations : OpList) → with_last closed round operations ≡ [] → round ≡ None
no-round closed None operations none = refl
no-round closed (Some spec) operations none = absurd (not_empty closed (steps.Round spec operations) none)

some-step : (spec : SpecValue) → Some spec ≢ None
some-step spec same = cc

some-epc : (epc : List ℕ) → Some epc ≢ None
some-epc epc same = cc

-- behind a line, these steps are told of by the lines as those before it were
record TellsRounds (line : Line) (said grows : StepLinesValue) : Type 0 where
  round : (before : List Line) → TellsRound before said → TellsRound (before ++ line ∷ []) grows
  bare : IsBareRound grows ↔ IsRoundLine line

-- a line of the operations of the last round
rounds-kept : (line : Line) (said grows : StepLinesValue) → filter is_step (line ∷ []) ≡ [] → grows.round ≡ said.round → (¬ IsBareRound grows) → (¬ IsRoundLine line)
    → TellsRounds line said grows
rounds-kept line said grows none same no_bare other = record {
  round = λ before told. round-kept before line said grows none same told;
  bare = (λ bare. absurd (no_bare bare), λ round. absurd (other round));
}

-- a line before all steps
rounds-before : (line : Line) (said : StepLinesValue) → filter is_step (line ∷ []) ≡ [] → steps_of said ≡ [] → (¬ IsRoundLine line) → TellsRounds line said said
rounds-before line said none no_steps other =
    rounds-kept line said said none refl (λ bare. bare.round (no-round said.closed said.round said.operations no_steps)) other

-- a step that is no round
rounds-step : (line : Line) (said : StepLinesValue) (step : Step) → filter is_step (line ∷ []) ≡ line ∷ [] → (¬ IsRoundLine line) → TellsRounds line said (with_step said step)
rounds-step line said step one other = record {
  round = λ before told. round-next before line (with_step said step) one (λ some. absurd (some refl), λ round. absurd (other round));
  bare = (λ bare. absurd (bare.round refl), λ round. absurd (other round));
}

-- What a draft tells of the next line, and what the lines before it do.
record Tells (before : List Line) (draft : DraftValue) : Type 0 where
  behind : List Line
  first : before ≡ lines.Version draft.head.version ∷ behind
  tags : tag_count draft ≡ tags_in before
  airs : draft.air.count ≡ airs_in before
  steps : length (steps_of draft.steps) ≡ steps_in before
  ops : length draft.steps.operations.ops ≡ ops_behind 0 before
  exchanges : TellsAirs before draft.air.exchange draft.air.latest
  goes_on : AllByRecursion IsNoEnd before
  long : head_size draft.head.version ≤ length before
  round : TellsRound before draft.steps
  bare : IsBareRound draft.steps ↔ EndsInRound before

length-push : {A : Type 0} (xs : List A) (x : A) → length (xs ++ x ∷ []) ≡ length xs + 1
length-push [] x = refl
length-push (first ∷ xs) x = let rest = length-push xs x in omega (arith, rest)

-- what a draft has more after one line
record Adds (line : Line) (draft grows : DraftValue) : Type 0 where
  head : grows.head ≡ draft.head
  tags : tag_count grows ≡ tag_count draft + tags_by line
  airs : grows.air.count ≡ draft.air.count + airs_one line
  steps : length (steps_of grows.steps) ≡ length (steps_of draft.steps) + steps_one line
  ops : length grows.steps.operations.ops ≡ ops_behind (length draft.steps.operations.ops) (line ∷ [])
  goes_on : IsNoEnd line
  rounds : TellsRounds line draft.steps grows.steps

tells-more : (before : List Line) (draft : DraftValue) (line : Line) (grows : DraftValue) → Tells before draft → Adds line draft grows
    → TellsAirs (before ++ line ∷ []) grows.air.exchange grows.air.latest → Tells (before ++ line ∷ []) grows
tells-more before draft line grows told adds exchanges = record {
  behind = told.behind ++ line ∷ [];
  first = ap (λ (list : List Line). list ++ line ∷ []) told.first
      ∙ ap (λ (head : HeadValue). lines.Version head.version ∷ told.behind ++ line ∷ []) (sym adds.head);
  tags = omega (arith, adds.tags, told.tags, tags-push before line);
  airs = omega (arith, adds.airs, told.airs, airs-push before line);
  steps = omega (arith, adds.steps, told.steps, steps-push before line);
  ops = adds.ops ∙ ap (λ count. ops_behind count (line ∷ [])) told.ops ∙ sym (ops-push 0 before line);
  exchanges = exchanges;
  goes_on = all-push IsNoEnd before line told.goes_on adds.goes_on;
  long = rw adds.head (omega (arith, told.long, length-append before (line ∷ [])));
  round = adds.rounds.round before told.round;
  bare = through adds.rounds.bare (ends-push before line);
}

-- an air line more
adds-air : (draft : DraftValue) (exchange : ℕ) (said : Happening) (air : AirLinesValue) → air.count ≡ draft.air.count + 1 → steps_of draft.steps ≡ []
    → Adds (lines.Air exchange said) draft (record draft { air = air })
adds-air draft exchange said air count no_steps = record {
  head = refl;
  tags = omega arith;
  airs = count;
  steps = omega arith;
  ops = refl;
  goes_on = tt;
  rounds = rounds-before (lines.Air exchange said) draft.steps refl no_steps (λ round. round);
}

air-draft_after : (before : List Line) (draft : DraftValue) (exchange : ℕ) (said : Happening) (same : Bool) → (exchange == draft.air.exchange) ≡ same → draft.air.exchange ≤ exchange → steps_of draft.steps ≡ []
    → Tells before draft
    → let counted = record draft.air { count = draft.air.count + 1 } in
    Tells (before ++ lines.Air exchange said ∷ []) (record draft { air = if same then with_said counted said else with_said (at_exchange counted exchange) said })
air-draft_after before draft exchange said true is above no_steps told =
    let counted = record draft.air { count = draft.air.count + 1 } in
    tells-more before draft (lines.Air exchange said) (record draft { air = with_said counted said }) told (adds-air draft exchange said (with_said counted said) refl no_steps)
    (subst (λ (n : ℕ). TellsAirs (before ++ lines.Air n said ∷ []) draft.air.exchange (with_happening draft.air.latest said)) (sym (eqb-true exchange draft.air.exchange is))
    (airs-same before draft.air.exchange draft.air.latest said told.exchanges))
air-draft_after before draft exchange said false is above no_steps told =
    let counted = record draft.air { count = draft.air.count + 1 } in
    let differs : exchange ≢ draft.air.exchange = eqb-false exchange draft.air.exchange is in
    tells-more before draft (lines.Air exchange said) (record draft { air = with_said (at_exchange counted exchange) said }) told
    (adds-air draft exchange said (with_said (at_exchange counted exchange) said) refl no_steps)
    (airs-next before draft.air.exchange exchange draft.air.latest said (omega (arith, above, differs)) told.exchanges)

-- the same of any place in a scenario
abbrev Stands : List Line → ScenarioStanding → Type 0
Stands before start = before ≡ []
Stands before (begun version) = before ≡ lines.Version version ∷ []
Stands before (linked link) = before ≡ lines.Version Two ∷ lines.Link link ∷ []
Stands before (within draft) = Tells before draft
Stands before (ended draft) = ¬ AllByRecursion IsNoEnd before

-- one line more
tells-one : (before : List Line) (draft : DraftValue) (line : Line) → MayStandNext (within draft) line → Tells before draft → Stands (before ++ line ∷ []) (standing_after (within draft) line)
tells-one before draft (lines.Tag tag) follows told =
    let line = lines.Tag tag in
    tells-more before draft line (draft_after draft line) told
    (record { head = refl; tags = tags_more draft.groups _ (record { count = 1; spec = tag }) refl; airs = omega arith; steps = omega arith; ops = refl; goes_on = tt; rounds = rounds-before line draft.steps refl follows.stands.1 (λ round. round) })
    (airs-kept before draft.air.exchange draft.air.latest line (λ exchange happening. tt) (λ exchange. tt) told.exchanges)
tells-one before draft (lines.Copies count tag) follows told =
    let line = lines.Copies count tag in
    tells-more before draft line (draft_after draft line) told
    (record { head = refl; tags = tags_more draft.groups _ (record { count = count; spec = tag }) refl; airs = omega arith; steps = omega arith; ops = refl; goes_on = tt; rounds = rounds-before line draft.steps refl follows.stands.2 (λ round. round) })
    (airs-kept before draft.air.exchange draft.air.latest line (λ exchange happening. tt) (λ exchange. tt) told.exchanges)
tells-one before draft (lines.Air exchange said) follows told = air-draft_after before draft exchange said (exchange == draft.air.exchange) refl follows.agrees.order.0 follows.stands told
tells-one before draft (lines.Select selection) follows told =
    let line = lines.Select selection in
    tells-more before draft line (draft_after draft line) told
    (record { head = refl; tags = omega arith; airs = omega arith; steps = length-push (steps_of draft.steps) _; ops = refl; goes_on = tt; rounds = rounds-step line draft.steps _ refl (λ round. round) })
    (airs-kept before draft.air.exchange draft.air.latest line (λ exchange happening. tt) (λ exchange. tt) told.exchanges)
tells-one before draft lines.Nak follows told =
    let line = lines.Nak in
    tells-more before draft line (draft_after draft line) told
    (record { head = refl; tags = omega arith; airs = omega arith; steps = length-push (steps_of draft.steps) _; ops = refl; goes_on = tt; rounds = rounds-step line draft.steps _ refl (λ round. round) })
    (airs-kept before draft.air.exchange draft.air.latest line (λ exchange happening. tt) (λ exchange. tt) told.exchanges)
tells-one before draft (lines.Event event tag) follows told =
    let line = lines.Event event tag in
    tells-more before draft line (draft_after draft line) told
    (record { head = refl; tags = omega arith; airs = omega arith; steps = length-push (steps_of draft.steps) _; ops = refl; goes_on = tt; rounds = rounds-step line draft.steps _ refl (λ round. round) })
    (airs-kept before draft.air.exchange draft.air.latest line (λ exchange happening. tt) (λ exchange. tt) told.exchanges)
tells-one before draft (lines.Round version spec) follows told =
    let line = lines.Round version spec in
    let grows = draft_after draft line in
    tells-more before draft line grows told
    (record {
      head = refl;
      tags = omega arith;
      airs = omega arith;
      steps = length-push (steps_of draft.steps) _;
      ops = refl;
      goes_on = tt;
      rounds = record {
        round = λ lines told_round. round-next lines line grows.steps refl (λ some. tt, λ any. some-step spec);
        bare = (λ is_bare. tt, λ any. record { round = some-step spec; only = refl; ops = refl });
      };
    })
    (airs-kept before draft.air.exchange draft.air.latest line (λ exchange happening. tt) (λ exchange. tt) told.exchanges)
tells-one before draft (lines.Only epc) follows told =
    let line = lines.Only epc in
    let grows = draft_after draft line in
    let count = same_count draft.steps.closed draft.steps.round draft.steps.operations grows.steps.operations in
    let rounds = rounds-kept line draft.steps grows.steps refl refl (λ is_bare. some-epc epc is_bare.only) (λ round. round) in
    tells-more before draft line grows told
    (record { head = refl; tags = omega arith; airs = omega arith; steps = omega (arith, count); ops = refl; goes_on = tt; rounds = rounds })
    (airs-kept before draft.air.exchange draft.air.latest line (λ exchange happening. tt) (λ exchange. tt) told.exchanges)
tells-one before draft (lines.Op op) follows told =
    let line = lines.Op op in
    let grows = draft_after draft line in
    let count = same_count draft.steps.closed draft.steps.round draft.steps.operations grows.steps.operations in
    let rounds = rounds-kept line draft.steps grows.steps refl refl (λ is_bare. not_empty draft.steps.operations.ops op is_bare.ops) (λ round. round) in
    let ops = length-push draft.steps.operations.ops op in
    tells-more before draft line grows told
    (record { head = refl; tags = omega arith; airs = omega arith; steps = omega (arith, count); ops = ops; goes_on = tt; rounds = rounds })
    (airs-kept before draft.air.exchange draft.air.latest line (λ exchange happening. tt) (λ exchange. tt) told.exchanges)
tells-one before draft lines.End follows told = λ all. all-last IsNoEnd before lines.End all
tells-one before draft line follows told = absurd follows.stands

stands-first : (before : List Line) (line : Line) → MayStandNext start line → before ≡ [] → Stands (before ++ line ∷ []) (standing_after start line)
stands-first before (lines.Version version) follows none = ap (λ (b : List Line). b ++ lines.Version version ∷ []) none
stands-first before line follows none = absurd follows.stands

-- behind the head nothing is settled
record IsHead (before : List Line) (version : Version) : Type 0 where
  behind : List Line
  first : before ≡ lines.Version version ∷ behind
  tags : tags_in before ≡ 0
  airs : airs_in before ≡ 0
  steps : steps_in before ≡ 0
  ops : ops_behind 0 before ≡ 0
  order : (exchange : ℕ) (happening : Happening) → AllByRecursion (ComesBefore exchange happening) before
  once : (exchange : ℕ) → AllByRecursion (ChoosesOther exchange) before
  goes_on : AllByRecursion IsNoEnd before
  long : head_size version ≤ length before
  no_round : ¬ EndsInRound (filter is_step before)
  no_last : ¬ EndsInRound before

tells-none : (before : List Line) (head : HeadValue) → IsHead before head.version → Tells before (new_draft head)
tells-none before head is = record {
  behind = is.behind;
  first = is.first;
  tags = sym is.tags;
  airs = sym is.airs;
  steps = sym is.steps;
  ops = sym is.ops;
  exchanges = record {
    order = λ exchange happening above may. is.order exchange happening;
    above = λ exchange happening all. omega arith;
    may = λ exchange happening all same. nothing-said happening;
    once = λ exchange above none. is.once exchange;
    chosen = λ exchange all same. refl;
  };
  goes_on = is.goes_on;
  long = is.long;
  round = (λ some. absurd (some refl), λ ends. absurd (is.no_round ends));
  bare = (λ bare. absurd (bare.round refl), λ ends. absurd (is.no_last ends));
}

first-head-lines : (link : _) → IsHead (lines.Version One ∷ lines.Link link ∷ []) One
first-head-lines link = record {
  behind = lines.Link link ∷ [];
  first = refl;
  tags = refl;
  airs = refl;
  steps = refl;
  ops = refl;
  order = λ exchange happening. (tt, (tt, tt));
  once = λ exchange. (tt, (tt, tt));
  goes_on = (tt, (tt, tt));
  long = omega arith;
  no_round = λ ends. ends;
  no_last = λ ends. ends;
}

second-head-lines : (link : _) (several : _) → IsHead (lines.Version Two ∷ lines.Link link ∷ lines.Default several ∷ []) Two
second-head-lines link several = record {
  behind = lines.Link link ∷ lines.Default several ∷ [];
  first = refl;
  tags = refl;
  airs = refl;
  steps = refl;
  ops = refl;
  order = λ exchange happening. (tt, (tt, (tt, tt)));
  once = λ exchange. (tt, (tt, (tt, tt)));
  goes_on = (tt, (tt, (tt, tt)));
  long = omega arith;
  no_round = λ ends. ends;
  no_last = λ ends. ends;
}

stands-second : (before : List Line) (version : Version) (line : Line) → MayStandNext (begun version) line → before ≡ lines.Version version ∷ []
    → Stands (before ++ line ∷ []) (standing_after (begun version) line)
stands-second before One (lines.Link link) follows is =
    subst (λ (b : List Line). Tells (b ++ lines.Link link ∷ []) (new_draft (first_head link))) (sym is)
    (tells-none _ (first_head link) (first-head-lines link))
stands-second before Two (lines.Link link) follows is = ap (λ (b : List Line). b ++ lines.Link link ∷ []) is
stands-second before version line follows is = absurd follows.stands

stands-third : (before : List Line) (link : _) (line : Line) → MayStandNext (linked link) line → before ≡ lines.Version Two ∷ lines.Link link ∷ []
    → Stands (before ++ line ∷ []) (standing_after (linked link) line)
stands-third before link (lines.Default several) follows is =
    subst (λ (b : List Line). Tells (b ++ lines.Default several ∷ []) (new_draft (second_head link several))) (sym is)
    (tells-none _ (second_head link several) (second-head-lines link several))
stands-third before link line follows is = absurd follows.stands

stands-one : (before : List Line) (from : ScenarioStanding) (line : Line) → MayStandNext from line → Stands before from → Stands (before ++ line ∷ []) (standing_after from line)
stands-one before start line follows stands = stands-first before line follows stands
stands-one before (begun version) line follows stands = stands-second before version line follows stands
stands-one before (linked link) line follows stands = stands-third before link line follows stands
stands-one before (within draft) line follows stands = tells-one before draft line follows stands
stands-one before (ended draft) line follows stands = absurd follows.stands

stands-behind : (before said : List Line) (from to : ScenarioStanding) → LinesLead from said to → Stands before from → Stands (before ++ said) to
stands-behind before [] from to leads stands = subst (λ (b : List Line). Stands b to) (sym (append-nil before)) (subst (Stands before) leads stands)
stands-behind before (line ∷ said) from to leads stands =
    subst (λ (b : List Line). Stands b to) (append_assoc before (line ∷ []) said)
    (stands-behind (before ++ line ∷ []) said (standing_after from line) to leads.1 (stands-one before from line leads.0 stands))

tells : (said : List Line) (draft : DraftValue) → LinesLead start said (within draft) → Tells said draft
tells said draft leads = stands-behind [] said start (within draft) leads refl

-- a head has two lines at least
head-long : (version : Version) → 2 ≤ head_size version
head-long One = omega arith
head-long Two = omega arith

-- Which line may stand behind these lines: at the head it is by their number alone.
stand-first : (keyword : Keyword) → MayStand start keyword ↔ MayStandBehind [] keyword
stand-first keywords.Version = (λ may. record { goes_on = tt; place = refl; order = tt }, λ may. tt)
stand-first keywords.Default = (λ may. absurd may, λ may. absurd (omega (arith, may.place.1)))
stand-first keyword = (λ may. absurd may, λ may. absurd (omega (arith, may.place)))

stand-second : (version : Version) (keyword : Keyword) → MayStand (begun version) keyword ↔ MayStandBehind (lines.Version version ∷ []) keyword
stand-second version keywords.Link = (λ may. record { goes_on = (tt, tt); place = refl; order = tt }, λ may. tt)
stand-second version keywords.Default = (λ may. absurd may, λ may. absurd (omega (arith, may.place.1)))
stand-second version keyword = (λ may. absurd may, λ may. absurd (omega (arith, head-long version, may.place)))

stand-third : (link : _) (keyword : Keyword) → MayStand (linked link) keyword ↔ MayStandBehind (lines.Version Two ∷ lines.Link link ∷ []) keyword
stand-third link keywords.Default = (λ may. record { goes_on = (tt, (tt, tt)); place = (refl, refl); order = tt }, λ may. tt)
stand-third link keyword = (λ may. absurd may, λ may. absurd (omega (arith, may.place)))

-- there is room exactly where the lines before are not full
less-or-not : (count most : ℕ) → (¬ (most ≤ count)) → count < most
less-or-not count most few = elim (cases_lt count most) [ inl less ↦ less | inr full ↦ absurd (few full) ]

room-or-full : (count counted most : ℕ) → count ≡ counted → (count < most) ↔ (¬ (most ≤ counted))
room-or-full count counted most same =
    (λ room full. absurd (omega (arith, same, room, full)), λ few. less-or-not count most (λ full. few (omega (arith, same, full))))

always : {A : Type 0} → A → A ↔ (¬ ⊥)
always value = (λ any none. none, λ any. value)

-- the version is that of the first line
version-told : (said : List Line) (draft : DraftValue) → Tells said draft → version_in said ≡ draft.head.version
version-told said draft told = ap version_in told.first

-- behind the head
no-steps : (said : List Line) (draft : DraftValue) → Tells said draft → (steps_of draft.steps ≡ []) ↔ (steps_in said ≡ 0)
no-steps said draft told = (λ none. sym told.steps ∙ ap length none, λ none. nil_from_length (steps_of draft.steps) (told.steps ∙ none))

no-airs : (said : List Line) (draft : DraftValue) → Tells said draft → (draft.air.count ≡ 0) ↔ (airs_in said ≡ 0)
no-airs said draft told = (λ none. sym told.airs ∙ none, λ none. told.airs ∙ none)

stand-within : (said : List Line) (draft : DraftValue) (keyword : Keyword) → Tells said draft → MayStand (within draft) keyword ↔ MayStandBehind said keyword
stand-within said draft keywords.Version told = (λ may. absurd may, λ may. absurd (omega (arith, told.long, head-long draft.head.version, may.place)))
stand-within said draft keywords.Link told = (λ may. absurd may, λ may. absurd (omega (arith, told.long, head-long draft.head.version, may.place)))
stand-within said draft keywords.Default told = (
  λ may. absurd may,
  λ may.
      let three : head_size draft.head.version ≡ 3 = ap head_size (sym (version-told said draft told) ∙ may.place.0) in
      absurd (omega (arith, told.long, three, may.place.1)),
)
stand-within said draft keywords.Tag told =
    let airs = no-airs said draft told in
    let steps = no-steps said draft told in (
      λ may. record { goes_on = told.goes_on; place = rw (version-told said draft told) told.long; order = (airs.0 may.0, steps.0 may.1) },
      λ may. (airs.1 may.order.0, steps.1 may.order.1),
    )
stand-within said draft keywords.Copies told =
    let version = version-told said draft told in
    let airs = no-airs said draft told in
    let steps = no-steps said draft told in (
      λ may. record { goes_on = told.goes_on; place = rw version told.long; order = (version ∙ may.0, airs.0 may.1, steps.0 may.2) },
      λ may. (sym version ∙ may.order.0, airs.1 may.order.1, steps.1 may.order.2),
    )
stand-within said draft keywords.Air told =
    let steps = no-steps said draft told in
    (λ may. record { goes_on = told.goes_on; place = rw (version-told said draft told) told.long; order = steps.0 may }, λ may. steps.1 may.order)
stand-within said draft keywords.Only told =
    (λ may. record { goes_on = told.goes_on; place = rw (version-told said draft told) told.long; order = told.bare.0 may }, λ may. told.bare.1 may.order)
stand-within said draft keywords.Op told =
    (λ may. record { goes_on = told.goes_on; place = rw (version-told said draft told) told.long; order = told.round.0 may }, λ may. told.round.1 may.order)
stand-within said draft keyword told = (λ may. record { goes_on = told.goes_on; place = rw (version-told said draft told) told.long; order = tt }, λ may. tt)

may-stand-here : (said : List Line) (standing : ScenarioStanding) (keyword : Keyword) → Stands said standing → MayStand standing keyword ↔ MayStandBehind said keyword
may-stand-here said start keyword stands = subst (λ (list : List Line). MayStand start keyword ↔ MayStandBehind list keyword) (sym stands) (stand-first keyword)
may-stand-here said (begun version) keyword stands =
    subst (λ (list : List Line). MayStand (begun version) keyword ↔ MayStandBehind list keyword) (sym stands) (stand-second version keyword)
may-stand-here said (linked link) keyword stands =
    subst (λ (list : List Line). MayStand (linked link) keyword ↔ MayStandBehind list keyword) (sym stands) (stand-third link keyword)
may-stand-here said (within draft) keyword stands = stand-within said draft keyword stands
may-stand-here said (ended draft) keyword stands = (λ may. absurd may, λ may. absurd (stands may.goes_on))

pub may-stand : (said : List Line) (standing : ScenarioStanding) (keyword : Keyword) → LinesLead start said standing → MayStand standing keyword ↔ MayStandBehind said keyword
may-stand said standing keyword leads = may-stand-here said standing keyword (stands-behind [] said start standing leads refl)

room-for-tags : (said : List Line) (draft : DraftValue) → Tells said draft
    → (tag_count draft < most_tags_of draft.head.version) ↔ (¬ (most_tags_of (version_in said) ≤ tags_in said))
room-for-tags said draft told =
    rw (version-told said draft told) (room-or-full (tag_count draft) (tags_in said) (most_tags_of draft.head.version) told.tags)

pub has-room : (said : List Line) (draft : DraftValue) (keyword : Keyword) → LinesLead start said (within draft) → HasRoomForLine (within draft) keyword ↔ (¬ IsFullBefore said keyword)
has-room said draft keywords.Tag leads = room-for-tags said draft (tells said draft leads)
has-room said draft keywords.Copies leads = room-for-tags said draft (tells said draft leads)
has-room said draft keywords.Air leads = room-or-full draft.air.count (airs_in said) most_air_lines (tells said draft leads).airs
has-room said draft keywords.Select leads = room-or-full (length (steps_of draft.steps)) (steps_in said) most_steps (tells said draft leads).steps
has-room said draft keywords.Nak leads = room-or-full (length (steps_of draft.steps)) (steps_in said) most_steps (tells said draft leads).steps
has-room said draft keywords.Event leads = room-or-full (length (steps_of draft.steps)) (steps_in said) most_steps (tells said draft leads).steps
has-room said draft keywords.Round leads = room-or-full (length (steps_of draft.steps)) (steps_in said) most_steps (tells said draft leads).steps
has-room said draft keywords.Op leads = room-or-full (length draft.steps.operations.ops) (ops_behind 0 said) most_ops (tells said draft leads).ops
has-room said draft keyword leads = always tt

keeps-order : (said : List Line) (draft : DraftValue) (line : Line) → Tells said draft → KeepsOrder draft.air line ↔ KeepsOrderBehind said line
keeps-order said draft (lines.Air exchange happening) told =
    (λ keeps. told.exchanges.order exchange happening keeps.0 keeps.1, λ all. (told.exchanges.above exchange happening all, told.exchanges.may exchange happening all))
keeps-order said draft line told = (λ keeps. keeps, λ keeps. keeps)

chooses-once : (said : List Line) (draft : DraftValue) (line : Line) → Tells said draft → KeepsOrder draft.air line → ChoosesOnce draft.air line ↔ ChoosesFirst said line
chooses-once said draft (lines.Air exchange (happenings.Choice choice)) told keeps = (told.exchanges.once exchange keeps.0, told.exchanges.chosen exchange)
chooses-once said draft line told keeps = (λ once. once, λ once. once)

names-tag : (said : List Line) (draft : DraftValue) (line : Line) → Tells said draft → NamesTag (tag_count draft) line ↔ NamesTag (tags_in said) line
names-tag said draft line told = (subst (λ n. NamesTag n line) told.tags, subst (λ n. NamesTag n line) (sym told.tags))

of-version : (said : List Line) (draft : DraftValue) (line : Line) → Tells said draft
    → IsOfVersion draft.head.version line ↔ IsOfVersion (version_in said) line
of-version said draft line told =
    let same = version-told said draft told in
    (subst (λ (version : Version). IsOfVersion version line) (sym same), subst (λ (version : Version). IsOfVersion version line) same)

may-copy : (said : List Line) (draft : DraftValue) (line : Line) → Tells said draft → MayCopy (tag_count draft) line ↔ MayCopy (tags_in said) line
may-copy said draft line told = (subst (λ n. MayCopy n line) told.tags, subst (λ n. MayCopy n line) (sym told.tags))

one-way : (first first' : Type 0) (cause : FaultReason) (others others' : FaultReason → Type 0) (fault : FaultReason) → first ↔ first' → (first → others fault → others' fault)
    → IsFirstUnmet first cause others fault → IsFirstUnmet first' cause others' fault
one-way first first' cause others others' fault same rest (inl fails) = inl ((λ holds. fails.0 (same.1 holds)), fails.1)
one-way first first' cause others others' fault same rest (inr holds) = inr (same.0 holds.0, rest holds.0 holds.1)

-- the reasons are the same
abbrev Same : (FaultReason → Type 0) → (FaultReason → Type 0) → Type 0
Same reasons others = (fault : FaultReason) → reasons fault ↔ others fault

-- ... where what holds is, and where then the others are
same-fails : (first first' : Type 0) (cause : FaultReason) (others others' : FaultReason → Type 0) → first ↔ first' → (first → Same others others')
    → Same (IsFirstUnmet first cause others) (IsFirstUnmet first' cause others')
same-fails first first' cause others others' same rest fault = (
  one-way first first' cause others others' fault same (λ holds. (rest holds fault).0),
  one-way first' first cause others' others fault (same.1, same.0) (λ holds. (rest (same.1 holds) fault).1),
)

same-reasons : (said : List Line) (draft : DraftValue) (line : Line) → Tells said draft → Same (DisagreesBy draft line) (DisagreesWith said line)
same-reasons said draft line told =
    same-fails _ _ faults.Number _ _ (of-version said draft line told)
    (λ version. same-fails _ _ faults.Copies _ _ (may-copy said draft line told)
    (λ copies. same-fails _ _ faults.Tag _ _ (names-tag said draft line told)
    (λ names. same-fails _ _ faults.Order _ _ (keeps-order said draft line told)
    (λ order. same-fails _ _ faults.Twice _ _ (chooses-once said draft line told order) (λ once fault. (λ none. none, λ none. none))))))

pub disagrees-with : (said : List Line) (draft : DraftValue) (line : Line) (fault : FaultReason) → LinesLead start said (within draft) → DisagreesBy draft line fault ↔ DisagreesWith said line fault
disagrees-with said draft line fault leads = same-reasons said draft line (tells said draft leads) fault
