-- The lines of a scenario that keeps the limits follow one another from the start to the end, and say it.
use Rattle.std.proofs.Common.{◌≡◌, ◌≢◌, ℕ, zero, suc, ◌+◌, ◌<◌, ◌≤◌, ◌==◌, true, false, List, [], ◌∷◌, ◌++◌, length, map, Option, Some, None, inl, inr, refl, sym, ◌∙◌, ap, subst, arith, append_assoc, add-zero}
use Rattle.std.specs.Prelude.{All, IfSome}
use Rattle.std.specs.List.{flat_map}
use Rattle.std.proofs.lemmas.Bool.{eq-eqb, ne_eqb}
use Rattle.std.proofs.lemmas.List.{length-append, length-map, append-nil}
use Rattle.std.proofs.lemmas.List.Elements.{All-head, All-tail}
use Rattle.air_events.specs.declared.Event.{Event}
use Rattle.air_events.specs.declared.Choice.{Choice}
use Rattle.air_events.specs.declared.Entry.{Entry}
use Rattle.command_grammar.specs.declared.commands.Command.TheVariants as commands
use Rattle.pie_line.specs.Link.{LinkValue, IsLegalLink}
use Rattle.air_events.specs.declared.Several.{Several}
use Rattle.scenario_lines.specs.declared.version.Version.{Version}
use Rattle.scenario_lines.specs.declared.version.Version.TheVariants.{One, Two}
use Rattle.scenario_lines.specs.declared.tag.TagSpec.{TagSpec}
use Rattle.scenario_lines.specs.declared.line.Happening.{Happening}
use Rattle.scenario_lines.specs.declared.line.Happening.TheVariants as happenings
use Rattle.scenario_lines.specs.declared.line.Line.{Line}
use Rattle.scenario_lines.specs.declared.line.Line.TheVariants as lines
use Rattle.access_ops.specs.laws.OperationLaws.{IsLegalOp}
use Rattle.scenario_lines.specs.LineForm.{IsChoice, IsEpc, IsEvent, IsExchange, IsLinkForm, IsPlace, IsRound}
use Rattle.access_ops.specs.declared.Op.{Op}
use Rattle.access_ops.specs.declared.OpList.{OpList}
use Rattle.q_round.specs.SpecValue.{SpecValue}
use Rattle.scenario.specs.declared.values.Step.{Step}
use Rattle.scenario.specs.declared.values.Step.TheVariants as steps
use Rattle.scenario.specs.declared.values.Scenario.{Scenario}
use Rattle.scenario.specs.declared.values.TagGroup.{TagGroup}
use Rattle.scenario.specs.Groups.{copies_of, tags_of}
use Rattle.scenario.proofs.Groups.{count_copies}
use Rattle.scenario.specs.EntryLines.{air_lines, choice_lines, entry_lines}
use Rattle.scenario.specs.ScenarioText.{group_line, head_lines, only_lines, operation_lines, scenario_lines, step_lines}
use Rattle.scenario.specs.Limits.{IsDefault, IsEntry, IsGroup, IsOpList, IsScenario, IsStep, SaysSomething, most_air_lines, most_ops, most_steps, most_tags_of}
use Rattle.air_events.specs.Entries.{Rises, no_entry}
use Rattle.scenario.specs.AirLinesSoFar.{ChoosesOnce, entries_of, with_said}
use Rattle.scenario.specs.Draft.{DraftValue, HeadValue, draft_with_step, new_draft, scenario_of, tag_count}
use Rattle.scenario.specs.Standing.{MayStandNext, IsSaid, LinesLead, ScenarioStanding, standing_after, begun, ended, linked, start, within}
use Rattle.scenario.specs.StepLinesSoFar.{steps_of}
use Rattle.scenario.proofs.Counts.{tags_more}
use Rattle.scenario.proofs.Leading.{leads_on}
use Rattle.scenario.proofs.Settled.{last_one}

-- a link that keeps its ranges has the form of a line's
legal_form : (link : LinkValue) → IsLegalLink link → IsLinkForm link
legal_form link legal =
    let tari = legal.tari_range in
    let rtcal = legal.rtcal_range in
    let trcal = legal.trcal_range in
    let pw = legal.pw_range in
    record { tari = omega arith; rtcal = omega arith; trcal = omega arith; pw = omega arith }

-- a draft with these tags alone
abbrev tags_draft : HeadValue → List TagGroup → DraftValue
tags_draft head groups = record (new_draft head) { groups = groups }

-- what is known of a group whose line may follow
record Fits (head : HeadValue) (before : List TagGroup) (group : TagGroup) : Type 0 where
  is : IsGroup head.version group
  few : length (tags_of before) + group.count ≤ most_tags_of head.version

-- the line of a group follows, and adds it
abbrev Joins : HeadValue → List TagGroup → TagGroup → Type 0
Joins head before group =
    MayStandNext (within (tags_draft head before)) (group_line group)
    × (standing_after (within (tags_draft head before)) (group_line group) ≡ within (tags_draft head (before ++ group ∷ [])))

-- the line of one tag
join_one : (head : HeadValue) (before : List TagGroup) (tag : TagSpec) → Fits head before (record { count = 1; spec = tag })
    → Joins head before (record { count = 1; spec = tag })
join_one head before tag fits = (
  record {
    is = record { form = fits.is.tag.form; coherent = fits.is.tag.pc };
    stands = (refl, refl);
    room = omega (arith, fits.few);
    agrees = record { version = tt; copies = tt; names = tt; order = tt; once = tt };
  },
  refl,
)

-- the line of several copies, which version 2 has alone
join_several : (version : Version) (link : LinkValue) (several : Several) (before : List TagGroup) (count : ℕ) (tag : TagSpec) → 2 ≤ count
    → Fits (record { version = version; link = link; several = several }) before (record { count = count; spec = tag })
    → Joins (record { version = version; link = link; several = several }) before (record { count = count; spec = tag })
join_several One link several before count tag some fits = absurd (omega (arith, some, fits.is.count))
join_several Two link several before count tag some fits =
    let head : HeadValue = record { version = Two; link = link; several = several } in
    let group : TagGroup = record { count = count; spec = tag } in
    let follows : MayStandNext (within (tags_draft head before)) (lines.Copies count tag) = record {
      is = record { form = ((some, omega (arith, fits.few)), fits.is.tag.form); coherent = fits.is.tag.pc };
      stands = (refl, refl, refl);
      room = omega (arith, some, fits.few);
      agrees = record { version = tt; copies = (fits.is.differ (omega (arith, some)), fits.few); names = tt; order = tt; once = tt };
    } in
    rw (ne_eqb count 1 (λ one. omega (arith, some, one))) (follows, refl)

no_group_of_none : (version : Version) (tag : TagSpec) → IsGroup version (record { count = 0; spec = tag }) → ⊥
no_group_of_none One tag is = omega (arith, is.count)
no_group_of_none Two tag is = omega (arith, is.count)

join : (head : HeadValue) (before : List TagGroup) (count : ℕ) (tag : TagSpec) → Fits head before (record { count = count; spec = tag })
    → Joins head before (record { count = count; spec = tag })
join head before zero tag fits = absurd (no_group_of_none head.version tag fits.is)
join head before (suc zero) tag fits = join_one head before tag fits
join head before (suc (suc more)) tag fits = join_several head.version head.link head.several before (suc (suc more)) tag (omega arith) fits

-- the tags of a group, and of others behind it
pub tags_first : (group : TagGroup) (todo : List TagGroup) → length (tags_of (group ∷ todo)) ≡ group.count + length (tags_of todo)
tags_first group todo = length-append (copies_of group) (tags_of todo) ∙ ap (λ n. n + length (tags_of todo)) (count_copies group.count group.spec)

speak_groups : (head : HeadValue) (before todo : List TagGroup) → All (IsGroup head.version) todo
    → length (tags_of before) + length (tags_of todo) ≤ most_tags_of head.version
    → LinesLead (within (tags_draft head before)) (map group_line todo) (within (tags_draft head (before ++ todo)))
speak_groups head before [] are few = ap (λ (groups : List TagGroup). within (tags_draft head groups)) (sym (append-nil before))
speak_groups head before (group ∷ todo) are few =
    let is = All-head (IsGroup head.version) group todo are in
    let count = tags_first group todo in
    let joins = join head before group.count group.spec (record { is = is; few = omega (arith, few, count) }) in
    let added = tags_more before (before ++ group ∷ []) group refl in
    let others = speak_groups head (before ++ group ∷ []) todo (All-tail (IsGroup head.version) group todo are) (omega (arith, few, count, added)) in
    let rest : LinesLead (within (tags_draft head (before ++ group ∷ []))) (map group_line todo) (within (tags_draft head (before ++ group ∷ todo))) =
    subst (λ (groups : List TagGroup). LinesLead (within (tags_draft head (before ++ group ∷ []))) (map group_line todo) (within (tags_draft head groups)))
    (append_assoc before (group ∷ []) todo) others in
    (joins.0, subst (λ (s : ScenarioStanding). LinesLead s (map group_line todo) (within (tags_draft head (before ++ group ∷ todo)))) (sym joins.1) rest)

-- a draft to which so many lines on another exchange were added
abbrev with_airs : DraftValue → ℕ → ℕ → Entry → DraftValue
with_airs draft airs number latest =
    record draft { air = record { count = airs; closed = entries_of draft.air; exchange = number; latest = latest } }

abbrev on_exchange : DraftValue → ℕ → List (Event × ℕ) → List ℕ → Option Choice → ℕ → DraftValue
on_exchange draft number events missed choice added =
    with_airs draft (draft.air.count + added) number (record { events = events; missed = missed; choice = choice })

-- one thing more is said of the last exchange of a draft
abbrev saying : DraftValue → Happening → DraftValue
saying draft happening = record draft { air = with_said draft.air happening }

same_exchange : (number : ℕ) → (number == number) ≡ true
same_exchange number = eq-eqb number number refl

-- one line more on the exchange
air_again : (draft : DraftValue) (number : ℕ) (entry : Entry) (added : ℕ) (happening : Happening)
    → standing_after (within (with_airs draft (draft.air.count + added) number entry)) (lines.Air number happening)
    ≡ within (saying (with_airs draft (draft.air.count + (added + 1)) number entry) happening)
air_again draft number entry added happening =
    let count : draft.air.count + added + 1 ≡ draft.air.count + (added + 1) = omega arith in
    rw (same_exchange number) (ap (λ (airs : ℕ). within (saying (with_airs draft airs number entry) happening)) count)

-- where lines lead, by another name
leads_to : (from to to' : ScenarioStanding) (said : List Line) → to ≡ to' → LinesLead from said to → LinesLead from said to'
leads_to from to to' said same leads = subst (λ (s : ScenarioStanding). LinesLead from said s) same leads

-- one line on the exchange, and then others
air_then : (draft : DraftValue) (number : ℕ) (entry : Entry) (added : ℕ) (happening : Happening) (said : List Line) (to : ScenarioStanding)
    → MayStandNext (within (with_airs draft (draft.air.count + added) number entry)) (lines.Air number happening)
    → LinesLead (within (saying (with_airs draft (draft.air.count + (added + 1)) number entry) happening)) said to
    → LinesLead (within (with_airs draft (draft.air.count + added) number entry)) (lines.Air number happening ∷ said) to
air_then draft number entry added happening said to follows leads =
    (follows, subst (λ (s : ScenarioStanding). LinesLead s said to) (sym (air_again draft number entry added happening)) leads)

-- lines on this exchange may stand behind the draft
abbrev TakesAir : DraftValue → ℕ → Type 0
TakesAir draft number = (steps_of draft.steps ≡ []) × IsExchange number

speak_events : (draft : DraftValue) (number : ℕ) (before todo : List (Event × ℕ)) (added : ℕ) → TakesAir draft number
    → All (λ (event : Event × ℕ). IsEvent event.0 event.1 × (event.1 < tag_count draft)) todo → draft.air.count + added + length todo ≤ most_air_lines
    → LinesLead (within (on_exchange draft number before [] None added)) (map (λ (event : Event × ℕ). lines.Air number (happenings.Event event.0 event.1)) todo)
    (within (on_exchange draft number (before ++ todo) [] None (added + length todo)))
speak_events draft number before [] added takes are few = rw (append-nil, add-zero) refl
speak_events draft number before (event ∷ todo) added takes are few =
    let IsIt : Event × ℕ → Type 0 = λ event. IsEvent event.0 event.1 × (event.1 < tag_count draft) in
    let head = All-head IsIt event todo are in
    let follows : MayStandNext (within (on_exchange draft number before [] None added)) (lines.Air number (happenings.Event event.0 event.1)) = record {
      is = record { form = (takes.1, head.0); coherent = tt };
      stands = takes.0;
      room = omega arith;
      agrees = record { version = tt; copies = tt; names = head.1; order = (omega arith, λ same. (refl, refl)); once = tt };
    } in
    let others = speak_events draft number (before ++ event ∷ []) todo (added + 1) takes (All-tail IsIt event todo are) (omega arith) in
    let count : added + 1 + length todo ≡ added + length (event ∷ todo) = omega arith in
    let same : within (on_exchange draft number (before ++ event ∷ [] ++ todo) [] None (added + 1 + length todo))
    ≡ within (on_exchange draft number (before ++ event ∷ todo) [] None (added + length (event ∷ todo))) =
    rw (append_assoc before (event ∷ []) todo, count) refl in
    air_then draft number (record { events = before; missed = []; choice = None }) added (happenings.Event event.0 event.1) _ _ follows (leads_to _ _ _ _ same others)

speak_misses : (draft : DraftValue) (number : ℕ) (events : List (Event × ℕ)) (before todo : List ℕ) (added : ℕ) → TakesAir draft number
    → All (λ tag. IsPlace tag × (tag < tag_count draft)) todo → draft.air.count + added + length todo ≤ most_air_lines
    → LinesLead (within (on_exchange draft number events before None added)) (map (λ tag. lines.Air number (happenings.Miss tag)) todo)
    (within (on_exchange draft number events (before ++ todo) None (added + length todo)))
speak_misses draft number events before [] added takes are few = rw (append-nil, add-zero) refl
speak_misses draft number events before (tag ∷ todo) added takes are few =
    let IsIt : ℕ → Type 0 = λ tag. IsPlace tag × (tag < tag_count draft) in
    let head = All-head IsIt tag todo are in
    let follows : MayStandNext (within (on_exchange draft number events before None added)) (lines.Air number (happenings.Miss tag)) = record {
      is = record { form = (takes.1, head.0); coherent = tt };
      stands = takes.0;
      room = omega arith;
      agrees = record { version = tt; copies = tt; names = head.1; order = (omega arith, λ same. refl); once = tt };
    } in
    let others = speak_misses draft number events (before ++ tag ∷ []) todo (added + 1) takes (All-tail IsIt tag todo are) (omega arith) in
    let count : added + 1 + length todo ≡ added + length (tag ∷ todo) = omega arith in
    let same : within (on_exchange draft number events (before ++ tag ∷ [] ++ todo) None (added + 1 + length todo))
    ≡ within (on_exchange draft number events (before ++ tag ∷ todo) None (added + length (tag ∷ todo))) =
    rw (append_assoc before (tag ∷ []) todo, count) refl in
    air_then draft number (record { events = events; missed = before; choice = None }) added (happenings.Miss tag) _ _ follows (leads_to _ _ _ _ same others)

speak_choice : (draft : DraftValue) (number : ℕ) (events : List (Event × ℕ)) (missed : List ℕ) (choice : Option Choice) (added : ℕ) → TakesAir draft number
    → IfSome choice IsChoice → draft.air.count + added + length (choice_lines number choice) ≤ most_air_lines
    → LinesLead (within (on_exchange draft number events missed None added)) (choice_lines number choice)
    (within (on_exchange draft number events missed choice (added + length (choice_lines number choice))))
speak_choice draft number events missed None added takes chosen few = rw add-zero refl
speak_choice draft number events missed (Some choice) added takes chosen few =
    let follows : MayStandNext (within (on_exchange draft number events missed None added)) (lines.Air number (happenings.Choice choice)) = record {
      is = record { form = (takes.1, chosen); coherent = tt };
      stands = takes.0;
      room = omega arith;
      agrees = record { version = tt; copies = tt; names = tt; order = (omega arith, λ same. tt); once = λ same. refl };
    } in
    air_then draft number (record { events = events; missed = missed; choice = None }) added (happenings.Choice choice) [] _ follows refl

-- what is said of one exchange
speak_on_exchange : (draft : DraftValue) (entry : ℕ × Entry) → steps_of draft.steps ≡ [] → IsEntry (tag_count draft) entry
    → draft.air.count + length (entry_lines entry) ≤ most_air_lines
    → LinesLead (within (on_exchange draft entry.0 [] [] None 0)) (entry_lines entry)
    (within (on_exchange draft entry.0 entry.1.events entry.1.missed entry.1.choice (length (entry_lines entry))))
speak_on_exchange draft entry no_steps is few =
    let events = entry.1.events in
    let missed = entry.1.missed in
    let choice = entry.1.choice in
    let event_lines = map (λ (event : Event × ℕ). lines.Air entry.0 (happenings.Event event.0 event.1)) events in
    let miss_lines = map (λ tag. lines.Air entry.0 (happenings.Miss tag)) missed in
    let all : length (entry_lines entry) ≡ length events + length missed + length (choice_lines entry.0 choice) =
    length-append (event_lines ++ miss_lines) (choice_lines entry.0 choice)
    ∙ ap (λ n. n + length (choice_lines entry.0 choice))
    (length-append event_lines miss_lines ∙ rw (length-map events, length-map missed) refl) in
    let first = speak_events draft entry.0 [] events 0 (no_steps, is.exchange) is.events (omega arith) in
    let second = speak_misses draft entry.0 events [] missed (0 + length events) (no_steps, is.exchange) is.missed (omega arith) in
    let third = speak_choice draft entry.0 events missed choice (0 + length events + length missed) (no_steps, is.exchange) is.choice (omega arith) in
    let count : 0 + length events + length missed + length (choice_lines entry.0 choice) ≡ length (entry_lines entry) = omega arith in
    leads_to _ _ _ _ (ap (λ n. within (on_exchange draft entry.0 events missed choice n)) count)
    (leads_on _ _ _ (event_lines ++ miss_lines) (choice_lines entry.0 choice) (leads_on _ _ _ event_lines miss_lines first second) third)

chooses_other : (draft : DraftValue) (number : ℕ) (happening : Happening) → number ≢ draft.air.exchange → ChoosesOnce draft.air (lines.Air number happening)
chooses_other draft number (happenings.Choice choice) differs = λ same. absurd (differs same)
chooses_other draft number happening differs = tt

-- the first line on another exchange than the last one
air_turns : (draft : DraftValue) (number : ℕ) (happening : Happening) (said : List Line) (to : ScenarioStanding) → draft.air.exchange < number
    → LinesLead (within (on_exchange draft number [] [] None 0)) (lines.Air number happening ∷ said) to → LinesLead (within draft) (lines.Air number happening ∷ said) to
air_turns draft number happening said to above leads =
    let old = leads.0 in
    let differs : number ≢ draft.air.exchange = λ same. omega (arith, same) in
    let other : (number == draft.air.exchange) ≡ false = ne_eqb number draft.air.exchange differs in
    let follows : MayStandNext (within draft) (lines.Air number happening) = record {
      is = old.is;
      stands = old.stands;
      room = omega (arith, old.room);
      agrees = record { version = old.agrees.version; copies = old.agrees.copies; names = old.agrees.names; order = (omega arith, λ same. absurd (differs same)); once = chooses_other draft number happening differs };
    } in
    let counted : draft.air.count + 1 ≡ draft.air.count + (0 + 1) = omega arith in
    let same : standing_after (within draft) (lines.Air number happening) ≡ standing_after (within (on_exchange draft number [] [] None 0)) (lines.Air number happening) =
    rw other (ap (λ (airs : ℕ). within (saying (with_airs draft airs number no_entry) happening)) counted)
    ∙ sym (air_again draft number no_entry 0 happening) in
    (follows, subst (λ (s : ScenarioStanding). LinesLead s said to) (sym same) leads.1)

-- what is said of an exchange begins with some line on it
first_line : (number : ℕ) (events : List (Event × ℕ)) (missed : List ℕ) (choice : Option Choice)
    → SaysSomething (record { events = events; missed = missed; choice = choice })
    → (happening : Happening) × (rest : List Line)
    × (entry_lines (number, record { events = events; missed = missed; choice = choice }) ≡ lines.Air number happening ∷ rest)
first_line number (event ∷ events) missed choice something = (happenings.Event event.0 event.1, _, refl)
first_line number [] (tag ∷ missed) choice something = (happenings.Miss tag, _, refl)
first_line number [] [] (Some choice) something = (happenings.Choice choice, [], refl)
first_line number [] [] None (inl some) = absurd (some refl)
first_line number [] [] None (inr (inl some)) = absurd (some refl)
first_line number [] [] None (inr (inr some)) = absurd (some refl)

speak_entry : (draft : DraftValue) (entry : ℕ × Entry) → steps_of draft.steps ≡ [] → IsEntry (tag_count draft) entry → draft.air.exchange < entry.0
    → draft.air.count + length (entry_lines entry) ≤ most_air_lines
    → LinesLead (within draft) (entry_lines entry)
    (within (on_exchange draft entry.0 entry.1.events entry.1.missed entry.1.choice (length (entry_lines entry))))
speak_entry draft entry no_steps is above few =
    let to = within (on_exchange draft entry.0 entry.1.events entry.1.missed entry.1.choice (length (entry_lines entry))) in
    let first = first_line entry.0 entry.1.events entry.1.missed entry.1.choice is.something in
    let leads : LinesLead (within (on_exchange draft entry.0 [] [] None 0)) (lines.Air entry.0 first.0 ∷ first.1) to =
    subst (λ (said : List Line). LinesLead (within (on_exchange draft entry.0 [] [] None 0)) said to) first.2
    (speak_on_exchange draft entry no_steps is few) in
    subst (λ (said : List Line). LinesLead (within draft) said to) (sym first.2) (air_turns draft entry.0 first.0 first.1 to above leads)

-- a draft to which these entries were added
record SpokenEntries (draft : DraftValue) (todo : List (ℕ × Entry)) : Type 0 where
  to : DraftValue
  leads : LinesLead (within draft) (air_lines todo) (within to)
  head : to.head ≡ draft.head
  groups : to.groups ≡ draft.groups
  no_steps : steps_of to.steps ≡ []
  entries : entries_of to.air ≡ entries_of draft.air ++ todo

speak_entries : (draft : DraftValue) (todo : List (ℕ × Entry)) → steps_of draft.steps ≡ [] → All (IsEntry (tag_count draft)) todo → Rises draft.air.exchange todo
    → draft.air.count + length (air_lines todo) ≤ most_air_lines → SpokenEntries draft todo
speak_entries draft [] no_steps are rising few = record {
  to = draft;
  leads = refl;
  head = refl;
  groups = refl;
  no_steps = no_steps;
  entries = sym (append-nil (entries_of draft.air));
}
speak_entries draft (entry ∷ todo) no_steps are rising few =
    let IsIt : ℕ × Entry → Type 0 = IsEntry (tag_count draft) in
    let is = All-head IsIt entry todo are in
    let all = length-append (entry_lines entry) (air_lines todo) in
    let one = on_exchange draft entry.0 entry.1.events entry.1.missed entry.1.choice (length (entry_lines entry)) in
    let some : 0 < entry.0 = omega (arith, is.exchange.0) in
    let first = speak_entry draft entry no_steps is rising.0 (omega arith) in
    let others = speak_entries one todo no_steps (All-tail IsIt entry todo are) rising.1 (omega arith) in
    let added : entries_of one.air ≡ entries_of draft.air ++ entry ∷ [] = ap (λ (last : List (ℕ × Entry)). entries_of draft.air ++ last) (last_one entry.0 entry.1 some) in
    record {
      to = others.to;
      leads = leads_on _ _ _ (entry_lines entry) (air_lines todo) first others.leads;
      head = others.head;
      groups = others.groups;
      no_steps = others.no_steps;
      entries = others.entries ∙ ap (λ (list : List (ℕ × Entry)). list ++ todo) added ∙ append_assoc (entries_of draft.air) (entry ∷ []) todo;
    }

-- a draft to which these steps were added
record SpokenSteps (draft : DraftValue) (todo : List Step) : Type 0 where
  to : DraftValue
  leads : LinesLead (within draft) (flat_map (step_lines draft.head.version) todo) (within to)
  head : to.head ≡ draft.head
  groups : to.groups ≡ draft.groups
  entries : entries_of to.air ≡ entries_of draft.air
  steps : steps_of to.steps ≡ steps_of draft.steps ++ todo

-- a draft whose last step is a round, of whose operations so much is said
abbrev on_round : DraftValue → SpecValue → Option (List ℕ) → List Op → DraftValue
on_round draft spec only ops =
    record draft { steps = record { closed = steps_of draft.steps; round = Some spec; operations = record { only = only; ops = ops } } }

speak_only : (draft : DraftValue) (spec : SpecValue) (only : Option (List ℕ)) → IfSome only IsEpc
    → LinesLead (within (on_round draft spec None [])) (only_lines only) (within (on_round draft spec only []))
speak_only draft spec None is = refl
speak_only draft spec (Some epc) is =
    let follows : MayStandNext (within (on_round draft spec None [])) (lines.Only epc) = record {
      is = record { form = is; coherent = tt };
      stands = record { round = λ none. cc; only = refl; ops = refl };
      room = tt;
      agrees = record { version = tt; copies = tt; names = tt; order = tt; once = tt };
    } in
    (follows, refl)

speak_ops : (draft : DraftValue) (spec : SpecValue) (only : Option (List ℕ)) (before todo : List Op) → All IsLegalOp todo
    → length before + length todo ≤ most_ops
    → LinesLead (within (on_round draft spec only before)) (map lines.Op todo) (within (on_round draft spec only (before ++ todo)))
speak_ops draft spec only before [] are few = rw append-nil refl
speak_ops draft spec only before (op ∷ todo) are few =
    let follows : MayStandNext (within (on_round draft spec only before)) (lines.Op op) = record {
      is = record { form = All-head IsLegalOp op todo are; coherent = tt };
      stands = λ none. cc;
      room = omega (arith, few);
      agrees = record { version = tt; copies = tt; names = tt; order = tt; once = tt };
    } in
    let others = speak_ops draft spec only (before ++ op ∷ []) todo (All-tail IsLegalOp op todo are) (omega (arith, few, length-append before (op ∷ []))) in (
      follows,
      subst (λ (ops : List Op). LinesLead (within (on_round draft spec only (before ++ op ∷ []))) (map lines.Op todo) (within (on_round draft spec only ops)))
          (append_assoc before (op ∷ []) todo) others,
    )

-- a round and its operations
speak_round : (draft : DraftValue) (spec : SpecValue) (operations : OpList) → IsRound draft.head.version spec → IsOpList operations
    → length (steps_of draft.steps) < most_steps → SpokenSteps draft (steps.Round spec operations ∷ [])
speak_round draft spec operations is are room =
    let only = operations.only in
    let ops = operations.ops in
    let to = on_round draft spec only ops in
    let version = draft.head.version in
    let follows : MayStandNext (within draft) (lines.Round version spec) = record {
      is = record { form = is; coherent = tt };
      stands = tt;
      room = room;
      agrees = record { version = refl; copies = tt; names = tt; order = tt; once = tt };
    } in
    let body = leads_on (within (on_round draft spec None [])) (within (on_round draft spec only [])) (within to) (only_lines only) (map lines.Op ops)
    (speak_only draft spec only are.only) (speak_ops draft spec only [] ops are.ops (omega (arith, are.few))) in
    let leads : LinesLead (within draft) (lines.Round version spec ∷ operation_lines operations) (within to) = (follows, body) in
    record {
      to = to;
      leads = subst (λ (said : List Line). LinesLead (within draft) said (within to)) (sym (append-nil (lines.Round version spec ∷ operation_lines operations))) leads;
      head = refl;
      groups = refl;
      entries = refl;
      steps = refl;
    }

-- a step that is no round
speak_plain : (draft : DraftValue) (step : Step) (line : Line) → step_lines draft.head.version step ≡ line ∷ [] → MayStandNext (within draft) line
    → standing_after (within draft) line ≡ within (draft_with_step draft step) → SpokenSteps draft (step ∷ [])
speak_plain draft step line one follows leads = record {
  to = draft_with_step draft step;
  leads = subst (λ (said : List Line). LinesLead (within draft) said (within (draft_with_step draft step))) (sym (append-nil (step_lines draft.head.version step) ∙ one))
      (follows, leads);
  head = refl;
  groups = refl;
  entries = refl;
  steps = refl;
}

-- one step
speak_step : (draft : DraftValue) (step : Step) → IsStep draft.head.version (tag_count draft) step → length (steps_of draft.steps) < most_steps → SpokenSteps draft (step ∷ [])
speak_step draft (steps.Select (commands.Select target action bank pointer mask)) is room =
    speak_plain draft _ _ refl
    (record { is = record { form = is; coherent = tt }; stands = tt; room = room; agrees = record { version = tt; copies = tt; names = tt; order = tt; once = tt } }) refl
speak_step draft (steps.Select command) is room = absurd is
speak_step draft steps.Nak is room =
    speak_plain draft steps.Nak lines.Nak refl
    (record { is = record { form = tt; coherent = tt }; stands = tt; room = room; agrees = record { version = tt; copies = tt; names = tt; order = tt; once = tt } }) refl
speak_step draft (steps.Event event tag) is room =
    speak_plain draft (steps.Event event tag) (lines.Event event tag) refl
    (record { is = record { form = is.0; coherent = tt }; stands = tt; room = room; agrees = record { version = tt; copies = tt; names = is.1; order = tt; once = tt } }) refl
speak_step draft (steps.Round spec operations) is room = speak_round draft spec operations is.0 is.1 room

-- steps that may stand behind one draft may stand behind another with its head and tags
steps_stand : (draft to : DraftValue) (todo : List Step) → to.head ≡ draft.head → to.groups ≡ draft.groups
    → All (IsStep draft.head.version (tag_count draft)) todo → All (IsStep to.head.version (tag_count to)) todo
steps_stand draft to todo head groups are = rw (head, groups) are

speak_steps : (draft : DraftValue) (todo : List Step) → All (IsStep draft.head.version (tag_count draft)) todo
    → length (steps_of draft.steps) + length todo ≤ most_steps → SpokenSteps draft todo
speak_steps draft [] are few = record {
  to = draft;
  leads = refl;
  head = refl;
  groups = refl;
  entries = refl;
  steps = sym (append-nil (steps_of draft.steps));
}
speak_steps draft (step ∷ todo) are few =
    let version = draft.head.version in
    let IsIt : Step → Type 0 = IsStep version (tag_count draft) in
    let one = speak_step draft step (All-head IsIt step todo are) (omega (arith, few)) in
    let tail = steps_stand draft one.to todo one.head one.groups (All-tail IsIt step todo are) in
    let count = ap length one.steps ∙ length-append (steps_of draft.steps) (step ∷ []) in
    let others = speak_steps one.to todo tail (omega (arith, few, count)) in
    let first : LinesLead (within draft) (step_lines version step) (within one.to) =
    subst (λ (said : List Line). LinesLead (within draft) said (within one.to)) (append-nil (step_lines version step)) one.leads in
    let rest : LinesLead (within one.to) (flat_map (step_lines version) todo) (within others.to) =
    subst (λ (head : HeadValue). LinesLead (within one.to) (flat_map (step_lines head.version) todo) (within others.to)) one.head others.leads in
    record {
      to = others.to;
      leads = leads_on (within draft) (within one.to) (within others.to) (step_lines version step) (flat_map (step_lines version) todo) first rest;
      head = others.head ∙ one.head;
      groups = others.groups ∙ one.groups;
      entries = others.entries ∙ one.entries;
      steps = others.steps ∙ ap (λ (list : List Step). list ++ todo) one.steps ∙ append_assoc (steps_of draft.steps) (step ∷ []) todo;
    }

-- the lines that stand before all others
speak_head : (version : Version) (link : LinkValue) (several : Several) → IsLegalLink link → IsDefault version several
    → LinesLead start (head_lines version link several) (within (new_draft (record { version = version; link = link; several = several })))
speak_head One link several legal is =
    let first : MayStandNext start (lines.Version One) =
    record { is = record { form = tt; coherent = tt }; stands = tt; room = tt; agrees = tt } in
    let second : MayStandNext (begun One) (lines.Link link) =
    record { is = record { form = legal_form link legal; coherent = legal }; stands = tt; room = tt; agrees = tt } in
    (first, (second, ap (λ (default : Several). within (new_draft (record { version = One; link = link; several = default }))) (sym is)))
speak_head Two link several legal is =
    let first : MayStandNext start (lines.Version Two) =
    record { is = record { form = tt; coherent = tt }; stands = tt; room = tt; agrees = tt } in
    let second : MayStandNext (begun Two) (lines.Link link) =
    record { is = record { form = legal_form link legal; coherent = legal }; stands = tt; room = tt; agrees = tt } in
    let third : MayStandNext (linked link) (lines.Default several) =
    record { is = record { form = tt; coherent = tt }; stands = tt; room = tt; agrees = tt } in
    (first, (second, (third, refl)))

same_scenario : (draft : DraftValue) (scenario : Scenario)
    → draft.head ≡ record { version = scenario.version; link = scenario.link; several = scenario.several } → draft.groups ≡ scenario.groups
    → entries_of draft.air ≡ scenario.entries → steps_of draft.steps ≡ scenario.steps → scenario_of draft ≡ scenario
same_scenario draft scenario head groups entries steps = rw (head, groups, entries, steps) refl

-- each scenario within the limits is said by its lines
pub scenario_is_said : (scenario : Scenario) → IsScenario scenario → IsSaid scenario (scenario_lines scenario)
scenario_is_said scenario is =
    let head : HeadValue = record { version = scenario.version; link = scenario.link; several = scenario.several } in
    let groups = scenario.groups in
    let front = head_lines scenario.version scenario.link scenario.several in
    let opened = speak_head scenario.version scenario.link scenario.several is.link is.several in
    let first = speak_groups head [] groups is.groups (omega (arith, is.few_tags)) in
    let second = speak_entries (tags_draft head groups) scenario.entries refl is.entries is.rising (omega (arith, is.few_air_lines)) in
    let kept = steps_stand (tags_draft head groups) second.to scenario.steps second.head second.groups is.steps in
    let third = speak_steps second.to scenario.steps kept (omega (arith, is.few_steps, ap length second.no_steps)) in
    let said = flat_map (step_lines scenario.version) scenario.steps in
    let steps : LinesLead (within second.to) said (within third.to) =
    subst (λ (it : HeadValue). LinesLead (within second.to) (flat_map (step_lines it.version) scenario.steps) (within third.to)) second.head third.leads in
    let last : MayStandNext (within third.to) lines.End =
    record { is = record { form = tt; coherent = tt }; stands = tt; room = tt; agrees = record { version = tt; copies = tt; names = tt; order = tt; once = tt } } in
    let body = leads_on start (within (tags_draft head groups)) (within second.to) (front ++ map group_line groups) (air_lines scenario.entries)
    (leads_on start (within (tags_draft head [])) (within (tags_draft head groups)) front (map group_line groups) opened first)
    second.leads in
    let all = leads_on start (within second.to) (within third.to) (front ++ map group_line groups ++ air_lines scenario.entries) said body steps in
    record {
      draft = third.to;
      leads = leads_on start (within third.to) (ended third.to) (front ++ map group_line groups ++ air_lines scenario.entries ++ said) (lines.End ∷ []) all
          (last, refl);
      says = same_scenario third.to scenario (third.head ∙ second.head) (third.groups ∙ second.groups) (third.entries ∙ second.entries)
          (third.steps ∙ ap (λ (list : List Step). list ++ scenario.steps) second.no_steps);
    }
