-- What lines that follow one another have settled: they are the lines of what stands, and this keeps the limits.
use Rattle.std.proofs.Common.{◌≡◌, ◌≢◌, ℕ, zero, suc, ◌+◌, ◌<◌, ◌≤◌, List, [], ◌∷◌, ◌++◌, length, map, None, inl, inr, refl, sym, ◌∙◌, ap, subst, arith, append_assoc}
use Rattle.std.specs.Prelude.{All, IfSome, Option, Some}
use Rattle.std.specs.List.{flat_map}
use Rattle.std.proofs.lemmas.Bool.{ne_eqb}
use Rattle.std.proofs.lemmas.Bool.Decides.{eqb_tells}
use Rattle.std.proofs.lemmas.List.{length-append, append-nil, map-append}
use Rattle.std.proofs.lemmas.List.Concat.{flat_map-append}
use Rattle.std.proofs.lemmas.List.Elements.{All-append, All-nil, All-push, All-weaker}
use Rattle.access_ops.specs.declared.Op.{Op}
use Rattle.access_ops.specs.declared.OpList.{OpList}
use Rattle.q_round.specs.SpecValue.{SpecValue}
use Rattle.air_events.specs.declared.Event.{Event}
use Rattle.air_events.specs.declared.Entry.{Entry}
use Rattle.command_grammar.specs.declared.commands.Command.TheVariants as commands
use Rattle.pie_line.specs.Link.{IsLegalLink}
use Rattle.scenario_lines.specs.declared.version.Version.{Version}
use Rattle.scenario_lines.specs.declared.version.Version.TheVariants.{One, Two}
use Rattle.scenario_lines.specs.declared.tag.TagSpec.{TagSpec}
use Rattle.scenario_lines.specs.declared.line.Happening.{Happening}
use Rattle.scenario_lines.specs.declared.line.Happening.TheVariants as happenings
use Rattle.scenario_lines.specs.declared.line.Line.{Line}
use Rattle.scenario_lines.specs.declared.line.Line.TheVariants as lines
use Rattle.scenario_lines.specs.TagForm.{IsTag, epc_length}
use Rattle.access_ops.specs.laws.OperationLaws.{IsLegalOp}
use Rattle.scenario_lines.specs.LineForm.{IsChoice, IsEpc, IsEvent, IsExchange, IsHappening, IsPlace, IsRound}
use Rattle.scenario.specs.declared.values.Step.{Step}
use Rattle.scenario.specs.declared.values.Step.TheVariants as steps
use Rattle.scenario.specs.declared.values.TagGroup.{TagGroup}
use Rattle.scenario.specs.EntryLines.{air_lines, entry_lines}
use Rattle.scenario.specs.Limits.{IsCount, IsDefault, IsEntry, IsGroup, IsOpList, IsScenario, IsStep, most_air_lines, most_ops, most_steps, most_tags_of, no_operations}
use Rattle.scenario.specs.ScenarioText.{group_line, head_lines, only_lines, operation_lines, scenario_lines, step_lines}
use Rattle.air_events.specs.Entries.{Rises, no_entry}
use Rattle.scenario.specs.Draft.{draft_after, DraftValue, HeadValue, draft_with_group, draft_with_step, new_draft, scenario_of, tag_count}
use Rattle.scenario.specs.AirLinesSoFar.{AirLinesValue, ChoosesOnce, MayFollow, entries_of, last_entry, at_exchange, with_happening, with_said}
use Rattle.scenario.specs.Standing.{MayStandNext, LinesLead, NamesTag, ScenarioStanding, standing_after, begun, ended, first_head, linked, second_head, start, within}
use Rattle.scenario.specs.StepLinesSoFar.{StepLinesValue, steps_of, with_last, with_round, with_step}
use Rattle.scenario.proofs.Counts.{tags_more}

-- the lines of a draft, without the end
abbrev pub draft_lines : DraftValue → List Line
draft_lines draft =
    head_lines draft.head.version draft.head.link draft.head.several ++ map group_line draft.groups ++ air_lines (entries_of draft.air)
    ++ flat_map (step_lines draft.head.version) (steps_of draft.steps)

-- the lines of what stands
abbrev pub standing_lines : ScenarioStanding → List Line
standing_lines start = []
standing_lines (begun version) = lines.Version version ∷ []
standing_lines (linked link) = lines.Version Two ∷ lines.Link link ∷ []
standing_lines (within draft) = draft_lines draft
standing_lines (ended draft) = draft_lines draft ++ lines.End ∷ []

-- what is said of the last exchange keeps the rules, where there is one
abbrev pub IsLast : ℕ → ℕ → Entry → Type 0
IsLast tags zero latest = Unit {0}
IsLast tags (suc before) latest = IsEntry tags (suc before, latest)

abbrev pub IsBelow : ℕ → ℕ × Entry → Type 0
IsBelow exchange entry = entry.0 < exchange

-- what air lines say keeps the limits, where there are so many tags
pub record AirKeeps (tags : ℕ) (air : AirLinesValue) : Type 0 where
  pub closed : All (IsEntry tags) air.closed
  pub last : IsLast tags air.exchange air.latest
  pub rising : Rises 0 air.closed
  pub below : All (IsBelow air.exchange) air.closed
  pub few : air.count ≤ most_air_lines
  pub count : length (air_lines (entries_of air)) ≡ air.count
  pub none : air.count ≡ 0 → entries_of air ≡ []

-- ... and so do steps
pub record StepsKeep (version : Version) (tags : ℕ) (said : StepLinesValue) : Type 0 where
  pub closed : All (IsStep version tags) said.closed
  pub round : IfSome said.round (IsRound version)
  pub operations : IsOpList said.operations
  pub few : length (steps_of said) ≤ most_steps

-- a draft that keeps the limits
pub record Keeps (draft : DraftValue) : Type 0 where
  pub link : IsLegalLink draft.head.link
  pub several : IsDefault draft.head.version draft.head.several
  pub groups : All (IsGroup draft.head.version) draft.groups
  pub few_tags : tag_count draft ≤ most_tags_of draft.head.version
  pub air : AirKeeps (tag_count draft) draft.air
  pub steps : StepsKeep draft.head.version (tag_count draft) draft.steps

abbrev pub StandingKeeps : ScenarioStanding → Type 0
StandingKeeps start = Unit {0}
StandingKeeps (begun version) = Unit {0}
StandingKeeps (linked link) = IsLegalLink link
StandingKeeps (within draft) = Keeps draft
StandingKeeps (ended draft) = Keeps draft

-- the numbers of entries rise past one more that is above them all
Rises-push : (before : ℕ) (entries : List (ℕ × Entry)) (entry : ℕ × Entry) → Rises before entries → before < entry.0 → All (IsBelow entry.0) entries
    → Rises before (entries ++ entry ∷ [])
Rises-push before [] entry rising above below = (above, tt)
Rises-push before (first ∷ entries) entry rising above below =
    let head : first.0 < entry.0 = below 0 first (omega arith) in
    (rising.0, Rises-push first.0 entries entry rising.1 head (λ k d within_list. below (suc k) d (omega arith)))

no_entries : (closed : List (ℕ × Entry)) (exchange : ℕ) (latest : Entry) → closed ++ last_entry exchange latest ≡ [] → (closed ≡ []) × (exchange ≡ 0)
no_entries [] zero latest none = (refl, refl)
no_entries [] (suc before) latest none = cc
no_entries (entry ∷ closed) exchange latest none = cc

last_none : (tags exchange : ℕ) (latest : Entry) → exchange ≡ 0 → IsLast tags exchange latest
last_none tags zero latest none = tt
last_none tags (suc before) latest none = absurd (omega arith)

last_all : (tags exchange : ℕ) (latest : Entry) → IsLast tags exchange latest → All (IsEntry tags) (last_entry exchange latest)
last_all tags zero latest last = All-nil (IsEntry tags)
last_all tags (suc before) latest last = All-push (IsEntry tags) [] (suc before, latest) (All-nil (IsEntry tags)) last

last_rises : (closed : List (ℕ × Entry)) (exchange : ℕ) (latest : Entry) → Rises 0 closed → All (IsBelow exchange) closed
    → Rises 0 (closed ++ last_entry exchange latest)
last_rises closed zero latest rising below = rw append-nil rising
last_rises closed (suc before) latest rising below = Rises-push 0 closed (suc before, latest) rising (omega arith) below

last_below : (closed : List (ℕ × Entry)) (exchange above : ℕ) (latest : Entry) → exchange < above → All (IsBelow exchange) closed
    → All (IsBelow above) (closed ++ last_entry exchange latest)
last_below closed zero above latest less below =
    rw append-nil (All-weaker (IsBelow zero) (IsBelow above) (λ entry small. omega arith) closed below)
last_below closed (suc before) above latest less below =
    All-push (IsBelow above) closed (suc before, latest)
    (All-weaker (IsBelow (suc before)) (IsBelow above) (λ entry small. omega arith) closed below) less

-- the entries of air lines that keep the limits
entries_keep : (tags : ℕ) (air : AirLinesValue) → AirKeeps tags air → All (IsEntry tags) (entries_of air) × Rises 0 (entries_of air)
entries_keep tags air keeps = (
  All-append (IsEntry tags) air.closed (last_entry air.exchange air.latest) keeps.closed (last_all tags air.exchange air.latest keeps.last),
  last_rises air.closed air.exchange air.latest keeps.rising keeps.below,
)

-- a choice stands alone
abbrev MayChoose : Entry → Happening → Type 0
MayChoose entry (happenings.Choice choice) = entry.choice ≡ None
MayChoose entry happening = Unit {0}

abbrev NamesTagOf : ℕ → Happening → Type 0
NamesTagOf tags (happenings.Event event tag) = tag < tags
NamesTagOf tags (happenings.Miss tag) = tag < tags
NamesTagOf tags (happenings.Choice choice) = Unit {0}

-- what is said of an exchange has one line more
entry_more : (exchange : ℕ) (entry : Entry) (happening : Happening) → MayFollow entry happening → MayChoose entry happening
    → entry_lines (exchange, with_happening entry happening) ≡ entry_lines (exchange, entry) ++ lines.Air exchange happening ∷ []
entry_more exchange entry (happenings.Event event tag) follows alone =
    rw (follows.0, follows.1) (simp (append-nil, map-append) refl)
entry_more exchange entry (happenings.Miss tag) follows alone =
    rw follows (simp (append-nil, map-append, append_assoc) refl)
entry_more exchange entry (happenings.Choice choice) follows alone =
    rw alone (simp append-nil refl)

entry_first : (exchange : ℕ) (happening : Happening) → entry_lines (exchange, with_happening no_entry happening) ≡ lines.Air exchange happening ∷ []
entry_first exchange (happenings.Event event tag) = refl
entry_first exchange happening = refl

pub not_empty : {A : Type 0} (xs : List A) (x : A) → xs ++ x ∷ [] ≢ []
not_empty [] x none = cc
not_empty (y ∷ xs) x none = cc

-- each thing that is said of an exchange keeps the rules, where there are so many tags
record SaysLegally (tags : ℕ) (entry : Entry) : Type 0 where
  events : All (λ (event : Event × ℕ). IsEvent event.0 event.1 × (event.1 < tags)) entry.events
  missed : All (λ tag. IsPlace tag × (tag < tags)) entry.missed
  choice : IfSome entry.choice IsChoice

-- ... and so with one thing more
happening_keeps : (tags exchange : ℕ) (entry : Entry) (happening : Happening) → IsExchange exchange → IsHappening happening → NamesTagOf tags happening
    → SaysLegally tags entry → IsEntry tags (exchange, with_happening entry happening)
happening_keeps tags exchange entry (happenings.Event event tag) number is names says = record {
  exchange = number;
  events = All-push (λ (event : Event × ℕ). IsEvent event.0 event.1 × (event.1 < tags)) entry.events (event, tag) says.events (is, names);
  missed = says.missed;
  choice = says.choice;
  something = inl (not_empty entry.events (event, tag));
}
happening_keeps tags exchange entry (happenings.Miss tag) number is names says = record {
  exchange = number;
  events = says.events;
  missed = All-push (λ tag. IsPlace tag × (tag < tags)) entry.missed tag says.missed (is, names);
  choice = says.choice;
  something = inr (inl (not_empty entry.missed tag));
}
happening_keeps tags exchange entry (happenings.Choice choice) number is names says = record {
  exchange = number;
  events = says.events;
  missed = says.missed;
  choice = is;
  something = inr (inr (λ none. cc));
}

no_operations_keep : IsOpList no_operations
no_operations_keep = record { only = tt; ops = All-nil IsLegalOp; few = omega arith }

-- where there is no step, there is none before the last
no_step_before : (before : List Step) (round : Option SpecValue) (operations : OpList) → with_last before round operations ≡ [] → before ≡ []
no_step_before before None operations none = none
no_step_before before (Some spec) operations none = absurd (not_empty before (steps.Round spec operations) none)

-- all steps keep the limits
last_keeps : (version : Version) (tags : ℕ) (before : List Step) (round : Option SpecValue) (operations : OpList) → All (IsStep version tags) before
    → IfSome round (IsRound version) → IsOpList operations → All (IsStep version tags) (with_last before round operations)
last_keeps version tags before None operations are is list = are
last_keeps version tags before (Some spec) operations are is list = All-push (IsStep version tags) before (steps.Round spec operations) are (is, list)

pub steps_keep : (version : Version) (tags : ℕ) (said : StepLinesValue) → StepsKeep version tags said → All (IsStep version tags) (steps_of said)
steps_keep version tags said keeps = last_keeps version tags said.closed said.round said.operations keeps.closed keeps.round keeps.operations

-- how many steps there are doesn't hang on the operations of the last one
pub same_count : (before : List Step) (round : Option SpecValue) (operations operations' : OpList)
    → length (with_last before round operations') ≡ length (with_last before round operations)
same_count before None operations operations' = refl
same_count before (Some spec) operations operations' =
    length-append before (steps.Round spec operations' ∷ []) ∙ sym (length-append before (steps.Round spec operations ∷ []))

few_tags_at_first : (version : Version) → 0 ≤ most_tags_of version
few_tags_at_first version = omega arith

new_draft_keeps : (head : HeadValue) → IsLegalLink head.link → IsDefault head.version head.several → Keeps (new_draft head)
new_draft_keeps head legal several = record {
  link = legal;
  several = several;
  groups = All-nil (IsGroup head.version);
  few_tags = few_tags_at_first head.version;
  air = record {
    closed = All-nil (IsEntry 0);
    last = tt;
    rising = tt;
    below = All-nil (IsBelow 0);
    few = omega arith;
    count = refl;
    none = λ zero. refl;
  };
  steps = record { closed = All-nil (IsStep head.version 0); round = tt; operations = no_operations_keep; few = omega arith };
}

-- other air lines, or other steps
air_keeps : (draft : DraftValue) (air : AirLinesValue) → Keeps draft → AirKeeps (tag_count draft) air → Keeps (record draft { air = air })
air_keeps draft air keeps are =
    record { link = keeps.link; several = keeps.several; groups = keeps.groups; few_tags = keeps.few_tags; air = are; steps = keeps.steps }

said_keep : (draft : DraftValue) (said : StepLinesValue) → Keeps draft → StepsKeep draft.head.version (tag_count draft) said → Keeps (record draft { steps = said })
said_keep draft said keeps are =
    record { link = keeps.link; several = keeps.several; groups = keeps.groups; few_tags = keeps.few_tags; air = keeps.air; steps = are }

group_keeps : (draft : DraftValue) (group : TagGroup) → Keeps draft → IsGroup draft.head.version group → draft.air.count ≡ 0 → steps_of draft.steps ≡ []
    → tag_count draft + group.count ≤ most_tags_of draft.head.version
    → Keeps (draft_with_group draft group)
group_keeps draft group keeps is no_airs no_steps room =
    let none = no_entries draft.air.closed draft.air.exchange draft.air.latest (keeps.air.none no_airs) in
    let tags = tag_count (draft_with_group draft group) in
    record {
      link = keeps.link;
      several = keeps.several;
      groups = All-push (IsGroup draft.head.version) draft.groups group keeps.groups is;
      few_tags = omega (arith, room, tags_more draft.groups (draft.groups ++ group ∷ []) group refl);
      air = record {
        closed = rw none.0 (All-nil (IsEntry tags));
        last = last_none tags draft.air.exchange draft.air.latest none.1;
        rising = keeps.air.rising;
        below = keeps.air.below;
        few = keeps.air.few;
        count = keeps.air.count;
        none = keeps.air.none;
      };
      steps = record {
        closed = rw (no_step_before draft.steps.closed draft.steps.round draft.steps.operations no_steps) (All-nil (IsStep draft.head.version tags));
        round = keeps.steps.round;
        operations = keeps.steps.operations;
        few = keeps.steps.few;
      };
    }

-- a line behind the head
behind_head : (head rest rest' : List Line) (line : Line) → rest' ≡ rest ++ line ∷ [] → head ++ rest' ≡ head ++ rest ++ line ∷ []
behind_head head rest rest' line more = ap (λ (list : List Line). head ++ list) more ∙ sym (append_assoc head rest (line ∷ []))

-- the lines of the head of a draft
abbrev pub head_of : DraftValue → List Line
head_of draft = head_lines draft.head.version draft.head.link draft.head.several

-- lists with nothing behind them
tag_shape : (tags tags' : List Line) (line : Line) → tags' ≡ tags ++ line ∷ [] → tags' ++ [] ++ [] ≡ tags ++ [] ++ [] ++ line ∷ []
tag_shape tags tags' line more = simp append-nil more

air_shape : (tags airs airs' : List Line) (line : Line) → airs' ≡ airs ++ line ∷ [] → tags ++ airs' ++ [] ≡ tags ++ airs ++ [] ++ line ∷ []
air_shape tags airs airs' line more =
    simp append-nil (ap (λ (list : List Line). tags ++ list) more ∙ sym (append_assoc tags airs (line ∷ [])))

tag_lines : (draft : DraftValue) (group : TagGroup) (line : Line) → group_line group ≡ line → entries_of draft.air ≡ [] → steps_of draft.steps ≡ []
    → draft_lines (draft_with_group draft group) ≡ draft_lines draft ++ line ∷ []
tag_lines draft group line is no_entries no_steps =
    let groups = map group_line draft.groups in
    let groups' = map group_line (draft.groups ++ group ∷ []) in
    let more : groups' ≡ groups ++ line ∷ [] =
    map-append group_line draft.groups (group ∷ []) ∙ ap (λ (last : Line). groups ++ last ∷ []) is in
    rw (no_entries, no_steps)
    (tag_shape (head_of draft ++ groups) (head_of draft ++ groups') line (behind_head (head_of draft) groups groups' line more))

-- a tag line, where it may follow, gives a group of one
one_of_any : (version : Version) → IsCount version 1
one_of_any One = refl
one_of_any Two = omega arith

one_tag : (version : Version) (tag : TagSpec) → IsTag tag → IsGroup version (record { count = 1; spec = tag })
one_tag version tag is = record { count = one_of_any version; tag = is; differ = λ several. absurd (omega (arith, several)) }

-- copies, where they may follow, give a group of version 2
some_copies : (version : Version) (count : ℕ) (tag : TagSpec) → version ≡ Two → 2 ≤ count → IsTag tag → 1 ≤ epc_length tag
    → IsGroup version (record { count = count; spec = tag })
some_copies One count tag same several is differ = cc
some_copies Two count tag same several is differ = record { count = omega arith; tag = is; differ = λ _. differ }

copies_fit : (version : Version) (tags count : ℕ) → version ≡ Two → tags + count ≤ most_tags_of Two → tags + count ≤ most_tags_of version
copies_fit One tags count same few = cc
copies_fit Two tags count same few = few

-- several tags have a copies line
copies_line : (count : ℕ) (tag : TagSpec) → 2 ≤ count → group_line (record { count = count; spec = tag }) ≡ lines.Copies count tag
copies_line count tag several = rw (ne_eqb count 1 (λ one. omega (arith, several, one))) refl

step_keeps : (draft : DraftValue) (step : Step) → Keeps draft → IsStep draft.head.version (tag_count draft) step → length (steps_of draft.steps) < most_steps
    → Keeps (draft_with_step draft step)
step_keeps draft step keeps is room =
    let version = draft.head.version in
    let tags = tag_count draft in
    said_keep draft (with_step draft.steps step) keeps (record {
      closed = All-push (IsStep version tags) (steps_of draft.steps) step (steps_keep version tags draft.steps keeps.steps) is;
      round = tt;
      operations = no_operations_keep;
      few = omega (arith, length-append (steps_of draft.steps) (step ∷ []));
    })

round_keeps : (draft : DraftValue) (version : Version) (spec : SpecValue) → Keeps draft → IsRound draft.head.version spec
    → length (steps_of draft.steps) < most_steps → Keeps (draft_after draft (lines.Round version spec))
round_keeps draft version spec keeps is room =
    said_keep draft (with_round draft.steps spec) keeps (record {
      closed = steps_keep draft.head.version (tag_count draft) draft.steps keeps.steps;
      round = is;
      operations = no_operations_keep;
      few = omega (arith, length-append (steps_of draft.steps) (steps.Round spec no_operations ∷ []));
    })

-- the draft with other operations of the last round
operations_keep : (draft : DraftValue) (operations : OpList) → Keeps draft → IsOpList operations → Keeps (record draft { steps = record draft.steps { operations = operations } })
operations_keep draft operations keeps are =
    said_keep draft (record draft.steps { operations = operations }) keeps (record {
      closed = keeps.steps.closed;
      round = keeps.steps.round;
      operations = are;
      few = rw (same_count draft.steps.closed draft.steps.round draft.steps.operations operations) keeps.steps.few;
    })

only_keeps : (draft : DraftValue) (epc : List ℕ) → Keeps draft → IsEpc epc → Keeps (draft_after draft (lines.Only epc))
only_keeps draft epc keeps is =
    let operations = keeps.steps.operations in
    operations_keep draft (record { only = Some epc; ops = draft.steps.operations.ops }) keeps (record { only = is; ops = operations.ops; few = operations.few })

op_keeps : (draft : DraftValue) (op : Op) → Keeps draft → IsLegalOp op → length draft.steps.operations.ops < most_ops → Keeps (draft_after draft (lines.Op op))
op_keeps draft op keeps is room =
    operations_keep draft (record { only = draft.steps.operations.only; ops = draft.steps.operations.ops ++ op ∷ [] }) keeps
    (record {
      only = keeps.steps.operations.only;
      ops = All-push IsLegalOp draft.steps.operations.ops op keeps.steps.operations.ops is;
      few = omega (arith, length-append draft.steps.operations.ops (op ∷ []));
    })

-- the lines of a draft before its steps
abbrev pub front_lines : DraftValue → List Line
front_lines draft = head_of draft ++ map group_line draft.groups ++ air_lines (entries_of draft.air)

-- one step more
more_step : (draft : DraftValue) (step : Step)
    → front_lines draft ++ flat_map (step_lines draft.head.version) (steps_of draft.steps ++ step ∷ [])
    ≡ draft_lines draft ++ step_lines draft.head.version step
more_step draft step =
    let lines_of = step_lines draft.head.version in
    ap (λ (list : List Line). front_lines draft ++ list)
    (flat_map-append lines_of (steps_of draft.steps) (step ∷ [])
    ∙ ap (λ (list : List Line). flat_map lines_of (steps_of draft.steps) ++ list) (append-nil (lines_of step)))
    ∙ sym (append_assoc (front_lines draft) (flat_map lines_of (steps_of draft.steps)) (lines_of step))

-- one line more of the operations of the last round
pub more_operations : (version : Version) (before : List Step) (round : Option SpecValue) (operations operations' : OpList) (line : Line) → round ≢ None
    → operation_lines operations' ≡ operation_lines operations ++ line ∷ []
    → flat_map (step_lines version) (with_last before round operations') ≡ flat_map (step_lines version) (with_last before round operations) ++ line ∷ []
more_operations version before None operations operations' line some more = absurd (some refl)
more_operations version before (Some spec) operations operations' line some more =
    let said = flat_map (step_lines version) before in
    flat_map-append (step_lines version) before (steps.Round spec operations' ∷ [])
    ∙ ap (λ (list : List Line). said ++ lines.Round version spec ∷ list)
    (append-nil (operation_lines operations') ∙ more ∙ ap (λ (list : List Line). list ++ line ∷ []) (sym (append-nil (operation_lines operations))))
    ∙ sym (append_assoc said (lines.Round version spec ∷ operation_lines operations ++ []) (line ∷ []))
    ∙ ap (λ (list : List Line). list ++ line ∷ []) (sym (flat_map-append (step_lines version) before (steps.Round spec operations ∷ [])))

more_operation_lines : (draft : DraftValue) (operations : OpList) (line : Line) → draft.steps.round ≢ None
    → operation_lines operations ≡ operation_lines draft.steps.operations ++ line ∷ []
    → front_lines draft ++ flat_map (step_lines draft.head.version) (with_last draft.steps.closed draft.steps.round operations) ≡ draft_lines draft ++ line ∷ []
more_operation_lines draft operations line some more =
    ap (λ (list : List Line). front_lines draft ++ list)
    (more_operations draft.head.version draft.steps.closed draft.steps.round draft.steps.operations operations line some more)
    ∙ sym (append_assoc (front_lines draft) (flat_map (step_lines draft.head.version) (steps_of draft.steps)) (line ∷ []))

-- the EPC is named first
pub only_first : (operations : OpList) (epc : List ℕ) → operations.only ≡ None → operations.ops ≡ []
    → operation_lines (record { only = Some epc; ops = operations.ops }) ≡ operation_lines operations ++ lines.Only epc ∷ []
only_first operations epc no_name no_ops = rw (no_name, no_ops) refl

-- operations follow one another
pub op_more : (operations : OpList) (op : Op)
    → operation_lines (record { only = operations.only; ops = operations.ops ++ op ∷ [] }) ≡ operation_lines operations ++ lines.Op op ∷ []
op_more operations op =
    ap (λ (list : List Line). only_lines operations.only ++ list) (map-append lines.Op operations.ops (op ∷ []))
    ∙ sym (append_assoc (only_lines operations.only) (map lines.Op operations.ops) (lines.Op op ∷ []))

-- the rules that an air line keeps where it may follow
record AirFollows (draft : DraftValue) (number : ℕ) (happening : Happening) : Type 0 where
  no_steps : steps_of draft.steps ≡ []
  room : draft.air.count < most_air_lines
  is_exchange : IsExchange number
  is : IsHappening happening
  names : NamesTagOf (tag_count draft) happening
  order : draft.air.exchange ≤ number
  follows : number ≡ draft.air.exchange → MayFollow draft.air.latest happening
  alone : number ≡ draft.air.exchange → MayChoose draft.air.latest happening

-- what is said of the last exchange, in a draft that keeps the limits
last_said : (tags exchange : ℕ) (latest : Entry) → 0 < exchange → IsLast tags exchange latest → IsEntry tags (exchange, latest)
last_said tags zero latest some last = absurd (omega arith)
last_said tags (suc before) latest some last = last

last_is_said : (tags exchange : ℕ) (latest : Entry) → IsEntry tags (exchange, latest) → IsLast tags exchange latest
last_is_said tags zero latest last = tt
last_is_said tags (suc before) latest last = last

pub last_one : (exchange : ℕ) (latest : Entry) → 0 < exchange → last_entry exchange latest ≡ (exchange, latest) ∷ []
last_one zero latest some = absurd (omega arith)
last_one (suc before) latest some = refl

air_lines_one : (entries : List (ℕ × Entry)) (entry : ℕ × Entry) → air_lines (entries ++ entry ∷ []) ≡ air_lines entries ++ entry_lines entry
air_lines_one entries entry =
    flat_map-append entry_lines entries (entry ∷ []) ∙ ap (λ (list : List Line). air_lines entries ++ list) (append-nil (entry_lines entry))

-- one thing more is said of the last exchange
abbrev said_more : DraftValue → Happening → DraftValue
said_more draft happening = record draft { air = with_said (record draft.air { count = draft.air.count + 1 }) happening }

more_air_lines : (draft : DraftValue) (happening : Happening) → 0 < draft.air.exchange → MayFollow draft.air.latest happening → MayChoose draft.air.latest happening
    → air_lines (entries_of (said_more draft happening).air) ≡ air_lines (entries_of draft.air) ++ lines.Air draft.air.exchange happening ∷ []
more_air_lines draft happening some follows alone =
    let exchange = draft.air.exchange in
    let closed = draft.air.closed in
    ap (λ (last : List (ℕ × Entry)). air_lines (closed ++ last)) (last_one exchange (with_happening draft.air.latest happening) some)
    ∙ air_lines_one closed (exchange, with_happening draft.air.latest happening)
    ∙ ap (λ (list : List Line). air_lines closed ++ list) (entry_more exchange draft.air.latest happening follows alone)
    ∙ sym (append_assoc (air_lines closed) (entry_lines (exchange, draft.air.latest)) (lines.Air exchange happening ∷ []))
    ∙ ap (λ (list : List Line). list ++ lines.Air exchange happening ∷ []) (sym (air_lines_one closed (exchange, draft.air.latest)))
    ∙ ap (λ (last : List (ℕ × Entry)). air_lines (closed ++ last) ++ lines.Air exchange happening ∷ []) (sym (last_one exchange draft.air.latest some))

-- the first thing is said of another exchange
abbrev said_first : DraftValue → ℕ → Happening → DraftValue
said_first draft number happening =
    record draft { air = with_said (at_exchange (record draft.air { count = draft.air.count + 1 }) number) happening }

first_air_lines : (draft : DraftValue) (number : ℕ) (happening : Happening) → 0 < number
    → air_lines (entries_of (said_first draft number happening).air) ≡ air_lines (entries_of draft.air) ++ lines.Air number happening ∷ []
first_air_lines draft number happening some =
    ap (λ (last : List (ℕ × Entry)). air_lines (entries_of draft.air ++ last)) (last_one number (with_happening no_entry happening) some)
    ∙ air_lines_one (entries_of draft.air) (number, with_happening no_entry happening)
    ∙ ap (λ (list : List Line). air_lines (entries_of draft.air) ++ list) (entry_first number happening)

not_none : {A : Type 0} (n : ℕ) → n + 1 ≡ 0 → A
not_none n none = absurd (omega arith)

more_keeps : (draft : DraftValue) (happening : Happening) → Keeps draft → AirFollows draft draft.air.exchange happening → Keeps (said_more draft happening)
more_keeps draft happening keeps air =
    let some : 0 < draft.air.exchange = omega (arith, air.is_exchange) in
    let tags = tag_count draft in
    let last = last_said tags draft.air.exchange draft.air.latest some keeps.air.last in
    air_keeps draft (said_more draft happening).air keeps (record {
      closed = keeps.air.closed;
      last = last_is_said tags draft.air.exchange (with_happening draft.air.latest happening)
          (happening_keeps tags draft.air.exchange draft.air.latest happening air.is_exchange air.is air.names
          (record { events = last.events; missed = last.missed; choice = last.choice }));
      rising = keeps.air.rising;
      below = keeps.air.below;
      few = omega (arith, air.room);
      count = ap length (more_air_lines draft happening some (air.follows refl) (air.alone refl))
          ∙ length-append (air_lines (entries_of draft.air)) (lines.Air draft.air.exchange happening ∷ []) ∙ ap (λ n. n + 1) keeps.air.count;
      none = λ zero. not_none draft.air.count zero;
    })

first_keeps : (draft : DraftValue) (number : ℕ) (happening : Happening) → Keeps draft → draft.air.exchange < number → AirFollows draft number happening
    → Keeps (said_first draft number happening)
first_keeps draft number happening keeps above air =
    let some : 0 < number = omega arith in
    let tags = tag_count draft in
    let entries = entries_keep tags draft.air keeps.air in
    let nothing : IsEntry tags (number, with_happening no_entry happening) =
    happening_keeps tags number no_entry happening air.is_exchange air.is air.names (record {
      events = All-nil (λ (event : Event × ℕ). IsEvent event.0 event.1 × (event.1 < tags));
      missed = All-nil (λ tag. IsPlace tag × (tag < tags));
      choice = tt;
    }) in
    air_keeps draft (said_first draft number happening).air keeps (record {
      closed = entries.0;
      last = last_is_said tags number (with_happening no_entry happening) nothing;
      rising = entries.1;
      below = last_below draft.air.closed draft.air.exchange number draft.air.latest above keeps.air.below;
      few = omega (arith, air.room);
      count = ap length (first_air_lines draft number happening some)
          ∙ length-append (air_lines (entries_of draft.air)) (lines.Air number happening ∷ []) ∙ ap (λ n. n + 1) keeps.air.count;
      none = λ zero. not_none draft.air.count zero;
    })

-- the lines of a draft without steps, with one air line more
lines_with_air : (draft : DraftValue) (entries : List (ℕ × Entry)) (line : Line) → steps_of draft.steps ≡ [] → air_lines entries ≡ air_lines (entries_of draft.air) ++ line ∷ []
    → head_of draft ++ map group_line draft.groups ++ air_lines entries ++ flat_map (step_lines draft.head.version) (steps_of draft.steps)
    ≡ draft_lines draft ++ line ∷ []
lines_with_air draft entries line no_steps more =
    rw no_steps
    (air_shape (head_of draft ++ map group_line draft.groups) (air_lines (entries_of draft.air)) (air_lines entries) line more)

-- what an air line does to a draft that it may follow
air_settles : (draft : DraftValue) (number : ℕ) (happening : Happening) → Keeps draft → AirFollows draft number happening
    → (draft_lines (draft_after draft (lines.Air number happening)) ≡ draft_lines draft ++ lines.Air number happening ∷ []) × Keeps (draft_after draft (lines.Air number happening))
air_settles draft number happening keeps air =
    elim (eqb_tells number draft.air.exchange) [
      | inl same ↦
          let is : number ≡ draft.air.exchange = same.1 in
          let air' : AirFollows draft draft.air.exchange happening = subst (λ (n : ℕ). AirFollows draft n happening) is air in
          let some : 0 < draft.air.exchange = omega (arith, air'.is_exchange) in
          let more : draft_lines (said_more draft happening) ≡ draft_lines draft ++ lines.Air number happening ∷ [] =
          rw is (lines_with_air draft (entries_of (said_more draft happening).air) (lines.Air draft.air.exchange happening) air.no_steps
          (more_air_lines draft happening some (air'.follows refl) (air'.alone refl))) in
          rw same.0 (more, more_keeps draft happening keeps air')
      | inr other ↦
          let order = air.order in
          let differs : number ≢ draft.air.exchange = other.1 in
          let above : draft.air.exchange < number = omega arith in
          let some : 0 < number = omega arith in
          rw other.0 (
            lines_with_air draft (entries_of (said_first draft number happening).air) (lines.Air number happening) air.no_steps (first_air_lines draft number happening some),
            first_keeps draft number happening keeps above air,
          )
    ]

names_tag_of : (tags number : ℕ) (happening : Happening) → NamesTag tags (lines.Air number happening) → NamesTagOf tags happening
names_tag_of tags number (happenings.Choice choice) names = tt
names_tag_of tags number happening names = names

chooses_once : (draft : DraftValue) (number : ℕ) (happening : Happening) → ChoosesOnce draft.air (lines.Air number happening) → number ≡ draft.air.exchange
    → MayChoose draft.air.latest happening
chooses_once draft number (happenings.Choice choice) once is = once is
chooses_once draft number happening once is = tt

air_follows : (draft : DraftValue) (number : ℕ) (happening : Happening) → MayStandNext (within draft) (lines.Air number happening) → AirFollows draft number happening
air_follows draft number happening follows = record {
  no_steps = follows.stands;
  room = follows.room;
  is_exchange = follows.is.form.0;
  is = follows.is.form.1;
  names = names_tag_of (tag_count draft) number happening follows.agrees.names;
  order = follows.agrees.order.0;
  follows = follows.agrees.order.1;
  alone = chooses_once draft number happening follows.agrees.once;
}

-- what one line settles
pub settles_one : (from : ScenarioStanding) (line : Line) → StandingKeeps from → MayStandNext from line
    → (standing_lines (standing_after from line) ≡ standing_lines from ++ line ∷ []) × StandingKeeps (standing_after from line)
settles_one start (lines.Version version) keeps follows = (refl, tt)
settles_one (begun One) (lines.Link link) keeps follows = (refl, new_draft_keeps (first_head link) follows.is.coherent refl)
settles_one (begun Two) (lines.Link link) keeps follows = (refl, follows.is.coherent)
settles_one (linked link) (lines.Default several) keeps follows = (refl, new_draft_keeps (second_head link several) keeps tt)
settles_one (within draft) (lines.Tag tag) keeps follows =
    let group = one_tag draft.head.version tag (record { form = follows.is.form; pc = follows.is.coherent }) in (
      tag_lines draft (record { count = 1; spec = tag }) (lines.Tag tag) refl (keeps.air.none follows.stands.0) follows.stands.1,
      group_keeps draft (record { count = 1; spec = tag }) keeps group follows.stands.0 follows.stands.1 (omega (arith, follows.room)),
    )
settles_one (within draft) (lines.Copies count tag) keeps follows =
    let several = follows.is.form.0.0 in
    let copies = follows.agrees.copies in
    let group = some_copies draft.head.version count tag follows.stands.0 several (record { form = follows.is.form.1; pc = follows.is.coherent }) copies.0 in (
      tag_lines draft (record { count = count; spec = tag }) (lines.Copies count tag) (copies_line count tag several) (keeps.air.none follows.stands.1) follows.stands.2,
      group_keeps draft (record { count = count; spec = tag }) keeps group follows.stands.1 follows.stands.2
          (copies_fit draft.head.version (tag_count draft) count follows.stands.0 copies.1),
    )
settles_one (within draft) (lines.Air number happening) keeps follows = air_settles draft number happening keeps (air_follows draft number happening follows)
settles_one (within draft) (lines.Select selection) keeps follows =
    let step = steps.Select (commands.Select selection.target selection.action selection.bank selection.pointer selection.mask) in
    (more_step draft step, step_keeps draft step keeps follows.is.form follows.room)
settles_one (within draft) lines.Nak keeps follows = (more_step draft steps.Nak, step_keeps draft steps.Nak keeps tt follows.room)
settles_one (within draft) (lines.Event event tag) keeps follows =
    (more_step draft (steps.Event event tag), step_keeps draft (steps.Event event tag) keeps (follows.is.form, follows.agrees.names) follows.room)
settles_one (within draft) (lines.Round version spec) keeps follows =
    let same = follows.agrees.version in (
      more_step draft (steps.Round spec no_operations) ∙ ap (λ (it : Version). draft_lines draft ++ lines.Round it spec ∷ []) (sym same),
      round_keeps draft version spec keeps (subst (λ (it : Version). IsRound it spec) same follows.is.form) follows.room,
    )
settles_one (within draft) (lines.Only epc) keeps follows =
    let operations : OpList = record { only = Some epc; ops = draft.steps.operations.ops } in (
      more_operation_lines draft operations (lines.Only epc) follows.stands.round
          (only_first draft.steps.operations epc follows.stands.only follows.stands.ops),
      only_keeps draft epc keeps follows.is.form,
    )
settles_one (within draft) (lines.Op op) keeps follows =
    let operations : OpList = record { only = draft.steps.operations.only; ops = draft.steps.operations.ops ++ op ∷ [] } in (
      more_operation_lines draft operations (lines.Op op) follows.stands (op_more draft.steps.operations op),
      op_keeps draft op keeps follows.is.form follows.room,
    )
settles_one (within draft) lines.End keeps follows = (refl, keeps)
settles_one from line keeps follows = absurd follows.stands

-- what lines settle that follow one another
pub settle : (from to : ScenarioStanding) (said : List Line) → StandingKeeps from → LinesLead from said to
    → (standing_lines to ≡ standing_lines from ++ said) × StandingKeeps to
settle from to [] keeps leads =
    (ap standing_lines (sym leads) ∙ sym (append-nil (standing_lines from)), subst StandingKeeps leads keeps)
settle from to (line ∷ said) keeps leads =
    let one = settles_one from line keeps leads.0 in
    let others = settle (standing_after from line) to said one.1 leads.1 in
    (others.0 ∙ ap (λ (list : List Line). list ++ said) one.0 ∙ append_assoc (standing_lines from) (line ∷ []) said, others.1)

draft_is_scenario : (draft : DraftValue) → Keeps draft → IsScenario (scenario_of draft)
draft_is_scenario draft keeps =
    let entries = entries_keep (tag_count draft) draft.air keeps.air in
    record {
      link = keeps.link;
      several = keeps.several;
      groups = keeps.groups;
      entries = entries.0;
      rising = entries.1;
      steps = steps_keep draft.head.version (tag_count draft) draft.steps keeps.steps;
      few_tags = keeps.few_tags;
      few_air_lines = omega (arith, keeps.air.count, keeps.air.few);
      few_steps = keeps.steps.few;
    }

-- lines that lead from the start to the end are those of a scenario that keeps the limits
pub said_scenario : (draft : DraftValue) (said : List Line) → LinesLead start said (ended draft)
    → (said ≡ scenario_lines (scenario_of draft)) × IsScenario (scenario_of draft)
said_scenario draft said leads =
    let both = settle start (ended draft) said tt leads in
    (sym both.0, draft_is_scenario draft both.1)
