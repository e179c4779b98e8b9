-- How far the lines of a text are read, and that there are few of them.
use Rattle.std.proofs.Common.{◌≡◌, ◌+◌, ◌*◌, ◌≤◌, ℕ, List, [], ◌∷◌, ◌++◌, length, map, Option, Some, None, refl, sym, ap, subst, arith}
use Rattle.std.specs.Prelude.{All}
use Rattle.std.specs.List.{flat_map}
use Rattle.std.proofs.lemmas.List.{length-append, length-map}
use Rattle.std.proofs.lemmas.List.Elements.{All-head, All-tail}
use Rattle.text_fields.specs.Lines.{lines_of}
use Rattle.checked_lines.specs.TextRules.{IsText}
use Rattle.checked_lines.specs.laws.ReadingOn.{HasReadTo, NextLine, all_read, fault_read, none_read, one_read, unended_read}
use Rattle.command_grammar.specs.declared.commands.Command.TheVariants as commands
use Rattle.scenario_lines.specs.declared.line.Line.TheVariants as lines
use Rattle.scenario_lines.specs.declared.version.Version.{Version}
use Rattle.scenario_lines.specs.declared.version.Version.TheVariants.{One, Two}
use Rattle.scenario.specs.declared.values.Scenario.{Scenario}
use Rattle.scenario.specs.declared.values.Step.{Step}
use Rattle.scenario.specs.declared.values.Step.TheVariants as steps
use Rattle.scenario.specs.declared.values.TagGroup.{TagGroup}
use Rattle.scenario.specs.EntryLines.{air_lines}
use Rattle.scenario.specs.Groups.{tags_of}
use Rattle.scenario.specs.Limits.{IsCount, IsGroup, IsStep, most_tags_of}
use Rattle.scenario.specs.ScenarioText.{group_line, only_lines, step_lines}
use Rattle.scenario.specs.AirLinesSoFar.{entries_of}
use Rattle.scenario.specs.Draft.{DraftValue, tag_count}
use Rattle.scenario.specs.Faults.{IsFirstScenarioFault, IsRefused, LeadsBy, ScenarioMayEnd, scenario_rules}
use Rattle.scenario.specs.Standing.{ScenarioStanding, ended, start, within}
use Rattle.scenario.specs.StepLinesSoFar.{steps_of}
use Rattle.scenario.specs.ReaderAnswers.{IsNotTaken, IsUnfinished, SaysScenario, StandsFor}
use Rattle.checked_lines.specs.declared.fault.FaultReason.{FaultReason}
use Rattle.checked_lines.specs.declared.fault.Unread.{Unread}
use Rattle.checked_lines.specs.declared.fault.Unread.TheVariants as unread
use Rattle.scenario.proofs.Settled.{Keeps, StandingKeeps, draft_lines, front_lines, head_of, settles_one, standing_lines, steps_keep}
use Rattle.scenario.proofs.Spoken.{tags_first}

-- a group has a tag at least
some_tag : (version : Version) (count : ℕ) → IsCount version count → 1 ≤ count
some_tag One count is = omega (arith, is)
some_tag Two count is = is

few_groups : (version : Version) (groups : List TagGroup) → All (IsGroup version) groups → length groups ≤ length (tags_of groups)
few_groups version [] are = omega arith
few_groups version (group ∷ groups) are =
    omega (
      arith,
      tags_first group groups,
      some_tag version group.count (All-head (IsGroup version) group groups are).count,
      few_groups version groups (All-tail (IsGroup version) group groups are),
    )

few_only : (only : Option (List ℕ)) → length (only_lines only) ≤ 1
few_only None = omega arith
few_only (Some epc) = omega arith

-- a step has a line, and a round that of its EPC and those of its operations
few_in_step : (version : Version) (tags : ℕ) (step : Step) → IsStep version tags step → length (step_lines version step) ≤ 34
few_in_step version tags (steps.Select (commands.Select target action bank pointer mask)) is = omega arith
few_in_step version tags (steps.Round spec operations) is =
    omega (arith, length-append (only_lines operations.only) (map lines.Op operations.ops), length-map operations.ops lines.Op, few_only operations.only, is.1.few)
few_in_step version tags step is = omega arith

few_in_steps : (version : Version) (tags : ℕ) (all : List Step) → All (IsStep version tags) all → length (flat_map (step_lines version) all) ≤ 34 * length all
few_in_steps version tags [] are = omega arith
few_in_steps version tags (step ∷ more) are =
    omega (
      arith,
      length-append (step_lines version step) (flat_map (step_lines version) more),
      few_in_step version tags step (All-head (IsStep version tags) step more are),
      few_in_steps version tags more (All-tail (IsStep version tags) step more are),
    )

few_in_head : (draft : DraftValue) (version : Version) → draft.head.version ≡ version → length (head_of draft) ≤ 3
few_in_head draft One is = rw is (omega arith)
few_in_head draft Two is = rw is (omega arith)

few_tags_of : (version : Version) → most_tags_of version ≤ 4096
few_tags_of One = omega arith
few_tags_of Two = omega arith

few_in_draft : (draft : DraftValue) → Keeps draft → length (draft_lines draft) ≤ 43011
few_in_draft draft keeps =
    let version = draft.head.version in
    let groups = map group_line draft.groups in
    let airs = air_lines (entries_of draft.air) in
    omega (
      arith,
      length-append (front_lines draft) (flat_map (step_lines version) (steps_of draft.steps)),
      length-append (head_of draft ++ groups) airs,
      length-append (head_of draft) groups,
      length-map draft.groups group_line,
      few_in_head draft version refl,
      few_groups version draft.groups keeps.groups,
      keeps.few_tags,
      few_tags_of version,
      keeps.air.count,
      keeps.air.few,
      keeps.steps.few,
      few_in_steps version (tag_count draft) (steps_of draft.steps) (steps_keep version (tag_count draft) draft.steps keeps.steps),
    )

few_lines : (standing : ScenarioStanding) → StandingKeeps standing → length (standing_lines standing) ≤ 43012
few_lines (within draft) keeps = let few = few_in_draft draft keeps in omega arith
few_lines (ended draft) keeps = omega (arith, few_in_draft draft keeps, length-append (draft_lines draft) (lines.End ∷ []))
few_lines standing keeps = omega arith

-- of the lines of a text these are left, and those before them lead there
pub record IsRead (text rest : List ℕ) (standing : ScenarioStanding) (number : ℕ) : Type 0 where
  pub so_far : HasReadTo scenario_rules start 1 (lines_of text) standing number (lines_of rest)
  pub keeps : StandingKeeps standing
  pub count : number ≡ length (standing_lines standing) + 1
  pub few : number ≤ 43013

pub read_none : (text : List ℕ) → IsRead text text start 1
read_none text = record { so_far = none_read scenario_rules start 1 (lines_of text); keeps = tt; count = refl; few = omega arith }

-- one line more
pub read_more : (text rest : List ℕ) (from to : ScenarioStanding) (number : ℕ) (next : NextLine (lines_of rest)) → IsRead text rest from number → LeadsBy from next.line to
    → IsRead text next.rest to (number + 1)
read_more text rest from to number next read by =
    let one = settles_one from by.said read.keeps by.follows in
    let keeps : StandingKeeps to = subst StandingKeeps by.leads one.1 in
    let count : number + 1 ≡ length (standing_lines to) + 1 =
    subst (λ (s : ScenarioStanding). number + 1 ≡ length (standing_lines s) + 1) by.leads
    (omega (arith, read.count, ap length one.0, length-append (standing_lines from) (by.said ∷ []))) in
    record {
      so_far = one_read scenario_rules start 1 (lines_of text) from number (lines_of rest) next to read.so_far by;
      keeps = keeps;
      count = count;
      few = omega (arith, count, few_lines to keeps);
    }

-- the next line is the first faulty one
pub line_refused : (text rest : List ℕ) (standing : ScenarioStanding) (number : ℕ) (next : NextLine (lines_of rest)) (fault : Unread) → IsRead text rest standing number
    → IsNotTaken standing next.line number fault → IsRefused text fault
line_refused text rest standing number next (unread.Line fault) read not_taken =
    subst (λ n. IsFirstScenarioFault text n fault.reason) (sym not_taken.0)
    (fault_read scenario_rules start 1 (lines_of text) standing number (lines_of rest) next fault.reason read.so_far not_taken.1)
line_refused text rest standing number next unread.OutOfMemory read not_taken = tt

-- the text may not end so
pub end_refused : (text rest : List ℕ) (standing : ScenarioStanding) (number : ℕ) (fault : Unread) → IsRead text rest standing number → lines_of rest ≡ rest ∷ []
    → IsUnfinished standing rest number fault → IsRefused text fault
end_refused text rest standing number (unread.Line fault) read last unfinished =
    subst (λ n. IsFirstScenarioFault text n fault.reason) (sym unfinished.0)
    (subst (λ (f : FaultReason). IsFirstScenarioFault text number f) (sym unfinished.1)
    (unended_read scenario_rules start 1 (lines_of text) standing number rest read.so_far last unfinished.2))
end_refused text rest standing number unread.OutOfMemory read last unfinished = tt

-- all is read, and says the scenario
pub all_said : (text rest : List ℕ) (standing : ScenarioStanding) (number : ℕ) (scenario : Scenario) → IsRead text rest standing number
    → (rest ≡ []) × StandsFor standing scenario → SaysScenario text scenario
all_said text rest standing number scenario read ends =
    let is = ends.1.is in
    record {
      draft = ends.1.draft;
      whole = subst (λ (s : ScenarioStanding). IsText scenario_rules text s) is
          (all_read scenario_rules start 1 (lines_of text) standing number rest read.so_far ends.0 (subst ScenarioMayEnd (sym is) tt));
      says = ends.1.says;
    }
