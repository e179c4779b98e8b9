-- The texts of scenarios are those that stand behind their end by the rules of a text, and each says one scenario.
use Rattle.std.proofs.Common.{◌≡◌, ◌⊎◌, ℕ, ◌+◌, List, [], ◌∷◌, length, map, inl, inr, refl, sym, ◌∙◌, ap, ap₂, subst}
use Rattle.text_fields.specs.Lines.{lines_of, text_with}
use Rattle.checked_lines.specs.TextRules.{HasOutcomeFrom, IsText, Whole}
use Rattle.checked_lines.specs.laws.OneOutcome.{one_fault, one_text, text_not_faulty}
use Rattle.checked_lines.specs.laws.ReadingOn.{outcome_behind}
use Rattle.scenario_lines.specs.declared.line.Line.{Line}
use Rattle.scenario_lines.specs.Spelling.{line_text}
use Rattle.scenario.specs.declared.values.Scenario.{Scenario}
use Rattle.scenario.specs.Limits.{IsScenario}
use Rattle.scenario.specs.ScenarioText.{scenario_lines, scenario_text}
use Rattle.checked_lines.specs.declared.fault.FaultReason.{FaultReason}
use Rattle.checked_lines.specs.declared.fault.Unread.{Unread}
use Rattle.checked_lines.specs.declared.fault.Unread.TheVariants as unread
use Rattle.scenario.specs.laws.LineLaws.{LineLaws}
use Rattle.scenario.specs.Draft.{DraftValue, scenario_of}
use Rattle.scenario.specs.Faults.{IsFirstScenarioFault, IsRefused, scenario_rules}
use Rattle.scenario.specs.Standing.{ended, start}
use Rattle.scenario.specs.ReaderAnswers.{SaysScenario}
use Rattle.scenario.proofs.Reasons.{unambiguous}
use Rattle.scenario.proofs.Settled.{said_scenario}
use Rattle.scenario.proofs.Spoken.{scenario_is_said}
use Rattle.checked_lines.specs.laws.TextLaws.{whole_ends}
use Rattle.scenario.proofs.Texts.{lead_settles, lines_lead, lines_said, text_of_lines}

-- a text that stands behind its end is that of a scenario
pub whole_is_spelled : (bytes : List ℕ) (draft : DraftValue) → IsText scenario_rules bytes (ended draft) → IsScenario (scenario_of draft) × (bytes ≡ scenario_text (scenario_of draft))
whole_is_spelled bytes draft is =
    let ends = whole_ends scenario_rules start (ended draft) 1 (lines_of bytes) is in
    let settles = lead_settles start (ended draft) ends.before ends.lead in
    let whole = said_scenario draft settles.said settles.leads in (
      whole.1,
      text_of_lines bytes ends.before ends.cut ∙ ap text_with settles.spelling ∙ ap (λ (list : List Line). text_with (map line_text list)) whole.0,
    )

-- what is read is spelled so
pub read_is_spelled : (text : List ℕ) (scenario : Scenario) → SaysScenario text scenario → IsScenario scenario × (text ≡ scenario_text scenario)
read_is_spelled text scenario read =
    subst (λ (it : Scenario). IsScenario it × (text ≡ scenario_text it)) read.says (whole_is_spelled text read.draft read.whole)

-- the text of a scenario says it
text_says : LineLaws → (scenario : Scenario) → IsScenario scenario → SaysScenario (scenario_text scenario) scenario
text_says laws scenario is =
    let said = scenario_is_said scenario is in
    let to = ended said.draft in
    let lines = map line_text (scenario_lines scenario) in
    record {
      draft = said.draft;
      whole = subst (λ (all : List (List ℕ)). HasOutcomeFrom scenario_rules start 1 all (Whole to)) (sym (lines_said laws start to (scenario_lines scenario) said.leads))
          (outcome_behind scenario_rules start to 1 (1 + length lines) lines ([] ∷ []) (Whole to) (λ none. cc) refl
          (lines_lead laws start to (scenario_lines scenario) said.leads) (refl, tt, refl));
      says = said.says;
    }

same_draft : {draft other : DraftValue} → ended draft ≡ ended other → draft ≡ other
same_draft same = cc

-- a text says one scenario
one_is_said : LineLaws → (text : List ℕ) (one other : Scenario) → SaysScenario text one → SaysScenario text other → one ≡ other
one_is_said laws text one other first second =
    let same = one_text scenario_rules (unambiguous laws) text (ended first.draft) (ended second.draft) first.whole second.whole in
    sym first.says ∙ ap scenario_of (same_draft same) ∙ second.says

-- two scenarios with one text are one
pub scenario_told : LineLaws → (one other : Scenario) → IsScenario one → IsScenario other → scenario_text one ≡ scenario_text other → one ≡ other
scenario_told laws one other is is' same =
    one_is_said laws (scenario_text other) one other (subst (λ (text : List ℕ). SaysScenario text one) same (text_says laws one is)) (text_says laws other is')

-- the text of a scenario has no faulty line
pub scenario_is_not_faulty : LineLaws → (scenario : Scenario) (number : ℕ) (fault : FaultReason) → IsScenario scenario
    → IsFirstScenarioFault (scenario_text scenario) number fault → ⊥
scenario_is_not_faulty laws scenario number fault is first =
    let says = text_says laws scenario is in
    text_not_faulty scenario_rules (unambiguous laws) (scenario_text scenario) (ended says.draft) number fault says.whole first

-- where there is a first faulty line, a refusal tells it, or there was no memory
pub told_exactly : LineLaws → (bytes : List ℕ) (refusal : Unread) (number : ℕ) (fault : FaultReason) → IsRefused bytes refusal → IsFirstScenarioFault bytes number fault
    → (refusal ≡ unread.Line (record { line = number; reason = fault })) ⊎ (refusal ≡ unread.OutOfMemory)
told_exactly laws bytes (unread.Line faulty) number fault refused first =
    let both = one_fault scenario_rules (unambiguous laws) bytes faulty.line number faulty.reason fault refused first in
    inl (ap₂ (λ n f. unread.Line (record { line = n; reason = f })) both.0 both.1)
told_exactly laws bytes unread.OutOfMemory number fault refused first = inr refl

-- ... and no scenario is read
pub none_is_read : LineLaws → (bytes : List ℕ) (scenario : Scenario) (number : ℕ) (fault : FaultReason) → IsScenario scenario × (bytes ≡ scenario_text scenario)
    → IsFirstScenarioFault bytes number fault → ⊥
none_is_read laws bytes scenario number fault read first =
    scenario_is_not_faulty laws scenario number fault read.0 (subst (λ (text : List ℕ). IsFirstScenarioFault text number fault) read.1 first)

-- what is read is the scenario that the text spells
pub is_the_one : LineLaws → (text : List ℕ) (said scenario : Scenario) → IsScenario said → text ≡ scenario_text said → SaysScenario text scenario → scenario ≡ said
is_the_one laws text said scenario is same read =
    one_is_said laws text scenario said read (subst (λ (it : List ℕ). SaysScenario it said) (sym same) (text_says laws said is))

-- ... and it is refused for want of memory alone
pub memory_alone : LineLaws → (text : List ℕ) (said : Scenario) (refusal : Unread) → IsScenario said → text ≡ scenario_text said → IsRefused text refusal
    → refusal ≡ unread.OutOfMemory
memory_alone laws text said (unread.Line fault) is same refused = absurd (none_is_read laws text said fault.line fault.reason (is, same) refused)
memory_alone laws text said unread.OutOfMemory is same refused = refl
