-- The texts of `run`, by the laws of scenarios: what holds of reports and fault lines.
use Rattle.std.proofs.Common.{◌≡◌, ◌⊎◌, ℕ, List, ◌++◌, Option, refl, sym, ◌∙◌, ap, subst, inl, inr}
use Rattle.air_io.specs.Flow.{Adds}
use Rattle.scenario.specs.declared.values.Scenario.{Scenario}
use Rattle.checked_lines.specs.declared.fault.FaultReason.{FaultReason}
use Rattle.scenario.specs.Limits.{IsScenario}
use Rattle.scenario.specs.ScenarioText.{IsScenarioText, scenario_text}
use Rattle.scenario.specs.Faults.{IsFirstScenarioFault}
use Rattle.checked_lines.specs.FaultWords.{reason_word}
use Rattle.text_fields.specs.FaultLine.{fault_line}
use Rattle.report_lines.specs.declared.mode.Mode.{Mode}
use Rattle.runs.specs.Report.{report_text_of}
use Rattle.top_call.specs.words.Run.{Reports, RefusesScenario}
use Rattle.top_call.specs.StatusMeanings.{AddsFront}

-- what the laws of scenarios say: a text spells one scenario,
abbrev pub AreToldApart : Type 0
AreToldApart = (one other : Scenario) → IsScenario one → IsScenario other → scenario_text one ≡ scenario_text other → one ≡ other

-- a text has one first fault,
abbrev pub HasOneFault : Type 0
HasOneFault = (bytes : List ℕ) (one other : ℕ) (fault reason : FaultReason) → IsFirstScenarioFault bytes one fault → IsFirstScenarioFault bytes other reason → (one ≡ other) × (fault ≡ reason)

-- and the text of a scenario has none
abbrev pub AreNotFaulty : Type 0
AreNotFaulty = (scenario : Scenario) (number : ℕ) (fault : FaultReason) → IsScenario scenario → IsFirstScenarioFault (scenario_text scenario) number fault → ⊥

-- a scenario's text has no fault line
pub text_not_refused : AreNotFaulty → (bytes text : List ℕ) → IsScenarioText bytes → RefusesScenario bytes text → ⊥
text_not_refused not_faulty bytes text allowed refused =
    not_faulty allowed.0 refused.number refused.fault allowed.1 (subst (λ b. IsFirstScenarioFault b refused.number refused.fault) allowed.2 refused.first)

-- what a word writes of the one scenario that bytes spell is one text
pub same_of_scenario : AreToldApart → (text_of : Scenario → List ℕ) (bytes one other : List ℕ) (left right : IsScenarioText bytes) → one ≡ text_of left.0 → other ≡ text_of right.0 → one ≡ other
same_of_scenario told_apart text_of bytes one other left right first second = first ∙ ap text_of (told_apart left.0 right.0 left.1 right.1 (sym left.2 ∙ right.2)) ∙ sym second

-- an input has one fault line
pub same_refusal : HasOneFault → (bytes one other : List ℕ) → RefusesScenario bytes one → RefusesScenario bytes other → one ≡ other
same_refusal one_fault bytes one other left right =
    let faults = one_fault bytes left.number right.number left.fault right.fault left.first right.first in
    left.line ∙ ap (λ number. fault_line number (reason_word left.fault)) faults.0 ∙ ap (λ fault. fault_line right.number (reason_word fault)) faults.1 ∙ sym right.line

-- bytes have a text where it is so of those that spell a scenario, since the others have a fault line
pub some_text : (T : List ℕ → Type 0) (bytes : List ℕ) → (IsScenarioText bytes → (text : List ℕ) × T text)
    → IsScenarioText bytes ⊎ ((number : ℕ) × (fault : FaultReason) × IsFirstScenarioFault bytes number fault) → (text : List ℕ) × (T text ⊎ RefusesScenario bytes text)
some_text T bytes texts (inl spelled) = let found = texts spelled in (found.0, inl found.1)
some_text T bytes texts (inr faulty) = (fault_line faulty.0 (reason_word faulty.1), inr (record { number = faulty.0; fault = faulty.1; first = faulty.2; line = refl }))

-- what is there of a report is a front of one
pub front_of_report : (mode : Mode) (bytes : List ℕ) (text : IsScenarioText bytes) (written written' : Option (List ℕ))
    → (front : List ℕ) × (rest : List ℕ) × (report_text_of mode text.0 ≡ front ++ rest) × Adds written written' front → AddsFront (Reports mode bytes) written written'
front_of_report mode bytes text written written' part = record {
  front = part.0;
  rest = part.1;
  named = record { scenario = text.0; legal = text.1; spelled = text.2; report = sym part.2 };
  added = part.3;
}
