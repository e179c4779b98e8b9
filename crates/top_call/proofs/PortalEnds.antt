-- The texts of `portals`, by the laws of scenarios.
use Rattle.std.proofs.Common.{◌≡◌, ◌⊎◌, inl, inr, ℕ, List, Option, Some, None, refl, sym, ◌∙◌, ap, codes}
use Rattle.std.specs.Prelude.{All, true}
use Rattle.top_call.specs.PortalFault.{portal_fault}
use Rattle.top_call.specs.PortalText.{portals_text}
use Rattle.runs.specs.PortalHistories.{ArePortalsIndependent, IsOfPortals, portals_told}
use Rattle.scenario.specs.declared.values.Scenario.{Scenario}
use Rattle.scenario.specs.Limits.{IsScenario}
use Rattle.scenario.specs.ScenarioText.{IsScenarioText, scenario_text}
use Rattle.checked_lines.specs.declared.fault.FaultReason.{FaultReason}
use Rattle.checked_lines.specs.FaultWords.{reason_word}
use Rattle.scenario.specs.Faults.{IsFirstScenarioFault}
use Rattle.text_fields.specs.FaultLine.{fault_line}
use Rattle.top_call.specs.Job.{Defines}
use Rattle.top_call.specs.words.Portals.{Compares, IsPortalsText, ProvesPortals, RefusesPortal, RefusesPortals, portals_job}
use Rattle.top_call.specs.words.Run.{RefusesScenario}
use Rattle.top_call.proofs.RunEnds.{AreNotFaulty, AreToldApart, HasOneFault, same_refusal, text_not_refused}

-- two numbers of one fault
same_number : (one other : ℕ) → Some one ≡ Some other → one ≡ other
same_number one other same = cc

-- an input has one fault line
same_fault : AreToldApart → (bytes one other : List ℕ) → RefusesPortal bytes one → RefusesPortal bytes other → one ≡ other
same_fault told_apart bytes one other left right =
    let scenarios : left.scenario ≡ right.scenario = told_apart left.scenario right.scenario left.legal right.legal (sym left.spelled ∙ right.spelled) in
    let numbers = same_number left.number right.number (sym left.fault ∙ ap portal_fault scenarios ∙ right.fault) in
    left.line ∙ ap (λ number. fault_line number (codes "portal")) numbers ∙ sym right.line

-- bytes that spell a scenario have no line that is faulty for every word
spelled_not_refused : AreNotFaulty → (bytes one other : List ℕ) → RefusesPortal bytes one → RefusesScenario bytes other → ⊥
spelled_not_refused not_faulty bytes one other spells refused = text_not_refused not_faulty bytes other (spells.scenario, spells.legal, spells.spelled) refused

pub same_refusals : AreToldApart → HasOneFault → AreNotFaulty → (bytes one other : List ℕ) → RefusesPortals bytes one → RefusesPortals bytes other → one ≡ other
same_refusals told_apart one_fault not_faulty bytes one other (inl left) (inl right) = same_refusal one_fault bytes one other left right
same_refusals told_apart one_fault not_faulty bytes one other (inl left) (inr right) = absurd (spelled_not_refused not_faulty bytes other one right left)
same_refusals told_apart one_fault not_faulty bytes one other (inr left) (inl right) = absurd (spelled_not_refused not_faulty bytes one other left right)
same_refusals told_apart one_fault not_faulty bytes one other (inr left) (inr right) = same_fault told_apart bytes one other left right

-- bytes that spell a scenario of two portals have no fault line
pub portals_not_refused : AreToldApart → AreNotFaulty → (bytes text : List ℕ) → IsPortalsText bytes → RefusesPortals bytes text → ⊥
portals_not_refused told_apart not_faulty bytes text of (inl refused) = text_not_refused not_faulty bytes text (of.scenario, of.legal, of.spelled) refused
portals_not_refused told_apart not_faulty bytes text of (inr refused) =
    let scenarios : of.scenario ≡ refused.scenario = told_apart of.scenario refused.scenario of.legal refused.legal (sym of.spelled ∙ refused.spelled) in
    let both : None ≡ Some refused.number = sym of.portals ∙ ap portal_fault scenarios ∙ refused.fault in
    absurd (cc)

-- what is proved of the text
pub proves_portals : ((scenario : Scenario) → IsScenario scenario → portal_fault scenario ≡ None → IsOfPortals scenario)
    → ((scenario : Scenario) → IsScenario scenario → IsOfPortals scenario → All (λ line. line.quiet ≡ true) (portals_told scenario) → ArePortalsIndependent scenario)
    → (bytes text : List ℕ) → Compares bytes text → ProvesPortals bytes text
proves_portals of independent bytes text compares = record {
  compares = compares;
  independent = λ quiet. independent compares.of.scenario compares.of.legal (of compares.of.scenario compares.of.legal compares.of.portals) quiet;
}

-- what is written of a scenario that was read
pub portals_written : (bytes text : List ℕ) (scenario : Scenario) → IsScenario scenario × (bytes ≡ scenario_text scenario) → portal_fault scenario ≡ None → text ≡ portals_text (portals_told scenario)
    → Compares bytes text
portals_written bytes text scenario read none lines = record { of = record { scenario = scenario; legal = read.0; spelled = read.1; portals = none }; lines = lines }

pub portal_refused : (bytes text : List ℕ) (scenario : Scenario) (number : ℕ) → IsScenario scenario × (bytes ≡ scenario_text scenario) → portal_fault scenario ≡ Some number
    → text ≡ fault_line number (codes "portal") → RefusesPortals bytes text
portal_refused bytes text scenario number read some line =
    inr (record { scenario = scenario; legal = read.0; spelled = read.1; number = number; fault = some; line = line })

-- each input has a text
some_text : (bytes : List ℕ) (scenario : Scenario) → IsScenario scenario × (bytes ≡ scenario_text scenario) → (found : Option ℕ) → portal_fault scenario ≡ found → (text : List ℕ) × Defines portals_job bytes text
some_text bytes scenario read None found = (portals_text (portals_told scenario), inl (portals_written bytes _ scenario read found refl))
some_text bytes scenario read (Some number) found = (fault_line number (codes "portal"), inr (portal_refused bytes _ scenario number read found refl))

pub text_of : (bytes : List ℕ) → IsScenarioText bytes ⊎ ((number : ℕ) × (fault : FaultReason) × IsFirstScenarioFault bytes number fault) → (text : List ℕ) × Defines portals_job bytes text
text_of bytes (inl spelled) = some_text bytes spelled.0 (spelled.1, spelled.2) (portal_fault spelled.0) refl
text_of bytes (inr faulty) =
    (fault_line faulty.0 (reason_word faulty.1), inr (inl (record { number = faulty.0; fault = faulty.1; first = faulty.2; line = refl })))
