-- What an audit that says yes promises, and that each input has a verdict or a fault.
use Rattle.std.proofs.Common.{◌≡◌, ◌⊎◌, ◌+◌, ℕ, List, [], ◌∷◌, ◌++◌, get_or, inl, inr, arith, refl, sym, ap, ◌∙◌, subst}
use Rattle.std.proofs.lemmas.List.{append-nil}
use Rattle.air_audit.specs.AuditedTrace.{IsAudited}
use Rattle.air_audit.specs.FirstRefusal.{IsAuditVerdict}
use Rattle.air_audit.specs.OwnTraces.{HasNoEventStep, IsToldByLines}
use Rattle.air_audit.specs.ReceivedLists.{ListsWhatIsReceived}
use Rattle.air_audit.specs.ScenarioAndTrace.{scenario_part, trace_part}
use Rattle.air_audit.specs.VerdictText.{event_line, verdict_line}
use Rattle.air_audit.specs.declared.verdict.Verdict.{Verdict}
use Rattle.air_audit.specs.declared.verdict.Verdict.TheVariants.{Yes, No}
use Rattle.air_model.specs.Past.{Start, Item, tags_behind, tags_behind_from}
use Rattle.runs.specs.ScenarioHistory.{history, start_of}
use Rattle.scenario.specs.Limits.{IsScenario}
use Rattle.scenario.specs.ScenarioText.{IsScenarioText, scenario_text}
use Rattle.scenario.specs.declared.values.Scenario.{Scenario}
use Rattle.scenario.specs.declared.values.Step.{Step}
use Rattle.scenario.specs.declared.values.Step.TheVariants as steps
use Rattle.tag_machine.specs.TagsInExchange.{AreLegalTags}
use Rattle.tag_machine.specs.TagValue.{TagValue}
use Rattle.top_call.specs.words.Audit.{Audits, SaysReceived}
use Rattle.top_call.proofs.RunEnds.{AreToldApart}

-- the laws of traces and of scenarios that the promise goes by
pub record PromiseLaws : Type 0 where
  pub told_apart : AreToldApart
  pub lists : (start : Start) (bytes : List ℕ) → AreLegalTags start.tags → IsAudited start bytes → ListsWhatIsReceived start.link bytes
  pub legal : (scenario : Scenario) (later earlier : List Item) → IsScenario scenario → history scenario ≡ later ++ earlier
      → AreLegalTags (tags_behind (start_of scenario) earlier)

-- the other lines begin with another letter
no-yes : (rest : List ℕ) → 110 ∷ rest ≡ verdict_line Yes → ⊥
no-yes rest same = let letter : 110 ≡ 121 = ap (λ (bytes : List ℕ). get_or bytes 0 0) same in omega (arith, letter)

audited : (start : Start) (trace : List ℕ) (verdict : Verdict) → IsAuditVerdict start trace verdict → verdict_line verdict ≡ verdict_line Yes → IsAudited start trace
audited start trace Yes right same_line = right
audited start trace (No number reason) right same_line = absurd (no-yes _ same_line)

tags-before : (number : ℕ) (starts : List TagValue) → tags_behind_from number starts [] ≡ starts
tags-before number [] = refl
tags-before number (start ∷ starts) = ap (λ (tags : List TagValue). start ∷ tags) (tags-before (number + 1) starts)

-- the tags of a scenario are legal
start-legal : PromiseLaws → (scenario : Scenario) → IsScenario scenario → AreLegalTags (start_of scenario).tags
start-legal laws scenario legal =
    subst AreLegalTags (tags-before 0 (start_of scenario).tags) (laws.legal scenario (history scenario) [] legal (sym (append-nil (history scenario))))

said : PromiseLaws → (scenario : Scenario) (bytes text : List ℕ) → IsScenario scenario → (writes : Audits bytes text) → writes.scenario ≡ scenario → text ≡ verdict_line Yes
    → ListsWhatIsReceived scenario.link (trace_part bytes)
said laws scenario bytes text legal writes same same_line = elim writes.says [
  | inl event ↦ absurd (no-yes _ (sym event.line ∙ same_line))
  | inr verdict ↦
      let of_it : IsAuditVerdict (start_of scenario) (trace_part bytes) verdict.verdict =
      subst (λ (s : Scenario). IsAuditVerdict (start_of s) (trace_part bytes) verdict.verdict) same verdict.right in
      laws.lists (start_of scenario) (trace_part bytes) (start-legal laws scenario legal)
      (audited (start_of scenario) (trace_part bytes) verdict.verdict of_it (sym verdict.line ∙ same_line))
]

pub received-said : PromiseLaws → (bytes text : List ℕ) → Audits bytes text → SaysReceived bytes text
received-said laws bytes text writes = λ scenario legal spelled same_line.
    said laws scenario bytes text legal writes (laws.told_apart writes.scenario scenario writes.legal legal (sym writes.spelled ∙ spelled)) same_line

-- an event is a step of a scenario, or is none
told-behind : (step : Step) (more : List Step) → IsToldByLines step → HasNoEventStep more ⊎ (¬ HasNoEventStep more) → HasNoEventStep (step ∷ more) ⊎ (¬ HasNoEventStep (step ∷ more))
told-behind step more first (inl told) = inl (first, told)
told-behind step more first (inr untold) = inr (λ told. untold told.1)

told-or : (all : List Step) → HasNoEventStep all ⊎ (¬ HasNoEventStep all)
told-or [] = inl tt
told-or (steps.Event event number ∷ more) = inr (λ told. told.0)
told-or (steps.Select command ∷ more) = told-behind (steps.Select command) more tt (told-or more)
told-or (steps.Nak ∷ more) = told-behind steps.Nak more tt (told-or more)
told-or (steps.Round spec operations ∷ more) = told-behind (steps.Round spec operations) more tt (told-or more)

-- bytes that begin with a scenario have a text
text-of : (bytes : List ℕ) (scenario : Scenario) → IsScenario scenario → scenario_part bytes ≡ scenario_text scenario → HasNoEventStep scenario.steps ⊎ (¬ HasNoEventStep scenario.steps)
    → ((verdict : Verdict) × IsAuditVerdict (start_of scenario) (trace_part bytes) verdict) → (text : List ℕ) × Audits bytes text
text-of bytes scenario legal spelled (inl told) verdict =
    (verdict_line verdict.0, record { scenario = scenario; legal = legal; spelled = spelled; says = inr (record { told = told; verdict = verdict.0; right = verdict.1; line = refl }) })
text-of bytes scenario legal spelled (inr untold) verdict =
    (event_line, record { scenario = scenario; legal = legal; spelled = spelled; says = inl (record { untold = untold; line = refl }) })

pub audited-text : ((start : Start) (trace : List ℕ) → (verdict : Verdict) × IsAuditVerdict start trace verdict) → (bytes : List ℕ) → IsScenarioText (scenario_part bytes) → (text : List ℕ) × Audits bytes text
audited-text verdicts bytes text = text-of bytes text.0 text.1 text.2 (told-or text.0.steps) (verdicts (start_of text.0) (trace_part bytes))
