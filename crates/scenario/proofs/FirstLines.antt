-- The first faulty line of a text is the first line up to which its lines begin no scenario's text.
use Rattle.std.proofs.Common.{◌≡◌, ◌≢◌, ℕ, ◌+◌, ◌<◌, ◌≤◌, List, [], ◌∷◌, ◌++◌, length, map, take, drop, sym, ◌∙◌, ap, subst, arith, append_assoc}
use Rattle.std.proofs.lemmas.List.{length-append, map-append, take_all, take-append-drop, take-append-le}
use Rattle.text_fields.specs.Lines.{lines_of}
use Rattle.checked_lines.specs.TextRules.{Lead}
use Rattle.scenario_lines.specs.declared.line.Line.{Line}
use Rattle.scenario_lines.specs.Spelling.{line_text}
use Rattle.scenario.specs.ScenarioText.{scenario_lines}
use Rattle.checked_lines.specs.declared.fault.FaultReason.{FaultReason}
use Rattle.scenario.specs.Beginnings.{BeginsScenario, BeginsText, FirstLinesBegin}
use Rattle.scenario.specs.Draft.{scenario_of}
use Rattle.scenario.specs.Faults.{IsFirstScenarioFault, scenario_rules}
use Rattle.scenario.specs.Standing.{LinesLead, ScenarioStanding, ended, start}
use Rattle.scenario.specs.laws.LineLaws.{LineLaws}
use Rattle.scenario.proofs.Endings.{can_end}
use Rattle.scenario.proofs.Leading.{leads_on}
use Rattle.scenario.proofs.Reasons.{unambiguous}
use Rattle.scenario.proofs.Settled.{said_scenario}
use Rattle.scenario.proofs.Spoken.{scenario_is_said}
use Rattle.checked_lines.specs.laws.TextLaws.{StopsBehind, fault_stops, lead_not_faulty}
use Rattle.scenario.proofs.Texts.{lead_settles, lines_lead}

-- lines that follow one another from the start begin a scenario
pub said_begins : (said : List Line) (standing : ScenarioStanding) → LinesLead start said standing → BeginsScenario said
said_begins said standing leads =
    let end = can_end standing in
    let whole = said_scenario end.draft (said ++ end.more) (leads_on start standing (ended end.draft) said end.more leads end.leads) in
    record { scenario = scenario_of end.draft; is = whole.1; more = end.more; lines = sym whole.0 }

-- ... and so do the texts of the first ones among those that lead on
lead_begins : (before : List (List ℕ)) (standing : ScenarioStanding) (number : ℕ) → Lead scenario_rules start before standing → BeginsText (take number before)
lead_begins before standing number lead =
    let settles = lead_settles start standing before lead in
    let begins = said_begins settles.said standing settles.leads in
    let behind = map line_text begins.more in
    record {
      scenario = begins.scenario;
      is = begins.is;
      more = drop number before ++ behind;
      texts = ap (map line_text) begins.lines ∙ map-append line_text settles.said begins.more
          ∙ ap (λ (texts : List (List ℕ)). texts ++ behind) (sym settles.spelling ∙ sym (take-append-drop number before))
          ∙ append_assoc (take number before) (drop number before) behind;
    }

-- the first faulty line of some bytes
abbrev FirstStop : List ℕ → ℕ → FaultReason → Type 0
FirstStop bytes number fault = StopsBehind scenario_rules start 1 (lines_of bytes) number fault

-- how many lines there are, with the faulty one
lines_there : (bytes : List ℕ) (number : ℕ) (fault : FaultReason) (first : FirstStop bytes number fault)
    → length (lines_of bytes) ≡ length first.before + 1 + length first.behind
lines_there bytes number fault first = ap length first.cut ∙ length-append first.before (first.line ∷ first.behind) ∙ omega arith

-- the lines before the faulty one begin a scenario's text
pub lines_before : (bytes : List ℕ) (number : ℕ) (fault : FaultReason) (below : ℕ) → IsFirstScenarioFault bytes number fault → below < number → FirstLinesBegin bytes below
lines_before bytes number fault below is less =
    let first : FirstStop bytes number fault = fault_stops scenario_rules start 1 number fault (lines_of bytes) is in
    let few : below ≤ length first.before = omega (arith, first.place) in
    let same : take below (lines_of bytes) ≡ take below first.before =
    ap (take below) first.cut ∙ take-append-le below first.before (first.line ∷ first.behind) few in
    record {
      ended = omega (arith, few, lines_there bytes number fault first);
      begins = subst BeginsText (sym same) (lead_begins first.before first.standing below first.lead);
    }

-- the lines up to a faulty one that has its line feed
upto_fault : (bytes : List ℕ) (number : ℕ) (fault : FaultReason) (first : FirstStop bytes number fault) → take number (lines_of bytes) ≡ first.before ++ first.line ∷ []
upto_fault bytes number fault first =
    let upto = first.before ++ first.line ∷ [] in
    let count : length upto ≡ number = omega (arith, first.place, length-append first.before (first.line ∷ [])) in
    ap (take number) (first.cut ∙ sym (append_assoc first.before (first.line ∷ []) first.behind))
    ∙ take-append-le number upto first.behind (omega (arith, count)) ∙ take_all number upto (omega (arith, count))

-- the lines up to the faulty one begin no scenario's text, or the faulty one has no line feed
pub lines_upto : LineLaws → (bytes : List ℕ) (number : ℕ) (fault : FaultReason) → IsFirstScenarioFault bytes number fault → ¬ FirstLinesBegin bytes number
lines_upto laws bytes number fault is = λ upto.
    let first : FirstStop bytes number fault = fault_stops scenario_rules start 1 number fault (lines_of bytes) is in
    let some : first.behind ≢ [] = λ none. omega (arith, upto.ended, first.place, lines_there bytes number fault first, ap length none) in
    let begins = upto.begins in
    let spoken = scenario_is_said begins.scenario begins.is in
    let texts : map line_text (scenario_lines begins.scenario) ≡ first.before ++ first.line ∷ begins.more =
    begins.texts ∙ ap (λ (front : List (List ℕ)). front ++ begins.more) (upto_fault bytes number fault first)
    ∙ append_assoc first.before (first.line ∷ []) begins.more in
    lead_not_faulty scenario_rules (unambiguous laws) start first.standing (ended spoken.draft) first.before begins.more first.line fault first.lead
    (first.faulty some)
    (subst (λ (all : List (List ℕ)). Lead scenario_rules start all (ended spoken.draft)) texts
    (lines_lead laws start (ended spoken.draft) (scenario_lines begins.scenario) spoken.leads))
