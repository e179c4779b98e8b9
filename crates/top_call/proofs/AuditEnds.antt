-- What is said of the trace behind a scenario, by the laws of scenarios and of verdicts.
use Rattle.std.proofs.Common.{◌≡◌, ◌⊎◌, ◌==◌, ℕ, Bool, true, false, List, [], ◌∷◌, length, map, Option, Some, if◌then◌else◌, inl, inr, sym, ap, ◌∙◌, subst, arith}
use Rattle.std.proofs.lemmas.List.{length-map}
use Rattle.std.proofs.lemmas.List.Elements.{All-head, All-tail}
use Rattle.std.specs.Prelude.{All, IfSome}
use Rattle.air_audit.specs.AuditedTrace.{IsAudited}
use Rattle.air_audit.specs.AuditorStanding.{AreAsGiven, GivesStream}
use Rattle.air_audit.specs.FirstRefusal.{IsAuditVerdict}
use Rattle.air_audit.specs.OwnTraces.{HasNoEventStep}
use Rattle.air_audit.specs.ScenarioAndTrace.{trace_part}
use Rattle.air_audit.specs.VerdictText.{verdict_line}
use Rattle.air_audit.specs.declared.verdict.Verdict.{Verdict}
use Rattle.air_events.specs.Entries.{entry_at}
use Rattle.air_events.specs.declared.Choice.{Choice}
use Rattle.air_events.specs.declared.Choice.TheVariants as choices
use Rattle.air_events.specs.declared.Entry.{Entry}
use Rattle.air_model.specs.Past.{Start}
use Rattle.air_world.proofs.Beginning.{scenario-few, scenario-names}
use Rattle.report_lines.specs.declared.mode.Mode.TheVariants.{Trace}
use Rattle.runs.specs.Report.{report_text_of}
use Rattle.runs.specs.ScenarioHistory.{start_of, scenario_tag}
use Rattle.scenario.specs.Groups.{tags_of}
use Rattle.scenario.specs.Limits.{IsEntry, IsScenario}
use Rattle.scenario.specs.declared.values.Scenario.{Scenario}
use Rattle.scenario_lines.specs.LineForm.{IsChoice}
use Rattle.tag_machine.specs.TagValue.{TagValue}
use Rattle.top_call.specs.words.Audit.{Audits, SaysEvent, SaysVerdict}
use Rattle.top_call.specs.words.Run.{IsOwnTrace, Reports}
use Rattle.top_call.proofs.RunEnds.{AreToldApart}

-- what the law of verdicts says: no two verdicts on a trace are right
abbrev pub HaveOneVerdict : Type 0
HaveOneVerdict = (start : Start) (bytes : List ℕ) (one other : Verdict) → IsAuditVerdict start bytes one → IsAuditVerdict start bytes other → one ≡ other

said-once : HaveOneVerdict → (scenario : Scenario) (trace one other : List ℕ) → SaysEvent scenario one ⊎ SaysVerdict scenario trace one
    → SaysEvent scenario other ⊎ SaysVerdict scenario trace other → one ≡ other
said-once law scenario trace one other (inl left) (inl right) = left.line ∙ sym right.line
said-once law scenario trace one other (inl left) (inr right) = absurd (left.untold right.told)
said-once law scenario trace one other (inr left) (inl right) = absurd (right.untold left.told)
said-once law scenario trace one other (inr left) (inr right) =
    left.line ∙ ap (λ (v : Verdict). verdict_line v) (law (start_of scenario) trace left.verdict right.verdict left.right right.right) ∙ sym right.line

-- an input has one text
pub same-audit : AreToldApart → HaveOneVerdict → (bytes one other : List ℕ) → Audits bytes one → Audits bytes other → one ≡ other
same-audit told_apart law bytes one other left right =
    let scenarios : right.scenario ≡ left.scenario = told_apart right.scenario left.scenario right.legal left.legal (sym right.spelled ∙ left.spelled) in
    said-once law left.scenario (trace_part bytes) one other left.says
    (subst (λ (s : Scenario). SaysEvent s other ⊎ SaysVerdict s (trace_part bytes) other) scenarios right.says)

-- what is said of exchanges in a scenario is as an audit wants it
chosen-stream : (choice : Option Choice) → IfSome choice IsChoice → GivesStream choice
chosen-stream (Some (choices.Raw levels)) is = is
chosen-stream choice is = tt

stream-if : (here : Bool) (one other : Entry) → GivesStream one.choice → GivesStream other.choice → GivesStream (if here then one else other).choice
stream-if true one other is are = is
stream-if false one other is are = are

streams-all : (tags : ℕ) (entries : List (ℕ × Entry)) → All (IsEntry tags) entries → (exchange : ℕ) → GivesStream (entry_at entries exchange).choice
streams-all tags [] are exchange = tt
streams-all tags (entry ∷ entries) are exchange =
    stream-if (entry.0 == exchange) entry.1 (entry_at entries exchange) (chosen-stream entry.1.choice (All-head (IsEntry tags) entry entries are).choice)
    (streams-all tags entries (All-tail (IsEntry tags) entry entries are) exchange)

given : (scenario : Scenario) → IsScenario scenario → AreAsGiven (length (start_of scenario).tags) scenario.entries
given scenario is = record {
  few = omega (arith, length-map (tags_of scenario.groups) scenario_tag, scenario-few scenario is);
  rises = is.rising;
  events = λ exchange. (scenario-names scenario is exchange).events;
  missed = λ exchange. (scenario-names scenario is exchange).missed;
  streams = streams-all (length (tags_of scenario.groups)) scenario.entries is.entries;
}

-- ... for tags that are those of the scenario
pub given-tags : {A : Type 0} (value : A → TagValue) (tags : List A) (scenario : Scenario) → IsScenario scenario → map value tags ≡ (start_of scenario).tags
    → AreAsGiven (length tags) scenario.entries
given-tags value tags scenario is same =
    subst (λ n. AreAsGiven n scenario.entries) (sym (ap (λ (l : List TagValue). length l) same) ∙ length-map tags value) (given scenario is)

-- what the law of own traces says
abbrev pub AreAudited : Type 0
AreAudited = (scenario : Scenario) → IsScenario scenario → HasNoEventStep scenario.steps → IsAudited (start_of scenario) (report_text_of Trace scenario)

-- the trace of a scenario is audited
pub own_trace : AreAudited → (bytes text : List ℕ) → Reports Trace bytes text → IsOwnTrace bytes text
own_trace law bytes text reports = record {
  reports = reports;
  audited = λ told. subst (λ (t : List ℕ). IsAudited (start_of reports.scenario) t) (sym reports.report) (law reports.scenario reports.legal told);
}
