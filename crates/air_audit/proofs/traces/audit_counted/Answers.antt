use Rattle.air_audit.proofs.Names.{◌≡◌, ◌∙◌, length, map, sym, subst, AreAsGiven, IsAuditVerdict, ListsWhatIsReceived, Verdict, Yes, Start, length-map, IfOk-weaker, AreLegalTags}
use Rattle.tag_machine.specs.Hearing.{tag_value_of}
use Rattle.air_audit.proofs.Walks.{begun-stands}
use Rattle.air_audit.proofs.traces.audit_counted.Goals as goal

pub walk-requires-clause-underway : goal.walk-requires-clause-underway
walk-requires-clause-underway g c =
    let start : Start = record { link = c.args.link; tags = map tag_value_of c.args.tags.items; entries = c.args.entries; several = c.args.several } in
    let given : AreAsGiven (length start.tags) start.entries =
    subst (λ count. AreAsGiven count start.entries) (c.args.tags.ok.0 ∙ sym (length-map c.args.tags.items tag_value_of)) c.requires.given in (
      start,
      begun-stands start c.in_ok-auditor.auditor c.in_ok-population.population c.new-cursor.result c.in_ok-auditor.ensures c.in_ok-population.ensures
          (c.new-cursor.ensures.all ∙ c.as_slice.ensures.value) given c.len.ensures.legal,
    )

pub returns : goal.returns
returns g c =
    let start : Start = record { link = c.args.link; tags = map tag_value_of c.args.tags.items; entries = c.args.entries; several = c.args.several } in
    let given : AreAsGiven (length start.tags) start.entries =
    subst (λ count. AreAsGiven count start.entries) (c.args.tags.ok.0 ∙ sym (length-map c.args.tags.items tag_value_of)) c.requires.given in
    let exact = c.walk.ensures start
    (begun-stands start c.in_ok-auditor.auditor c.in_ok-population.population c.new-cursor.result c.in_ok-auditor.ensures c.in_ok-population.ensures
    (c.new-cursor.ensures.all ∙ c.as_slice.ensures.value) given c.len.ensures.legal) in
    let legal : AreLegalTags start.tags = subst AreLegalTags c.in_ok-population.ensures c.len.ensures.legal in
    record {
      exact = exact;
      listed = IfOk-weaker c.walk.result (IsAuditVerdict start c.args.trace.now) (λ (verdict : Verdict). verdict ≡ Yes → ListsWhatIsReceived start.link c.args.trace.now)
          (λ verdict is yes. c.list_lines_are_received.ensures start c.args.trace.now legal (subst (IsAuditVerdict start c.args.trace.now) yes is)) exact;
    }
