use Rattle.std.proofs.Common.{ℕ, List, ◌++◌, Option, ◌∙◌, ap, subst, take}
use Rattle.air_io.specs.Flow.{Adds}
use Rattle.report_lines.proofs.Adding.{SinkAt, added-line, added-part, fault-kept}
use Rattle.report_lines.specs.Line.{line_of}
use Rattle.report_lines.specs.TextReport.{IsAdded}
use Rattle.report_lines.specs.declared.mode.PlayFault.{PlayFault}
use Rattle.report_lines.proofs.text_report.TextReport.write.Goals as goal

pub returns-in_err-write_all-clause-text : goal.returns-in_err-write_all-clause-text
returns-in_err-write_all-clause-text g c = λ text first before added.
    let line : List ℕ = g.S.Spelling.text_of c.args.self.now.spelling.now (line_of c.args.line.now) in
    let part = c.in_err-write_all.ensures.part in
    let cause = c.from_residual-in_err-write_all in
    let spelled = c.as_bytes.ensures.value ∙ c.in_ok-spell.ensures.text ∙ ap (λ (bytes : List ℕ). bytes ++ line) c.clear.ensures.bytes in
    let old : SinkAt = record { given = g.O.Sink.written c.args.self.now.out.now; faults = g.O.Sink.faults c.args.self.now.out.now } in
    let new : SinkAt = record { given = g.O.Sink.written c.write_all.new.out; faults = g.O.Sink.faults c.write_all.new.out } in
    fault-kept cause.result _ (λ (fault : Option PlayFault). IsAdded (text ++ line) first new.given before new.faults fault) cause.ensures.1
    (added-part text line (record { given = first; faults = before }) old new part.0 added
    (subst (λ (bytes : List ℕ). Adds old.given new.given (take part.0 bytes)) spelled part.2) c.in_err-write_all.ensures.failed)

pub returns-clause-text : goal.returns-clause-text
returns-clause-text g c = λ text first before added.
    let line : List ℕ = g.S.Spelling.text_of c.args.self.now.spelling.now (line_of c.args.line.now) in
    let spelled = c.as_bytes.ensures.value ∙ c.in_ok-spell.ensures.text ∙ ap (λ (bytes : List ℕ). bytes ++ line) c.clear.ensures.bytes in
    let old : SinkAt = record { given = g.O.Sink.written c.args.self.now.out.now; faults = g.O.Sink.faults c.args.self.now.out.now } in
    let new : SinkAt = record { given = g.O.Sink.written c.write_all.new.out; faults = g.O.Sink.faults c.write_all.new.out } in
    added-line text line (record { given = first; faults = before }) old new added
    (subst (λ (bytes : List ℕ). Adds old.given new.given bytes) spelled c.in_ok-write_all.ensures.ok) c.in_ok-write_all.ensures.steady
