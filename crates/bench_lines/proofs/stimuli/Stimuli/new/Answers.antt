-- Each line behind that of the tag is read.
use Rattle.std.proofs.Common.{◌≢◌, [], ◌∙◌, ap, length, refl, sym}
use Rattle.std.proofs.lemmas.Bool.{eqb-false, eqb-true}
use Rattle.std.proofs.lemmas.List.{nil_from_length}
use Rattle.bench_lines.specs.Stimuli.{stimulus_with}
use Rattle.bench_lines.proofs.Checking.{line_extra, line_faulty, line_last, line_wanted, none_said, one_said}
use Rattle.bench_lines.proofs.stimuli.Stimuli.new.Goals as goal

pub loop-line-init : goal.loop-line-init
loop-line-init c = none_said c.args.text.now

pub returns-in_default-clause-refused : goal.returns-in_default-clause-refused
returns-in_default-clause-refused c =
    rw c.fault_behind.ensures (line_wanted c.args.text.now c.loop-line.rest.now c.loop-line.count c.loop-line.invariant c.in_default.ensures.whole)

pub loop-line-preserved : goal.loop-line-preserved
loop-line-preserved c =
    let says = rw c.in-Ok-Stimulus.field-0-is at c.in-Ok-Stimulus.ensures.ok in
    one_said c.args.text.now c.loop-line.rest.now c.loop-line.count (record { line = c.in-Some.line.now; rest = c.in-Some.behind.now; cut = c.in-Some.ensures.lines })
    (stimulus_with c.in-Ok-Stimulus.field-0-0 c.read_behind.new.command) c.loop-line.invariant says.0 says.1

pub invariant_of-result : goal.invariant_of-result
invariant_of-result c =
    let says = rw c.in-Ok-End.field-0-is at c.in-Ok-End.ensures.ok in
    let whole = line_last c.args.text.now c.loop-line.rest.now c.loop-line.count
    (record { line = c.in-Some.line.now; rest = c.in-Some.behind.now; cut = c.in-Some.ensures.lines }) c.loop-line.invariant says.0
    (nil_from_length c.in-Some.behind.now (eqb-true (length c.in-Some.behind.now) 0 (sym c.is_empty.ensures ∙ c.if-is_empty.true))) in
    (whole.said, whole.are)

pub returns-then-is_empty-clause-ok : goal.returns-then-is_empty-clause-ok
returns-then-is_empty-clause-ok c =
    let says = rw c.in-Ok-End.field-0-is at c.in-Ok-End.ensures.ok in (
      refl,
      line_last c.args.text.now c.loop-line.rest.now c.loop-line.count
          (record { line = c.in-Some.line.now; rest = c.in-Some.behind.now; cut = c.in-Some.ensures.lines }) c.loop-line.invariant says.0
          (nil_from_length c.in-Some.behind.now (eqb-true (length c.in-Some.behind.now) 0 (sym c.is_empty.ensures ∙ c.if-is_empty.true))),
    )

pub returns-else-is_empty-clause-refused : goal.returns-else-is_empty-clause-refused
returns-else-is_empty-clause-refused c =
    let says = rw c.in-Ok-End.field-0-is at c.in-Ok-End.ensures.ok in
    let some : c.in-Some.behind.now ≢ [] = λ none.
    eqb-false (length c.in-Some.behind.now) 0 (sym c.is_empty.ensures ∙ c.if-is_empty.false) (ap length none) in
    rw c.fault_behind-else-is_empty.ensures
    (line_extra c.args.text.now c.loop-line.rest.now c.loop-line.count
    (record { line = c.in-Some.line.now; rest = c.in-Some.behind.now; cut = c.in-Some.ensures.lines }) c.loop-line.invariant says.0 some)

pub returns-in-Err-clause-refused : goal.returns-in-Err-clause-refused
returns-in-Err-clause-refused c =
    rw c.fault_behind-in-Err.ensures
    (line_faulty c.args.text.now c.loop-line.rest.now c.loop-line.count
    (record { line = c.in-Some.line.now; rest = c.in-Some.behind.now; cut = c.in-Some.ensures.lines }) c.in-Err.fault c.loop-line.invariant c.in-Err.ensures.refused)
