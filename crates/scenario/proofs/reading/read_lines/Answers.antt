-- Line by line, up to what stands behind the last line feed.
use Rattle.std.proofs.Common.{◌≡◌, [], arith}
use Rattle.std.proofs.lemmas.Result.{IfErr-weaker, IfOk-weaker}
use Rattle.text_fields.specs.Lines.{lines_of}
use Rattle.checked_lines.specs.laws.ReadingOn.{NextLine}
use Rattle.scenario.specs.Faults.{IsRefused}
use Rattle.scenario.specs.ReaderAnswers.{IsUnfinished, SaysScenario, StandsFor, standing_of}
use Rattle.scenario.proofs.Reader.{all_said, end_refused, line_refused, read_more, read_none}
use Rattle.checked_lines.specs.laws.HandedOn.{fault_handed_on}
use Rattle.scenario.proofs.reading.read_lines.Goals as goal

pub loop-line-init : goal.loop-line-init
loop-line-init c = read_none c.args.text.now

pub returns-in_err-take-clause-refused : goal.returns-in_err-take-clause-refused
returns-in_err-take-clause-refused c =
    let next : NextLine (lines_of c.loop-line.rest.now) = record { line = c.in-Some.line.now; rest = c.in-Some.behind.now; cut = c.in-Some.ensures.lines } in
    let fault = c.in_err-take.field-0.0 in
    fault_handed_on c.from_residual.result fault (IsRefused c.args.text.now) c.from_residual.ensures.1
    (line_refused c.args.text.now c.loop-line.rest.now (standing_of c.loop-line.progress) c.loop-line.number next fault c.loop-line.invariant
    c.in_err-take.ensures.refused)

pub overflow_add-number : goal.overflow_add-number
overflow_add-number c = let few = c.loop-line.invariant.few in omega arith

pub loop-line-preserved : goal.loop-line-preserved
loop-line-preserved c =
    let next : NextLine (lines_of c.loop-line.rest.now) = record { line = c.in-Some.line.now; rest = c.in-Some.behind.now; cut = c.in-Some.ensures.lines } in
    read_more c.args.text.now c.loop-line.rest.now (standing_of c.loop-line.progress) (standing_of c.take.new.self) c.loop-line.number next c.loop-line.invariant
    c.in_ok-take.ensures.taken

pub returns-clause-ok : goal.returns-clause-ok
returns-clause-ok c =
    let rest = c.loop-line.rest.now in
    let standing = standing_of c.loop-line.progress in
    IfOk-weaker c.finish.result (λ scenario. (rest ≡ []) × StandsFor standing scenario) (SaysScenario c.args.text.now)
    (λ scenario ends. all_said c.args.text.now rest standing c.loop-line.number scenario c.loop-line.invariant ends) c.finish.ensures.ok

pub returns-clause-refused : goal.returns-clause-refused
returns-clause-refused c =
    let rest = c.loop-line.rest.now in
    let standing = standing_of c.loop-line.progress in
    IfErr-weaker c.finish.result (IsUnfinished standing rest c.loop-line.number) (IsRefused c.args.text.now)
    (λ fault unfinished. end_refused c.args.text.now rest standing c.loop-line.number fault c.loop-line.invariant c.in_default.ensures.whole unfinished)
    c.finish.ensures.refused
