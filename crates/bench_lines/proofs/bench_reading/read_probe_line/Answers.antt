use Rattle.text_fields.specs.Lines.{fields_of}
use Rattle.bench_lines.specs.declared.probe_line.LineWord.TheVariants as words
use Rattle.bench_lines.proofs.FaultyLines.{faulty_behind}
use Rattle.bench_lines.proofs.bench_reading.read_probe_line.Goals as goal

pub returns-in_err-read_bits-in-Some-Bits-default-clause-refused : goal.returns-in_err-read_bits-in-Some-Bits-default-clause-refused
returns-in_err-read_bits-in-Some-Bits-default-clause-refused c =
    let here = c.in-Some-Bits-default in
    let err = c.in_err-read_bits-in-Some-Bits-default in
    faulty_behind c.from_residual.result err.field-0.0 (fields_of c.args.line.now) here.others words.Bits c.from_residual.ensures.1
    (rw here.field-0-0-is at here.ensures.some) err.ensures.refused

pub returns-in_err-read_event-in-Some-Event-default-clause-refused : goal.returns-in_err-read_event-in-Some-Event-default-clause-refused
returns-in_err-read_event-in-Some-Event-default-clause-refused c =
    let here = c.in-Some-Event-default in
    let err = c.in_err-read_event-in-Some-Event-default in
    let cause = c.from_residual-in_err-read_event-in-Some-Event-default in
    faulty_behind cause.result err.field-0.0 (fields_of c.args.line.now) here.others words.Event cause.ensures.1
    (rw here.field-0-0-is at here.ensures.some) err.ensures.refused

pub returns-in_err-read_end-in-Some-End-default-clause-refused : goal.returns-in_err-read_end-in-Some-End-default-clause-refused
returns-in_err-read_end-in-Some-End-default-clause-refused c =
    let here = c.in-Some-End-default in
    let err = c.in_err-read_end-in-Some-End-default in
    let cause = c.from_residual-in_err-read_end-in-Some-End-default in
    faulty_behind cause.result err.field-0.0 (fields_of c.args.line.now) here.others words.End cause.ensures.1
    (rw here.field-0-0-is at here.ensures.some) err.ensures.refused
