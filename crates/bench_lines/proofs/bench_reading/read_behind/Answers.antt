use Rattle.std.proofs.Common.{arith}
use Rattle.text_fields.specs.Lines.{fields_of}
use Rattle.bench_lines.specs.Stimuli.{stimulus_with}
use Rattle.bench_lines.proofs.FaultyLines.{one_too_many}
use Rattle.bench_lines.proofs.bench_reading.read_behind.Goals as goal

pub returns-then-count-ge-MOST_STIMULI-clause-refused : goal.returns-then-count-ge-MOST_STIMULI-clause-refused
returns-then-count-ge-MOST_STIMULI-clause-refused c =
    let here = c.in-Ok-Stimulus in
    one_too_many c.line_laws.ensures.lines c.args.count (fields_of c.args.line.now) (stimulus_with here.stimulus c.read_probe_line.new.command) (rw here.field-0-is at here.ensures.ok) (omega (arith, c.if-count-ge-MOST_STIMULI.true))
