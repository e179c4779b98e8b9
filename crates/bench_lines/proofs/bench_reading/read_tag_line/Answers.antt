-- What the fields behind `tag` are refused for is a fault of the line.
use Rattle.std.proofs.lemmas.Result.{IfErr-weaker}
use Rattle.scenario_lines.specs.Reading.{MisreadsTag}
use Rattle.text_fields.specs.Lines.{fields_of}
use Rattle.bench_lines.specs.ProbeText.{IsFaultyTagLine}
use Rattle.bench_lines.proofs.TagLines.{line_faulty}
use Rattle.bench_lines.proofs.bench_reading.read_tag_line.Goals as goal

pub returns-clause-refused : goal.returns-clause-refused
returns-clause-refused c =
    let fields = fields_of c.args.line.now in
    IfErr-weaker c.read_tag.result (MisreadsTag c.in-Some.others) (IsFaultyTagLine fields)
    (line_faulty fields (record { others = c.in-Some.others; first = c.in-Some.ensures.some })) c.read_tag.ensures.refused
