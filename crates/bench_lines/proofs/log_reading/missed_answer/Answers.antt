use Rattle.std.proofs.Common.{inl, inr}
use Rattle.bench_lines.specs.Stimuli.{probe_line_with}
use Rattle.text_fields.specs.Lines.{fields_of}
use Rattle.bench_lines.proofs.LogLaws.{no_unknown_other, other_known}
use Rattle.bench_lines.proofs.log_reading.missed_answer.Goals as goal

pub returns-in-Err-Shape : goal.returns-in-Err-Shape
returns-in-Err-Shape c = λ count.
    let faulty = rw c.in-Err-Shape.field-0-is at c.in-Err-Shape.ensures.refused in (
      λ unknown. no_unknown_other c.line_laws.ensures.lines (fields_of c.args.line.now) unknown (inl (record { other = c.requires; faulty = faulty })),
      c.requires,
    )

pub returns-in-Err-Number : goal.returns-in-Err-Number
returns-in-Err-Number c = λ count.
    let faulty = rw c.in-Err-Number.field-0-is at c.in-Err-Number.ensures.refused in (
      λ unknown. no_unknown_other c.line_laws.ensures.lines (fields_of c.args.line.now) unknown (inr (record { other = c.requires; faulty = faulty })),
      c.requires,
    )

pub returns-in-Ok : goal.returns-in-Ok
returns-in-Ok c = λ count. (
  other_known c.line_laws.ensures.lines (fields_of c.args.line.now) (probe_line_with c.in-Ok.field-0 c.read_probe_line.new.command) c.requires c.in-Ok.ensures.ok,
  c.requires,
)
