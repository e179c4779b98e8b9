use Rattle.std.proofs.Common.{inl, refl}
use Rattle.log_judge.specs.Answers.{seen_in}
use Rattle.text_fields.specs.Lines.{fields_of}
use Rattle.bench_lines.specs.SeenLine.{BeginsAsAnswer}
use Rattle.bench_lines.proofs.LogLaws.{answer_known}
use Rattle.bench_lines.proofs.log_reading.read_seen.Goals as goal

pub returns-in_default-clause-refused : goal.returns-in_default-clause-refused
returns-in_default-clause-refused c = c.missed_answer.ensures c.args.count

pub returns-in-Err-Word-clause-refused : goal.returns-in-Err-Word-clause-refused
returns-in-Err-Word-clause-refused c =
    inl (record {
      begins = record { others = c.in-Some.others; first = c.in-Some.ensures.some };
      faulty = rw c.in-Err-Word.field-0-is at c.in-Err-Word.ensures.refused;
    })

pub returns-else-is_full-clause-refused : goal.returns-else-is_full-clause-refused
returns-else-is_full-clause-refused c = (
  c.is_full.ensures.no c.if-is_full.false,
  record {
    begins = record { others = c.in-Some.others; first = c.in-Some.ensures.some };
    faulty = rw c.in-Err-Shape.field-0-is at c.in-Err-Shape.ensures.refused;
  },
)

pub returns-else-is_full-2-clause-refused : goal.returns-else-is_full-2-clause-refused
returns-else-is_full-2-clause-refused c = (
  c.is_full-in-Err-Number.ensures.no c.if-is_full-2.false,
  record {
    begins = record { others = c.in-Some.others; first = c.in-Some.ensures.some };
    faulty = rw c.in-Err-Number.field-0-is at c.in-Err-Number.ensures.refused;
  },
)

pub returns-then-is_full-3-clause-refused : goal.returns-then-is_full-3-clause-refused
returns-then-is_full-3-clause-refused c =
    let begins : BeginsAsAnswer (fields_of c.args.line.now) = record { others = c.in-Some.others; first = c.in-Some.ensures.some } in (
      answer_known c.seen_laws.ensures (fields_of c.args.line.now) begins (seen_in c.read_answer_to.new.answer) (c.in-Ok.ensures.ok refl),
      begins,
      c.is_full-in-Ok.ensures.yes c.if-is_full-3.true,
    )

pub returns-else-is_full-3-clause-ok : goal.returns-else-is_full-3-clause-ok
returns-else-is_full-3-clause-ok c = λ ok. (
  record { others = c.in-Some.others; first = c.in-Some.ensures.some },
  c.in-Ok.ensures.ok refl,
  c.is_full-in-Ok.ensures.no c.if-is_full-3.false,
)
