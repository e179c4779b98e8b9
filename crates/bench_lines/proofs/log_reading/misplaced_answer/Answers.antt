use Rattle.std.proofs.Common.{inl, inr, refl}
use Rattle.log_judge.specs.Answers.{seen_in}
use Rattle.text_fields.specs.Lines.{fields_of}
use Rattle.bench_lines.specs.SeenLine.{BeginsAsAnswer}
use Rattle.bench_lines.proofs.LogLaws.{answer_known, no_unknown_answer}
use Rattle.bench_lines.proofs.log_reading.misplaced_answer.Goals as goal

pub returns-in-Err-Word-clause-some : goal.returns-in-Err-Word-clause-some
returns-in-Err-Word-clause-some c = λ count.
    let begins : BeginsAsAnswer (fields_of c.args.line.now) = record { others = c.in_ok-others.others; first = c.in_ok-others.ensures.some } in
    inl (record { begins = begins; faulty = rw c.in-Err-Word.field-0-is at c.in-Err-Word.ensures.refused })

pub returns-in-Err-Shape-clause-some : goal.returns-in-Err-Shape-clause-some
returns-in-Err-Shape-clause-some c = λ count.
    let begins : BeginsAsAnswer (fields_of c.args.line.now) = record { others = c.in_ok-others.others; first = c.in_ok-others.ensures.some } in
    let faulty = rw c.in-Err-Shape.field-0-is at c.in-Err-Shape.ensures.refused in
    (λ unknown. no_unknown_answer c.seen_laws.ensures (fields_of c.args.line.now) unknown (inl (record { begins = begins; faulty = faulty })), begins)

pub returns-in-Err-Number-clause-some : goal.returns-in-Err-Number-clause-some
returns-in-Err-Number-clause-some c = λ count.
    let begins : BeginsAsAnswer (fields_of c.args.line.now) = record { others = c.in_ok-others.others; first = c.in_ok-others.ensures.some } in
    let faulty = rw c.in-Err-Number.field-0-is at c.in-Err-Number.ensures.refused in
    (λ unknown. no_unknown_answer c.seen_laws.ensures (fields_of c.args.line.now) unknown (inr (record { begins = begins; faulty = faulty })), begins)

pub returns-in-Ok-clause-some : goal.returns-in-Ok-clause-some
returns-in-Ok-clause-some c = λ count.
    let begins : BeginsAsAnswer (fields_of c.args.line.now) = record { others = c.in_ok-others.others; first = c.in_ok-others.ensures.some } in
    (answer_known c.seen_laws.ensures (fields_of c.args.line.now) begins (seen_in c.read_answer_to.new.answer) (c.in-Ok.ensures.ok refl), begins)
