-- By how the word itself ends.
use Rattle.std.proofs.Common.{◌≡◌, ap, refl, sym, subst}
use Rattle.line_objects.specs.PlainText.{PlainValue}
use Rattle.top_call.specs.words.Objects.{objects_job, plain_job}
use Rattle.top_call.proofs.ObjectEnds.{other_tells, unkept_tells, whole_tells}
use Rattle.top_call.proofs.Ends.{ends_so}
use Rattle.top_call.proofs.words.objects.answer.Goals as goal

pub returns-in-Done : goal.returns-in-Done
returns-in-Done g c =
    let job = plain_job c.args.set in
    rw c.status_of.ensures
    (whole_tells c.args.set job job.writes _ _ _ c.new-plain.result.written c.answer_plain.new.output.written _ _ c.write_objects.result
    (ap (λ (kept : PlainValue). kept.written) c.new-plain.ensures) (rw c.in-Done.is at c.answer_plain.ensures)
    (λ bytes named. c.write_objects.ensures bytes (subst (job.writes bytes) (sym c.as_slice.ensures) named)))

pub returns-in-BadInput : goal.returns-in-BadInput
returns-in-BadInput g c =
    let job = plain_job c.args.set in
    rw c.status_of-in-BadInput.ensures
    (whole_tells c.args.set job job.refuses _ _ _ c.new-plain.result.written c.answer_plain.new.output.written _ _ c.write_text.result
    (ap (λ (kept : PlainValue). kept.written) c.new-plain.ensures) (rw c.in-BadInput.is at c.answer_plain.ensures)
    (λ bytes named. ends_so (objects_job c.args.set) bytes _ _ _ _ c.write_text.ensures (subst (job.refuses bytes) (sym c.as_slice-in-BadInput.ensures) named)))

pub returns-in-WriteFault : goal.returns-in-WriteFault
returns-in-WriteFault g c =
    unkept_tells c.args.set (plain_job c.args.set) _ _ _ (c.answer_plain.new.output ≡ c.new-plain.result) (c.args.output.now ≡ c.args.output.now)
    (rw c.in-WriteFault.is at c.answer_plain.ensures) refl refl

pub returns : goal.returns
returns g c =
    other_tells c.args.set (plain_job c.args.set) _ _ _ (c.answer_plain.new.output ≡ c.new-plain.result) _ c.answer_plain.result c.answer_plain.ensures c.in_default.not-Done
    c.in_default.not-BadInput c.in_default.not-WriteFault refl refl refl
