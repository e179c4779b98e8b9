-- The sink hands on what it holds back of the text, or fails to.
use Rattle.std.proofs.Common.{inl, inr, rules}
use Rattle.top_call.specs.Jobs.{job_of}
use Rattle.top_call.specs.declared.status.Status.TheVariants.{Done, BadInput}
use Rattle.top_call.proofs.Ends.{flushed}
use Rattle.top_call.proofs.program.answer.Goals as goal

pub returns-in-Done : goal.returns-in-Done
returns-in-Done g c =
    let job = job_of c.args.form in
    let told = rw c.in-Done.is at c.write_answer.ensures.tells in
    record {
      tells =
          flushed job job.writes Done (λ bytes text named. inl named) _ _ (g.O.Sink.written c.write_answer.new.output) _ _ (g.O.Sink.faults c.write_answer.new.output) _ _ _
          (λ tells. tells) told c.behind_text.ensures.written c.behind_text.ensures.status;
      reads_none = search rules;
      names_memory = search rules;
    }

pub returns-in-BadInput : goal.returns-in-BadInput
returns-in-BadInput g c =
    let job = job_of c.args.form in
    let told = rw c.in-BadInput.is at c.write_answer.ensures.tells in
    record {
      tells =
          flushed job job.refuses BadInput (λ bytes text named. inr named) _ _ (g.O.Sink.written c.write_answer.new.output) _ _ (g.O.Sink.faults c.write_answer.new.output) _ _ _
          (λ tells. tells) told c.behind_text-in-BadInput.ensures.written c.behind_text-in-BadInput.ensures.status;
      reads_none = search rules;
      names_memory = search rules;
    }
