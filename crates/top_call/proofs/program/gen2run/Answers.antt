use Rattle.std.proofs.Common.{◌≡◌, ap, refl}
use Rattle.report_lines.specs.declared.mode.Mode.TheVariants.{Trace}
use Rattle.top_call.specs.Jobs.{job_of}
use Rattle.top_call.specs.declared.forms.Form.TheVariants.{Run, Gen}
use Rattle.top_call.specs.words.Generate.{CountsEveryTag, gen_job}
use Rattle.top_call.specs.words.Run.{IsOwnTrace, SaysHeadline, SaysInventory, run_job}
use Rattle.top_call.proofs.Ends.{completes, keeps, passes_limit, reads_told, refuses, writes_told}
use Rattle.top_call.proofs.program.gen2run.Goals as goal

pub returns-in-Some-clause-complete : goal.returns-in-Some-clause-complete
returns-in-Some-clause-complete g c form spelled bytes told few allowed no_read no_write =
    let same : c.in-Some.form ≡ form = cc (c.in-Some.ensures.only form spelled) in
    completes (job_of form) (c.jobs_are_lawful.ensures form) (record { told = bytes; left' = _; reads = _; reads' = _; sink = _; untouched = _ })
    c.answer.result (rw (told, same) at c.answer.ensures.tells) few allowed (record { read = no_read; write = no_write })

pub returns-in-Some-clause-promises : goal.returns-in-Some-clause-promises
returns-in-Some-clause-promises g c form spelled done =
    let same : c.in-Some.form ≡ form = cc (c.in-Some.ensures.only form spelled) in
    keeps (job_of form) (job_of form).promises (λ bytes text kept. kept) (c.jobs_are_lawful.ensures form) _ _ _ _ (rw (done, same) at c.answer.ensures.tells).1

pub returns-in-Some-clause-headline : goal.returns-in-Some-clause-headline
returns-in-Some-clause-headline g c mode spelled done =
    let same : c.in-Some.form ≡ Run mode = cc (c.in-Some.ensures.only (Run mode) spelled) in
    keeps (run_job mode) (SaysHeadline mode) (λ bytes text proves. proves.headline) (c.jobs_are_lawful.ensures (Run mode)) _ _ _ _ (rw (done, same) at c.answer.ensures.tells).1

pub returns-in-Some-clause-inventory : goal.returns-in-Some-clause-inventory
returns-in-Some-clause-inventory g c = (
  λ mode spelled done.
      let same : c.in-Some.form ≡ Run mode = cc (c.in-Some.ensures.only (Run mode) spelled) in
      keeps (run_job mode) (SaysInventory mode) (λ bytes text proves. proves.inventory) (c.jobs_are_lawful.ensures (Run mode)) _ _ _ _ (rw (done, same) at c.answer.ensures.tells).1,
  λ seed tags spelled done.
      let same : c.in-Some.form ≡ Gen seed tags = cc (c.in-Some.ensures.only (Gen seed tags) spelled) in
      keeps (gen_job seed tags) (λ bytes text. CountsEveryTag seed tags text) (λ bytes text counts. counts) (c.jobs_are_lawful.ensures (Gen seed tags)) _ _ _ _ (rw (done, same) at c.answer.ensures.tells).1,
)

pub returns-in-Some-clause-own_trace : goal.returns-in-Some-clause-own_trace
returns-in-Some-clause-own_trace g c spelled done =
    let same : c.in-Some.form ≡ Run Trace = cc (c.in-Some.ensures.only (Run Trace) spelled) in
    keeps (run_job Trace) IsOwnTrace (λ bytes text proves. proves.own_trace refl) (c.jobs_are_lawful.ensures (Run Trace)) _ _ _ _ (rw (done, same) at c.answer.ensures.tells).1

pub returns-in-Some-clause-unread : goal.returns-in-Some-clause-unread
returns-in-Some-clause-unread g c form spelled none =
    let same : c.in-Some.form ≡ form = cc (c.in-Some.ensures.only form spelled) in
    c.answer.ensures.reads_none (rw same none)

pub returns-in-Some-clause-refused : goal.returns-in-Some-clause-refused
returns-in-Some-clause-refused g c form spelled bytes told few text refused no_read no_write =
    let same : c.in-Some.form ≡ form = cc (c.in-Some.ensures.only form spelled) in
    refuses (job_of form) (c.jobs_are_lawful.ensures form) (record { told = bytes; left' = _; reads = _; reads' = _; sink = _; untouched = _ })
    text c.answer.result (rw (told, same) at c.answer.ensures.tells) few refused (record { read = no_read; write = no_write })

pub returns-in-Some-clause-passes_limit : goal.returns-in-Some-clause-passes_limit
returns-in-Some-clause-passes_limit g c form spelled has bytes told many no_read =
    let same : c.in-Some.form ≡ form = cc (c.in-Some.ensures.only form spelled) in
    passes_limit (job_of form) has (record { told = bytes; left' = _; reads = _; reads' = _; sink = _; untouched = _ })
    c.answer.result (rw (told, same) at c.answer.ensures.tells) many no_read

pub returns-in-Some-clause-read_told : goal.returns-in-Some-clause-read_told
returns-in-Some-clause-read_told g c other = reads_told (job_of c.in-Some.form) _ _ _ c.answer.result c.answer.ensures.tells other

pub returns-in-Some-clause-write_told : goal.returns-in-Some-clause-write_told
returns-in-Some-clause-write_told g c other = writes_told (job_of c.in-Some.form) _ _ _ c.answer.result c.answer.ensures.tells (λ same. ap g.O.Sink.faults same) other
