use Rattle.std.proofs.Common.{inl, inr}
use Rattle.gen2_library.proofs.Over.{whole, front, too-long, fits, none-rose, completes, refuses, wrote-whole}
use Rattle.top_call.specs.Jobs.{job_of}
use Rattle.top_call.specs.words.Generate.{CountsEveryTag, gen_job}
use Rattle.top_call.specs.words.Run.{SaysHeadline, SaysInventory, run_job}
use Rattle.gen2_library.proofs.call.run_over.Goals as goal

pub returns-clause-done : goal.returns-clause-done
returns-clause-done c form asks done =
    whole (job_of form) (job_of form).writes _ _ _ _ _ (record { told_is = c.new-source.ensures; unwritten = c.requires }) (c.gen2run.ensures.done form asks done)

pub returns-clause-promises : goal.returns-clause-promises
returns-clause-promises c form asks done =
    whole (job_of form) (job_of form).promises _ _ _ _ _ (record { told_is = c.new-source.ensures; unwritten = c.requires }) (c.gen2run.ensures.promises form asks done)

pub returns-clause-headline : goal.returns-clause-headline
returns-clause-headline c mode asks done =
    whole (run_job mode) (SaysHeadline mode) _ _ _ _ _ (record { told_is = c.new-source.ensures; unwritten = c.requires }) (c.gen2run.ensures.headline mode asks done)

pub returns-clause-inventory : goal.returns-clause-inventory
returns-clause-inventory c = (
  λ mode asks done. whole (run_job mode) (SaysInventory mode) _ _ _ _ _ (record { told_is = c.new-source.ensures; unwritten = c.requires }) (c.gen2run.ensures.inventory.0 mode asks done),
  λ seed tags asks done. whole (gen_job seed tags) (λ bytes text. CountsEveryTag seed tags text) _ _ _ _ _ (record { told_is = c.new-source.ensures; unwritten = c.requires })
      (c.gen2run.ensures.inventory.1 seed tags asks done),
)

pub returns-clause-bad_input : goal.returns-clause-bad_input
returns-clause-bad_input c form asks bad =
    whole (job_of form) (job_of form).refuses _ _ _ _ _ (record { told_is = c.new-source.ensures; unwritten = c.requires }) (c.gen2run.ensures.bad_input form asks bad)

pub returns-clause-too_long : goal.returns-clause-too_long
returns-clause-too_long c many =
    let says = c.gen2run.ensures.too_long many in
    (too-long _ _ _ c.new-source.ensures says.0, let same = says.1 in let empty = c.requires in cc)

pub returns-clause-write_fault : goal.returns-clause-write_fault
returns-clause-write_fault c form asks fault =
    front (job_of form) _ _ _ _ _ (record { told_is = c.new-source.ensures; unwritten = c.requires }) (c.gen2run.ensures.write_fault form asks fault).1

pub returns-clause-no_read_fault : goal.returns-clause-no_read_fault
returns-clause-no_read_fault c failed = none-rose (c.gen2run.ensures.read_fault failed).0

pub returns-clause-complete : goal.returns-clause-complete
returns-clause-complete c form asks few allowed =
    completes c.gen2run.result
    (λ words. c.gen2run.ensures.bad_words.0 words (form, asks))
    (λ failed. none-rose (c.gen2run.ensures.read_fault failed).0)
    (fits (job_of form).input _ c.gen2run.result few (λ none. (c.gen2run.ensures.unread form asks none).1) (λ many. too-long _ _ _ c.new-source.ensures (c.gen2run.ensures.too_long many).0))
    (λ bad. c.grammatical_inputs_are_not_refused.ensures form _ _ allowed
    (whole (job_of form) (job_of form).refuses _ _ _ _ _ (record { told_is = c.new-source.ensures; unwritten = c.requires }) (c.gen2run.ensures.bad_input form asks bad)))

pub returns-clause-refused : goal.returns-clause-refused
returns-clause-refused c form asks few text refused =
    refuses c.gen2run.result
    (λ words. c.gen2run.ensures.bad_words.0 words (form, asks))
    (λ failed. none-rose (c.gen2run.ensures.read_fault failed).0)
    (fits (job_of form).input _ c.gen2run.result few (λ none. (c.gen2run.ensures.unread form asks none).1) (λ many. too-long _ _ _ c.new-source.ensures (c.gen2run.ensures.too_long many).0))
    (λ done. c.inputs_have_one_text.ensures.apart form _ _ text
    (whole (job_of form) (job_of form).writes _ _ _ _ _ (record { told_is = c.new-source.ensures; unwritten = c.requires }) (c.gen2run.ensures.done form asks done)) refused)

pub returns-clause-whole : goal.returns-clause-whole
returns-clause-whole c form asks few text defined =
    wrote-whole c.gen2run.new.output.written text c.gen2run.result
    (λ words. c.gen2run.ensures.bad_words.0 words (form, asks))
    (λ failed. none-rose (c.gen2run.ensures.read_fault failed).0)
    (fits (job_of form).input _ c.gen2run.result few (λ none. (c.gen2run.ensures.unread form asks none).1) (λ many. too-long _ _ _ c.new-source.ensures (c.gen2run.ensures.too_long many).0))
    (λ done. c.inputs_have_one_text.ensures.one form _ _ text
    (inl (whole (job_of form) (job_of form).writes _ _ _ _ _ (record { told_is = c.new-source.ensures; unwritten = c.requires }) (c.gen2run.ensures.done form asks done))) defined)
    (λ bad. c.inputs_have_one_text.ensures.one form _ _ text
    (inr (whole (job_of form) (job_of form).refuses _ _ _ _ _ (record { told_is = c.new-source.ensures; unwritten = c.requires }) (c.gen2run.ensures.bad_input form asks bad))) defined)

pub returns-clause-unread : goal.returns-clause-unread
returns-clause-unread c form asks none = (c.gen2run.ensures.unread form asks none).1

pub returns-clause-out_of_memory : goal.returns-clause-out_of_memory
returns-clause-out_of_memory c form asks none =
    elim (c.gen2run.ensures.out_of_memory form asks none) [
      | inl kept ↦ inl (let same = kept.1 in let empty = c.requires in cc)
      | inr begun ↦ inr (front (job_of form) _ _ _ _ _ (record { told_is = c.new-source.ensures; unwritten = c.requires }) begun)
    ]
