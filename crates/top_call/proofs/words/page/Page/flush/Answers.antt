-- What a failed write left is a front of the page.
use Rattle.top_call.proofs.Waits.{loses_some, on_failure}
use Rattle.top_call.proofs.words.page.Page.flush.Goals as goal

pub returns-in_err-write_all-clause-lost : goal.returns-in_err-write_all-clause-lost
returns-in_err-write_all-clause-lost g c =
    on_failure c.from_residual.result (loses_some c.args.self.now _ _ (rw (c.as_slice.ensures.value, c.self.view_is) at c.in_err-write_all.ensures.part))
