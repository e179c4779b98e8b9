-- A piece that no page has room for is written behind the page.
use Rattle.std.proofs.lemmas.Result.{on_ok_weaker, on_err_weaker}
use Rattle.top_call.proofs.Waits.{sends_through, loses_some, loses_later}
use Rattle.top_call.proofs.words.page.Page.put.Goals as goal

pub returns-clause-sent : goal.returns-clause-sent
returns-clause-sent g c =
    on_ok_weaker c.write_all.result (λ added. sends_through c.args.self.now c.args.piece.now _ _ _ _ c.in_ok-flush.ensures.sent c.in_ok-flush.ensures.empty added) c.write_all.ensures.ok

pub returns-clause-lost : goal.returns-clause-lost
returns-clause-lost g c =
    on_err_weaker c.write_all.result (λ part. loses_later c.args.self.now _ c.args.piece.now _ _ _ c.in_ok-flush.ensures.sent (loses_some c.args.piece.now _ _ part)) c.write_all.ensures.part
