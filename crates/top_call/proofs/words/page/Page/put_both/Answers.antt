-- The first piece waits or is written, and then the second.
use Rattle.std.proofs.Common.{sym, append_assoc}
use Rattle.std.proofs.lemmas.Result.{on_ok_weaker, on_err_weaker}
use Rattle.top_call.proofs.Waits.{loses_more, sends_more, loses_later, on_failure}
use Rattle.top_call.proofs.words.page.Page.put_both.Goals as goal

pub returns-in_err-put-clause-lost : goal.returns-in_err-put-clause-lost
returns-in_err-put-clause-lost g c =
    rw (sym (append_assoc c.args.self.now c.args.first.now c.args.second.now)) (on_failure c.from_residual.result (loses_more _ c.args.second.now _ _ c.in_err-put.ensures.lost))

pub returns-clause-sent : goal.returns-clause-sent
returns-clause-sent g c =
    rw (sym (append_assoc c.args.self.now c.args.first.now c.args.second.now))
    (on_ok_weaker c.put-2.result (λ sent. sends_more _ _ c.args.second.now _ _ _ _ c.in_ok-put.ensures.sent sent) c.put-2.ensures.sent)

pub returns-clause-lost : goal.returns-clause-lost
returns-clause-lost g c =
    rw (sym (append_assoc c.args.self.now c.args.first.now c.args.second.now))
    (on_err_weaker c.put-2.result (λ lost. loses_later _ _ c.args.second.now _ _ _ c.in_ok-put.ensures.sent lost) c.put-2.ensures.lost)
