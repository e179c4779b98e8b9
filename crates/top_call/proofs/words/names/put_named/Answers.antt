-- A line becomes itself, with its name behind it where it has one.
use Rattle.std.proofs.Common.{◌∙◌}
use Rattle.std.proofs.lemmas.Result.{on_ok_weaker, on_err_weaker}
use Rattle.top_call.proofs.NamedLines.{named_becomes, plain_becomes, becomes_sent, becomes_lost}
use Rattle.top_call.proofs.words.names.put_named.Goals as goal

pub returns-in-Some-clause-sent : goal.returns-in-Some-clause-sent
returns-in-Some-clause-sent g c =
    on_ok_weaker c.put_both.result
    (λ sends. becomes_sent c.args.line.now _ _ _ _ _
    (named_becomes c.args.line.now _ c.in-Some.sgtin c.in-Some.ensures.some (c.as_slice.ensures.value ∙ c.text_behind-name.ensures)) sends)
    c.put_both.ensures.sent

pub returns-in-Some-clause-lost : goal.returns-in-Some-clause-lost
returns-in-Some-clause-lost g c =
    on_err_weaker c.put_both.result
    (λ loses. becomes_lost c.args.line.now _ _ _ _
    (named_becomes c.args.line.now _ c.in-Some.sgtin c.in-Some.ensures.some (c.as_slice.ensures.value ∙ c.text_behind-name.ensures)) loses)
    c.put_both.ensures.lost

pub returns-in-None-clause-sent : goal.returns-in-None-clause-sent
returns-in-None-clause-sent g c =
    on_ok_weaker c.put_both-in-None.result (λ sends. becomes_sent c.args.line.now _ _ _ _ _ (plain_becomes c.args.line.now c.in-None.ensures.none) sends) c.put_both-in-None.ensures.sent

pub returns-in-None-clause-lost : goal.returns-in-None-clause-lost
returns-in-None-clause-lost g c =
    on_err_weaker c.put_both-in-None.result (λ loses. becomes_lost c.args.line.now _ _ _ _ (plain_becomes c.args.line.now c.in-None.ensures.none) loses) c.put_both-in-None.ensures.lost
