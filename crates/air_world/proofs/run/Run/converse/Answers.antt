use Rattle.air_world.proofs.Names.{ap, refl, sym, ◌∙◌, subst, reception_in, Expects, next_record, silent_awaited, Command}
use Rattle.air_world.proofs.Slots.{others-unlisted, received-answer, stands-unlisted}
use Rattle.air_world.proofs.run.Run.converse.Goals as goal

pub send-requires : goal.send-requires
send-requires g c = c.requires.underway

pub returns-in-Silence-clause-stands : goal.returns-in-Silence-clause-stands
returns-in-Silence-clause-stands g c = λ begun past round slot stands.
    stands-unlisted (c.send.ensures begun past round slot stands)
    (others-unlisted (next_record begun.start round slot c.args.command.now past)
    (λ rn is. subst (λ (command : Command). Expects command c.args.expect.now c.args.extended) is c.requires.expects)) refl

pub returns-in-Silence-clause-heard : goal.returns-in-Silence-clause-heard
returns-in-Silence-clause-heard g c = λ begun past round slot stands.
    let link = begun.start.link in
    sym (silent_awaited link link.trext c.args.extended c.args.expect.now (next_record begun.start round slot c.args.command.now past).given
    (sym (c.send.ensures begun past round slot stands).behind.got_is ∙ c.in-Silence.is))

pub returns-in_default-clause-stands : goal.returns-in_default-clause-stands
returns-in_default-clause-stands g c = λ begun past round slot stands.
    stands-unlisted (c.send.ensures begun past round slot stands)
    (others-unlisted (next_record begun.start round slot c.args.command.now past)
    (λ rn is. subst (λ (command : Command). Expects command c.args.expect.now c.args.extended) is c.requires.expects)) c.self.view_is

pub returns-in_default-clause-expected : goal.returns-in_default-clause-expected
returns-in_default-clause-expected g c = let heard = c.hear.ensures.received in rw (heard.1) (received-answer _ _ c.args.expect.now _ heard.0 heard.2)

pub returns-in_default-clause-heard : goal.returns-in_default-clause-heard
returns-in_default-clause-heard g c = λ begun past round slot stands.
    let heard = c.hear.ensures.received in
    ap reception_in heard.1
    ∙ (c.send.ensures begun past round slot stands).received.operations c.args.expect.now c.args.extended heard.0 c.requires.expects c.in_default.not-Silence heard.2
