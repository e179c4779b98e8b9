use Rattle.air_world.proofs.Names.{ap, past_behind_step, Step}
use Rattle.air_world.proofs.Passing.{ends-cut}
use Rattle.air_world.proofs.Slots.{stands-same}
use Rattle.air_world.proofs.Steps.{stands-befell}
use Rattle.air_world.proofs.run.Run.play_step.Goals as goal

pub send_alone-requires-clause-between : goal.send_alone-requires-clause-between
send_alone-requires-clause-between g c = c.requires.between

pub send_alone-requires-in-Nak-clause-between : goal.send_alone-requires-in-Nak-clause-between
send_alone-requires-in-Nak-clause-between g c = c.requires.between

pub play_round-requires-clause-between : goal.play_round-requires-clause-between
play_round-requires-clause-between g c = c.requires.between

pub returns-in-Select : goal.returns-in-Select
returns-in-Select g c = λ begun past stands. rw c.in-Select.is (c.send_alone.ensures begun past stands)

pub returns-in-Nak : goal.returns-in-Nak
returns-in-Nak g c = λ begun past stands. rw c.in-Nak.is (c.send_alone-in-Nak.ensures begun past stands)

pub returns-in-Event : goal.returns-in-Event
returns-in-Event g c = λ begun past stands.
    stands-same (ap (λ (step : Step). past_behind_step begun.start step past) c.in-Event.is)
    (stands-befell c.in-Event.event c.in-Event.tag c.event.new.self stands c.event.ensures.air c.event.ensures.legal)

pub returns-in_err-play_round-in-Round : goal.returns-in_err-play_round-in-Round
returns-in_err-play_round-in-Round g c = λ begun past stands.
    rw c.in-Round.is (ends-cut c.from_residual.result _ _ _ c.from_residual.ensures.1 (c.in_err-play_round-in-Round.ensures.ends begun past stands))

pub returns-in_ok-play_round-in-Round : goal.returns-in_ok-play_round-in-Round
returns-in_ok-play_round-in-Round g c = λ begun past stands. rw c.in-Round.is (c.in_ok-play_round-in-Round.ensures.ends begun past stands)
