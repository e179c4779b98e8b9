use Rattle.air_world.proofs.Names.{ap, refl, sym, ◌∙◌, arith, next_record, expectation_of}
use Rattle.air_world.proofs.Passing.{ends-checked}
use Rattle.air_world.proofs.Slots.{others-unlisted, stands-unlisted}
use Rattle.air_world.proofs.run.Run.send_alone.Goals as goal

pub send-requires : goal.send-requires
send-requires g c = let r = c.requires.between in record { begun = r.begun; past = r.past; stands = r.stands; room = omega (arith, r.room) }

pub returns : goal.returns
returns g c = λ begun past stands.
    let alone = others-unlisted (next_record begun.start 0 0 c.args.command.now past) (λ rn is. let other = sym (ap expectation_of is) ∙ c.requires.unanswered in cc) in
    ends-checked g.R.Listener.failed c.check.result (stands-unlisted (c.send.ensures begun past 0 0 stands) alone refl) c.check.ensures.cause
