use Rattle.air_world.proofs.Names.{◌≡◌, List, refl, sym, ◌∙◌, ap, arith, silent_reception, Item, next_record, past_behind_command, Begun, RunValue, StandsAt, no_stream, outcome_of, slot_reception}
use Rattle.air_world.proofs.Names.{expectation_of}
use Rattle.air_model.specs.declared.got.Got.TheVariants as gots
use Rattle.reply_grammar.specs.declared.expected.Expect.TheVariants as expects
use Rattle.air_world.proofs.Passing.{underway-fewer}
use Rattle.air_world.proofs.Slots.{others-unlisted, rn16-heard, rn16_reception, room-behind, slot-behind, stands-same, stands-unlisted}
use Rattle.air_world.proofs.run.Run.play_slot.Given.{Over}
use Rattle.air_world.proofs.run.Run.play_slot.Goals.{After-send, After-hear_rn16}
use Rattle.air_world.proofs.run.Run.play_slot.Goals as goal

-- what is heard of the stream of the slot command is what the record says
heard : (g : Over) (c : After-hear_rn16 g) (begun : Begun g.row.R.Denot) (past : List Item) → StandsAt g.R.Listener.hears begun past c.args.air.now c.args.self.now c.args.report.now
    → rn16_reception c.hear_rn16.result ≡ slot_reception begun.start c.args.round c.args.slot c.args.command.now past
heard g c begun past stands =
    let came_as = c.hear_rn16.ensures.received in
    rn16-heard _ _ _ came_as.0 _ came_as.1 came_as.2
    ∙ (c.send.ensures begun past c.args.round c.args.slot stands).received.inventory expects.Rn16 came_as.0 c.requires.expects c.in_default.not-Silence came_as.1

-- nothing is heard where no stream comes
silent : (g : Over) (c : After-send g) (begun : Begun g.row.R.Denot) (past : List Item) → StandsAt g.R.Listener.hears begun past c.args.air.now c.args.self.now c.args.report.now
    → c.send.result ≡ gots.Silence → no_stream ≡ slot_reception begun.start c.args.round c.args.slot c.args.command.now past
silent g c begun past stands is =
    sym (silent_reception begun.start.link expects.Rn16 (next_record begun.start c.args.round c.args.slot c.args.command.now past).given
    (sym (c.send.ensures begun past c.args.round c.args.slot stands).behind.got_is ∙ is))

-- the run behind the slot command
behind : (g : Over) (c : After-send g) (begun : Begun g.row.R.Denot) (past : List Item) (after : RunValue) → StandsAt g.R.Listener.hears begun past c.args.air.now c.args.self.now c.args.report.now
    → after ≡ c.send.new.self
    → StandsAt g.R.Listener.hears begun (past_behind_command begun.start c.args.round c.args.slot c.args.command.now past) c.send.new.air after c.send.new.report
behind g c begun past after stands same =
    stands-unlisted (c.send.ensures begun past c.args.round c.args.slot stands)
    (others-unlisted (next_record begun.start c.args.round c.args.slot c.args.command.now past) (λ rn is. let other = sym (ap expectation_of is) ∙ c.requires.expects in cc)) same

pub send-requires : goal.send-requires
send-requires g c = underway-fewer 1 (omega arith) c.requires.underway

pub returns-in-Silence-clause-stands : goal.returns-in-Silence-clause-stands
returns-in-Silence-clause-stands g c = λ begun past stands.
    let before = (goal.at.returns-in-Silence-clause-stands g c).After-send in
    stands-same (slot-behind begun.start c.args.operations.now c.args.round c.args.slot c.args.command.now past (silent g before begun past stands c.in-Silence.is))
    (behind g before begun past _ stands refl)

pub returns-in-Silence-clause-outcome : goal.returns-in-Silence-clause-outcome
returns-in-Silence-clause-outcome g c = λ begun past stands. ap outcome_of (silent g (goal.at.returns-in-Silence-clause-outcome g c).After-send begun past stands c.in-Silence.is)

pub returns-in-None-clause-stands : goal.returns-in-None-clause-stands
returns-in-None-clause-stands g c = λ begun past stands.
    let at = goal.at.returns-in-None-clause-stands g c in
    stands-same
    (slot-behind begun.start c.args.operations.now c.args.round c.args.slot c.args.command.now past (ap rn16_reception (sym c.in-None.is) ∙ heard g at.After-hear_rn16 begun past stands))
    (behind g at.After-send begun past _ stands c.hear_rn16.ensures.same)

pub returns-in-None-clause-outcome : goal.returns-in-None-clause-outcome
returns-in-None-clause-outcome g c = λ begun past stands.
    ap outcome_of (ap rn16_reception (sym c.in-None.is) ∙ heard g (goal.at.returns-in-None-clause-outcome g c).After-hear_rn16 begun past stands)

pub acknowledge-requires-clause-underway : goal.acknowledge-requires-clause-underway
acknowledge-requires-clause-underway g c =
    let r = c.requires.underway in
    record {
      begun = r.begun;
      past = past_behind_command r.begun.start c.args.round c.args.slot c.args.command.now r.past;
      stands = behind g (goal.at.acknowledge-requires-clause-underway g c).After-send r.begun r.past _ r.stands c.hear_rn16.ensures.same;
      room = room-behind r.begun.start c.args.round c.args.slot c.args.command.now r.past 130 r.room;
    }

pub returns-in-Some-clause-stands : goal.returns-in-Some-clause-stands
returns-in-Some-clause-stands g c = λ begun past stands.
    let at = goal.at.returns-in-Some-clause-stands g c in
    stands-same
    (slot-behind begun.start c.args.operations.now c.args.round c.args.slot c.args.command.now past (ap rn16_reception (sym c.in-Some.is) ∙ heard g at.After-hear_rn16 begun past stands))
    (c.acknowledge.ensures begun _ (behind g at.After-send begun past _ stands c.hear_rn16.ensures.same))

pub returns-in-Some-clause-outcome : goal.returns-in-Some-clause-outcome
returns-in-Some-clause-outcome g c = λ begun past stands.
    ap outcome_of (ap rn16_reception (sym c.in-Some.is) ∙ heard g (goal.at.returns-in-Some-clause-outcome g c).After-hear_rn16 begun past stands)
