use Rattle.air_world.proofs.Names.{◌≡◌, List, Some, refl, sym, ◌∙◌, ap, arith, silent_reception, Item, Record, next_record, past_behind_command, Begun, StandsAt, pair_received, ack_reception, Listed}
use Rattle.command_grammar.specs.declared.commands.Command.TheVariants as commands
use Rattle.reply_grammar.specs.declared.expected.Expect.TheVariants as expects
use Rattle.air_world.proofs.Passing.{underway-fewer}
use Rattle.air_world.proofs.Slots.{ack-behind, other-begun, other-unlisted, room-behind, stands-listed, stands-same, stands-unlisted, whole-begun, whole-listed}
use Rattle.air_world.proofs.run.Run.acknowledge.Given.{Over}
use Rattle.air_world.proofs.run.Run.acknowledge.Goals.{After-hear_epc, After-tell}
use Rattle.air_world.proofs.run.Run.acknowledge.Goals as goal

-- the PC and the EPC that are heard of the stream of the ACK are those of the record
heard : (g : Over) (c : After-hear_epc g) (begun : Begun g.row.R.Denot) (past : List Item) → StandsAt g.R.Listener.hears begun past c.args.air.now c.args.self.now c.args.report.now
    → pair_received (ack_reception begun.start c.args.round c.args.slot c.args.rn past) ≡ c.hear_epc.result
heard g c begun past stands =
    let came_as = c.hear_epc.ensures.received in
    ap pair_received (sym ((c.send.ensures begun past c.args.round c.args.slot stands).received.inventory expects.Epc came_as.0 refl c.in_default.not-Silence came_as.1)) ∙ sym came_as.2

-- the run behind the ACK, once what it brought is listed
listed : (g : Over) (c : After-tell g) (begun : Begun g.row.R.Denot) (past : List Item) → StandsAt g.R.Listener.hears begun past c.args.air.now c.args.self.now c.args.report.now
    → pair_received (ack_reception begun.start c.args.round c.args.slot c.args.rn past) ≡ Some (c.in-Some.pc, c.in-Some.epc)
    → StandsAt g.R.Listener.hears begun (past_behind_command begun.start c.args.round c.args.slot (commands.Ack c.args.rn) past) c.send.new.air c.hear_epc.new.self c.tell.new.self
listed g c begun past stands pair =
    let sent : Record = next_record begun.start c.args.round c.args.slot (commands.Ack c.args.rn) past in
    let tag : Listed = record { round = c.args.round; slot = c.args.slot; pc = c.in-Some.pc; epc = c.in-Some.epc } in
    stands-listed tag (c.send.ensures begun past c.args.round c.args.slot stands)
    (whole-listed sent (ack_reception begun.start c.args.round c.args.slot c.args.rn past) (c.in-Some.pc, c.in-Some.epc) pair) c.hear_epc.ensures.same (record { on = c.tell.ensures })

pub send-requires : goal.send-requires
send-requires g c = underway-fewer 1 (omega arith) c.requires.underway

pub returns-in-Silence : goal.returns-in-Silence
returns-in-Silence g c = λ begun past stands.
    let sent : Record = next_record begun.start c.args.round c.args.slot (commands.Ack c.args.rn) past in
    let behind = c.send.ensures begun past c.args.round c.args.slot stands in
    let other = ap pair_received (silent_reception begun.start.link expects.Epc sent.given (sym behind.behind.got_is ∙ c.in-Silence.is)) in
    stands-same (ack-behind begun.start c.args.operations.now c.args.round c.args.slot c.args.rn past (other-begun c.args.operations.now c.args.rn _ other))
    (stands-unlisted behind (other-unlisted sent (ack_reception begun.start c.args.round c.args.slot c.args.rn past) other) refl)

pub returns-in-None : goal.returns-in-None
returns-in-None g c = λ begun past stands.
    let sent : Record = next_record begun.start c.args.round c.args.slot (commands.Ack c.args.rn) past in
    let other = heard g (goal.at.returns-in-None g c).After-hear_epc begun past stands ∙ c.in-None.is in
    stands-same (ack-behind begun.start c.args.operations.now c.args.round c.args.slot c.args.rn past (other-begun c.args.operations.now c.args.rn _ other))
    (stands-unlisted (c.send.ensures begun past c.args.round c.args.slot stands)
    (other-unlisted sent (ack_reception begun.start c.args.round c.args.slot c.args.rn past) other) c.hear_epc.ensures.same)

pub operate-requires-clause-underway : goal.operate-requires-clause-underway
operate-requires-clause-underway g c =
    let r = c.requires.underway in
    let at = goal.at.operate-requires-clause-underway g c in
    record {
      begun = r.begun;
      past = past_behind_command r.begun.start c.args.round c.args.slot (commands.Ack c.args.rn) r.past;
      stands = listed g at.After-tell r.begun r.past r.stands (heard g at.After-hear_epc r.begun r.past r.stands ∙ c.in-Some.is);
      room = room-behind r.begun.start c.args.round c.args.slot (commands.Ack c.args.rn) r.past 129 r.room;
    }

pub operate-requires-clause-first : goal.operate-requires-clause-first
operate-requires-clause-first g c = record { epc = c.in-Some.epc; rn = c.args.rn; stands = c.start-run.ensures.stands; turns = c.start-run.ensures.turns }

pub returns-in-Some : goal.returns-in-Some
returns-in-Some g c = λ begun past stands.
    let at = goal.at.returns-in-Some g c in
    let pair = heard g at.After-hear_epc begun past stands ∙ c.in-Some.is in
    stands-same (ack-behind begun.start c.args.operations.now c.args.round c.args.slot c.args.rn past (whole-begun c.args.operations.now c.args.rn _ (c.in-Some.pc, c.in-Some.epc) pair))
    (c.operate.ensures begun _ c.in-Some.epc c.args.rn (listed g at.After-tell begun past stands pair) c.start-run.ensures.stands)
