use Rattle.air_world.proofs.Names.{refl, ◌∙◌, ap, arith, operated, tags-operated}
use Rattle.air_world.proofs.Operating.{Asked, MovesOn, operations-begin, operations-end, operations-sent, operations-told, sends-next}
use Rattle.air_world.proofs.Passing.{stands-told}
use Rattle.air_world.proofs.Slots.{stands-same}
use Rattle.air_world.proofs.run.Run.operate.Goals as goal

pub moves-init : goal.moves-init
moves-init g c = λ begun past epc rn stands goes. record { past = past; stands = stands; are = operations-begin _ _ c.requires.few goes c.requires.first.turns }

pub converse-requires : goal.converse-requires
converse-requires g c =
    let r = c.requires.underway in
    let first = c.requires.first in
    let u = c.moves.invariant r.begun r.past first.epc first.rn r.stands first.stands in
    let given = c.last_answer.ensures ∙ u.are.last in
    let on : MovesOn _ _ u.past u.are _ _ = record { answers = c.next.ensures.next first.epc first.rn u.are.moves u.are.goes given; fewer = c.next.ensures.turns } in
    let asked : Asked = record { command = c.in-Send.command; expect = c.in-Send.expect; extended = c.in-Send.extended } in
    let sends = sends-next asked on c.in-Send.is in
    record {
      underway = record { begun = r.begun; past = u.past; stands = u.stands; room = omega (arith, r.room, u.are.few, sends.one) };
      expects = sends.expects;
    }

pub moves-preserved-in-Send : goal.moves-preserved-in-Send
moves-preserved-in-Send g c = λ begun past epc rn stands goes.
    let u = c.moves.invariant begun past epc rn stands goes in
    let on : MovesOn _ _ u.past u.are _ _ = record { answers = c.next.ensures.next epc rn u.are.moves u.are.goes (c.last_answer.ensures ∙ u.are.last); fewer = c.next.ensures.turns } in
    record {
      past = _;
      stands = c.converse.ensures.stands begun u.past c.args.round c.args.slot u.stands;
      are = operations-sent (record { command = c.in-Send.command; expect = c.in-Send.expect; extended = c.in-Send.extended })
          (record { answer = c.converse.new.answer; expected = c.converse.ensures.expected; heard = c.converse.ensures.heard begun u.past c.args.round c.args.slot u.stands }) on c.in-Send.is;
    }

pub overflow_add-index : goal.overflow_add-index
overflow_add-index g c =
    let r = c.requires.underway in
    let first = c.requires.first in
    let u = c.moves.invariant r.begun r.past first.epc first.rn r.stands first.stands in
    omega (arith, u.are.turns)

pub moves-preserved : goal.moves-preserved
moves-preserved g c = λ begun past epc rn stands goes.
    let u = c.moves.invariant begun past epc rn stands goes in
    let on : MovesOn _ _ u.past u.are _ _ = record { answers = c.next.ensures.next epc rn u.are.moves u.are.goes (c.last_answer.ensures ∙ u.are.last); fewer = c.next.ensures.turns } in
    record {
      past = _;
      stands = stands-told (operated c.args.round c.args.slot c.moves.index c.in-Result.ended) u.stands (record { on = c.tell.ensures })
          (tags-operated begun.start c.args.round c.args.slot c.moves.index c.in-Result.ended u.past) refl (ap (λ n. record c.moves.self { rounds = n }) u.stands.at.rounds);
      are = operations-told c.in-Result.ended on c.in-Result.is;
    }

pub returns-in-End : goal.returns-in-End
returns-in-End g c = λ begun past epc rn stands goes.
    let u = c.moves.invariant begun past epc rn stands goes in
    let on : MovesOn _ _ u.past u.are _ _ = record { answers = c.next.ensures.next epc rn u.are.moves u.are.goes (c.last_answer.ensures ∙ u.are.last); fewer = c.next.ensures.turns } in
    stands-same (operations-end on c.in-End.is) u.stands
