use Rattle.air_world.proofs.Names.{◌+◌, refl, sym, ◌∙◌, ap, arith, [], ended, RunValue, next_command, tags-ended}
use Rattle.air_world.proofs.Passing.{cut-behind, cut-past, ends-cut, stands-told}
use Rattle.air_world.proofs.Rounds.{answers-known, round-begins, round-ends, round-expects, round-goes-on, rounds-slot, slot-leads, slot_played}
use Rattle.air_world.proofs.Slots.{stands-same}
use Rattle.air_world.proofs.run.Run.play_round.Goals as goal

pub overflow_add-number : goal.overflow_add-number
overflow_add-number g c = let r = c.requires.between in omega (arith, ap (λ (run : RunValue). run.rounds) c.self.view_is, r.stands.at.rounds, r.rounds)

pub slots-init : goal.slots-init
slots-init g c = λ begun past stands.
    let number = ap (λ n. n + 1) (ap (λ (run : RunValue). run.rounds) c.self.view_is ∙ stands.at.rounds) in
    let sends = ap (λ link. next_command c.args.spec.now link []) (sym (c.link.ensures ∙ stands.at.link)) ∙ sym c.start-round.ensures.query in
    record {
      past = past;
      stands = stands;
      is = round-begins (record { start = begun.start; operations = c.args.operations.now; spec = c.args.spec.now; before = past })
          (record { number = _; round = _; command = _ }) c.limit.ensures.legal.limit.0 number c.start-round.ensures.stands sends;
    }

pub play_slot-outcome-requires-clause-underway : goal.play_slot-outcome-requires-clause-underway
play_slot-outcome-requires-clause-underway g c =
    let r = c.requires.between in
    let u = c.slots.invariant r.begun r.past r.stands in
    record { begun = r.begun; past = u.past; stands = u.stands; room = omega (arith, r.room, u.is.few, c.limit.ensures.legal.limit.1) }

pub play_slot-outcome-requires-clause-expects : goal.play_slot-outcome-requires-clause-expects
play_slot-outcome-requires-clause-expects g c =
    let r = c.requires.between in
    let u = c.slots.invariant r.begun r.past r.stands in
    round-expects _ _ u.past u.is

pub returns-in_err-check-clause-ends : goal.returns-in_err-check-clause-ends
returns-in_err-check-clause-ends g c = λ begun past stands.
    let u = c.slots.invariant begun past stands in
    let played = slot_played u.is c.slots_sent-slot.result c.play_slot-outcome.result c.slots_sent-slot.ensures.stands (c.play_slot-outcome.ensures.outcome begun u.past u.stands) in
    ends-cut c.from_residual.result _ _ _ c.from_residual.ensures.1
    (cut-past begun (slot-leads _ _ _ u.is played) (cut-behind g.R.Listener.failed _ (c.play_slot-outcome.ensures.stands begun u.past u.stands) c.in_err-check.ensures.cause))

pub slots-preserved : goal.slots-preserved
slots-preserved g c = λ begun past stands.
    let u = c.slots.invariant begun past stands in
    let played = slot_played u.is c.slots_sent-slot.result c.play_slot-outcome.result c.slots_sent-slot.ensures.stands (c.play_slot-outcome.ensures.outcome begun u.past u.stands) in
    record {
      past = _;
      stands = c.play_slot-outcome.ensures.stands begun u.past u.stands;
      is = round-goes-on _ _ _ u.is played c.next.new.self c.next.new.command
          (record { few_operations = c.requires.few; within = λ outcomes are. c.round_laws.ensures.limit c.args.spec.now outcomes c.limit.ensures.legal are })
          (answers-known c.next.new.command c.in_default.is (c.next.ensures.answer c.args.spec.now u.is.outcomes u.is.goes u.is.on));
    }

pub returns-in-Some-clause-ends : goal.returns-in-Some-clause-ends
returns-in-Some-clause-ends g c = λ begun past stands.
    let u = c.slots.invariant begun past stands in
    let played = slot_played u.is c.slots_sent-slot.result c.play_slot-outcome.result c.slots_sent-slot.ensures.stands (c.play_slot-outcome.ensures.outcome begun u.past u.stands) in
    let left = round-ends _ _ _ u.is played c.next.new.self c.in-Some.end c.next.new.command
    (answers-known c.next.new.command c.in-Some.is (c.next.ensures.answer c.args.spec.now u.is.outcomes u.is.goes u.is.on)) in
    let number = u.is.rounds ∙ ap (λ n. n + 1) (sym (rounds-slot begun.start c.args.operations.now _ _ _ u.past)) in
    stands-same (sym left)
    (stands-told (ended _ c.in-Some.end _) (c.play_slot-outcome.ensures.stands begun u.past u.stands) (record { on = c.tell.ensures }) (tags-ended begun.start _ c.in-Some.end _ _) refl
    (ap (λ (run : RunValue). record run { rounds = c.self.inside.rounds + 1 }) c.self-in-slots.view_is ∙ ap (λ n. record c.play_slot-outcome.new.self { rounds = n }) number))

pub returns-in-Some-clause-end : goal.returns-in-Some-clause-end
returns-in-Some-clause-end g c = λ begun past stands.
    let u = c.slots.invariant begun past stands in
    let played = slot_played u.is c.slots_sent-slot.result c.play_slot-outcome.result c.slots_sent-slot.ensures.stands (c.play_slot-outcome.ensures.outcome begun u.past u.stands) in
    let left = round-ends _ _ _ u.is played c.next.new.self c.in-Some.end c.next.new.command
    (answers-known c.next.new.command c.in-Some.is (c.next.ensures.answer c.args.spec.now u.is.outcomes u.is.goes u.is.on)) in
    record { number = _; slots = _; before = _; is = sym left }
