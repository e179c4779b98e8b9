use Rattle.std.proofs.Common.{◌≡◌, ◌<◌, ◌==◌, ◌∙◌, ap, arith, get_or, length, sym, List, ℕ}
use Rattle.std.proofs.lemmas.Bool.{eq-eqb}
use Rattle.std.proofs.lemmas.List.Folds.{list_any_at}
use Rattle.tag_population.proofs.QueryRepCalls.{Rep, calls_none, calls_upto, calls_index, calls_missed, calls_due, due_smaller, participation_inside, none_called_for, all_steps_most, settled_whole, rep_called_for, rep_counted, rep_bound}
use Rattle.tag_population.specs.Floor.{FloorValue}
use Rattle.tag_population.specs.Hearing.{reach_of}
use Rattle.tag_population.specs.declared.participation.Participation.TheVariants.{Waits}
use Rattle.tag_population.proofs.population.call_for.Goals.{then-waits_in, else-waits_in}
use Rattle.tag_population.proofs.population.call_for.Goals as goal

pub returns-in_default-clause-called : goal.returns-in_default-clause-called
returns-in_default-clause-called g c = none_called_for c.args.command.now c.args.entry.now c.args.floor.now c.requires.settled (λ session is. c.in_default.not-QueryRep session is)

pub returns-in_default-clause-counted : goal.returns-in_default-clause-counted
returns-in_default-clause-counted g c = omega (arith, all_steps_most (reach_of c.args.command.now) c.args.floor.now.parts, settled_whole c.args.floor.now c.requires.settled)

pub loop-number-init : goal.loop-number-init
loop-number-init g c = calls_none (record { session = c.in-QueryRep.session; entry = c.args.entry.now; before = c.args.floor.now; start = c.args.steps.now })

pub loop-number-preserved : goal.loop-number-preserved
loop-number-preserved g c =
    let r : Rep = record { session = c.in-QueryRep.session; entry = c.args.entry.now; before = c.args.floor.now; start = c.args.steps.now } in
    let index = c.loop-number.number-index in
    let now = c.loop-number.floor in
    let items = c.as_slice-number-items.ensures.value in
    let so_far = c.loop-number.invariant in
    let name : c.of-number.result ≡ get_or r.entry.missed index 0 = c.of-number.ensures ∙ ap (λ (l : List ℕ). get_or l index 0) items in
    let inside : index < length r.entry.missed = rw (← items) c.loop-number-test.true in
    let below : get_or r.entry.missed index 0 < length r.before.tags = c.requires.missed index 0 inside in
    elim c.if-waits_in.branch [
      | then-waits_in w ↦
          rw (w.floor-is, w.steps-is)
          (calls_missed r index now c.loop-number.steps so_far
          (record {
            number = c.of-number.result;
            after = w.call.new.self;
            stepped = w.call.new.steps;
            within = omega (arith, below, name, so_far.whole, settled_whole r.before c.requires.settled);
            is = w.call.ensures.floor;
            counts = w.call.ensures.counted;
          })
          name (list_any_at (λ tag. tag == c.of-number.result) r.entry.missed index 0 inside (eq-eqb (get_or r.entry.missed index 0) c.of-number.result (sym name))))
      | else-waits_in w ↦
          rw (w.floor-is, w.steps-is) (calls_index r index now c.loop-number.steps so_far (rw (← name) (sym c.waits_in.ensures ∙ w.if-waits_in.false)))
    ]

pub loop-number-2-init : goal.loop-number-2-init
loop-number-2-init g c =
    let r : Rep = record { session = c.in-QueryRep.session; entry = c.args.entry.now; before = c.args.floor.now; start = c.args.steps.now } in
    calls_upto r c.loop-number.number-index (length r.entry.missed) c.loop-number.floor c.loop-number.steps c.loop-number.invariant
    (λ k below past. absurd (omega (arith, below, past, c.loop-number-test.false, ap (λ (l : List ℕ). length l) c.as_slice-number-items.ensures.value)))

pub loop-number-2-smaller : goal.loop-number-2-smaller
loop-number-2-smaller g c =
    due_smaller c.in-QueryRep.session c.in-Some.number c.loop-number-2.floor.parts c.call-in-Some.new.self.parts c.in-Some.ensures (ap (λ (f : FloorValue). f.parts) c.call-in-Some.ensures.floor)

pub loop-number-2-preserved : goal.loop-number-2-preserved
loop-number-2-preserved g c =
    let r : Rep = record { session = c.in-QueryRep.session; entry = c.args.entry.now; before = c.args.floor.now; start = c.args.steps.now } in
    calls_due r (length r.entry.missed) c.loop-number-2.floor c.loop-number-2.steps c.loop-number-2.invariant
    (record {
      number = c.in-Some.number;
      after = c.call-in-Some.new.self;
      stepped = c.call-in-Some.new.steps;
      within = participation_inside c.loop-number-2.floor.parts c.in-Some.number (Waits r.session 1) c.in-Some.ensures;
      is = c.call-in-Some.ensures.floor;
      counts = c.call-in-Some.ensures.counted;
    })
    c.in-Some.ensures

pub returns-clause-called : goal.returns-clause-called
returns-clause-called g c =
    let r : Rep = record { session = c.in-QueryRep.session; entry = c.args.entry.now; before = c.args.floor.now; start = c.args.steps.now } in
    rw (c.in-QueryRep.is, c.count_down.ensures) (rep_called_for r c.loop-number-2.floor c.loop-number-2.steps c.requires.settled c.loop-number-2.invariant c.in_default-due.ensures)

pub returns-clause-counted : goal.returns-clause-counted
returns-clause-counted g c =
    let r : Rep = record { session = c.in-QueryRep.session; entry = c.args.entry.now; before = c.args.floor.now; start = c.args.steps.now } in
    rw (c.in-QueryRep.is, c.count_down.ensures) (rep_counted r c.loop-number-2.floor c.loop-number-2.steps c.requires.settled c.loop-number-2.invariant c.in_default-due.ensures)

pub returns-clause-bound : goal.returns-clause-bound
returns-clause-bound g c = λ is.
    let r : Rep = record { session = c.in-QueryRep.session; entry = c.args.entry.now; before = c.args.floor.now; start = c.args.steps.now } in
    rw (c.in-QueryRep.is, c.count_down.ensures) (rep_bound r c.loop-number-2.floor c.loop-number-2.steps c.requires.settled c.loop-number-2.invariant c.in_default-due.ensures)
