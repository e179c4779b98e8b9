use Rattle.top_call.proofs.PortalNames.{◌≡◌, ◌≢◌, inl, inr, ℕ, ◌+◌, ◌≤◌, Bool, true, false, List, [], drop, length, Option, Some, None, refl, sym, ap, ◌∙◌, subst, arith, eq-eqb, ◌==◌, is_some, drop_all, eqb-true, Step, first_refused, lines_of_steps}
use Rattle.scenario.specs.declared.values.Step.TheVariants as steps
use Rattle.top_call.proofs.PortalsRefused.{no-round, no-turn, not-both, operates, others, turn}
use Rattle.top_call.proofs.PortalStepPlaces.{IsStepAt, from-place}
use Rattle.top_call.proofs.portal_faults.step_fault.Goals as goal
use Rattle.top_call.proofs.portal_faults.step_fault.Goals.{then-is_some-via-then-is_some, then-is_some-via-else-is_some+then-not-is_empty}

-- two numbers that differ
differs : (n m : ℕ) → n ≢ m → (n == m) ≡ false
differs n m other = by_test (n == m) refl
  where
    by_test : (test : Bool) → (n == m) ≡ test → test ≡ false
    by_test true same = absurd (other (eqb-true n m same))
    by_test false same = refl

named : (only : Option (List ℕ)) → is_some only ≡ true → only ≢ None
named None some = absurd (cc)
named (Some epc) some = λ none. cc

unnamed : (only : Option (List ℕ)) → is_some only ≡ false → only ≡ None
unnamed None some = refl
unnamed (Some epc) some = absurd (cc)

pub returns-in_default : goal.returns-in_default
returns-in_default c = λ version.
    let l = c.loop-step in
    let at : IsStepAt c.args.steps.now l.step-index c.step-item.result = record { inside = omega arith; is = c.step-item.is } in
    sym (no-turn version (l.number + 1) l.next c.step-item.result (drop (l.step-index + 1) c.args.steps.now) (no-round l.next c.step-item.result c.in_default.not-Round))
    ∙ sym (from-place version (l.number + 1) l.next c.args.steps.now l.step-index c.step-item.result at) ∙ l.invariant.rest version

pub returns-then-get-next : goal.returns-then-get-next
returns-then-get-next c = λ version.
    let l = c.loop-step in
    let round = c.in-Round in
    let at = subst (IsStepAt c.args.steps.now l.step-index) round.is (record { inside = omega arith; is = c.step-item.is }) in
    let other = differs round.spec.session l.next (λ same. c.if-get-next.true (c.get.ensures.value ∙ c.session.ensures.value ∙ same)) in
    sym (no-turn version (l.number + 1) l.next (steps.Round round.spec round.operations) (drop (l.step-index + 1) c.args.steps.now) (others round.spec round.operations other))
    ∙ sym (from-place version (l.number + 1) l.next c.args.steps.now l.step-index (steps.Round round.spec round.operations) at) ∙ l.invariant.rest version

pub returns-then-is_some : goal.returns-then-is_some
returns-then-is_some c = λ version.
    let l = c.loop-step in
    let round = c.in-Round in
    let at = subst (IsStepAt c.args.steps.now l.step-index) round.is (record { inside = omega arith; is = c.step-item.is }) in
    let own = eq-eqb round.spec.session l.next (sym (c.get.ensures.value ∙ c.session.ensures.value) ∙ c.if-get-next.false) in
    elim c.then-is_some.branch [
      | then-is_some-via-then-is_some w ↦
          sym (operates version (l.number + 1) l.next round.spec round.operations.only round.operations.ops (drop (l.step-index + 1) c.args.steps.now) own
          (inl (named round.operations.only (sym c.is_some.ensures ∙ w.if-is_some.true))))
          ∙ sym (from-place version (l.number + 1) l.next c.args.steps.now l.step-index (steps.Round round.spec round.operations) at) ∙ l.invariant.rest version
      | then-is_some-via-else-is_some+then-not-is_empty w ↦
          sym (operates version (l.number + 1) l.next round.spec round.operations.only round.operations.ops (drop (l.step-index + 1) c.args.steps.now) own
          (inr (λ none. not-both w.is_empty.result w.if-not-is_empty.true (w.is_empty.ensures.1 none))))
          ∙ sym (from-place version (l.number + 1) l.next c.args.steps.now l.step-index (steps.Round round.spec round.operations) at) ∙ l.invariant.rest version
    ]

pub loop-step-preserved : goal.loop-step-preserved
loop-step-preserved c =
    let l = c.loop-step in
    let round = c.in-Round in
    let at = subst (IsStepAt c.args.steps.now l.step-index) round.is (record { inside = omega arith; is = c.step-item.is }) in
    let own = eq-eqb round.spec.session l.next (sym (c.get.ensures.value ∙ c.session.ensures.value) ∙ c.if-get-next.false) in
    let none : round.operations.ops ≡ [] = c.is_empty.ensures.0 c.if-not-is_empty.false in
    record {
      number = omega (arith, l.invariant.number);
      rest = λ version.
          ap (λ n. first_refused (l.number + 1 + 1) n (lines_of_steps version (drop (l.step-index + 1) c.args.steps.now))) c.other_portal-next.ensures
          ∙ sym (turn version (l.number + 1) l.next round.spec round.operations (drop (l.step-index + 1) c.args.steps.now) own
          (unnamed round.operations.only (sym c.is_some.ensures ∙ c.if-is_some.false)) none)
          ∙ sym (from-place version (l.number + 1) l.next c.args.steps.now l.step-index (steps.Round round.spec round.operations) at) ∙ l.invariant.rest version;
    }

pub returns : goal.returns
returns c = λ version.
    let l = c.loop-step in
    let done : length c.args.steps.now ≤ l.step-index = omega arith in
    sym (ap (λ (left : List Step). first_refused (l.number + 1) l.next (lines_of_steps version left)) (drop_all l.step-index c.args.steps.now done))
    ∙ l.invariant.rest version
