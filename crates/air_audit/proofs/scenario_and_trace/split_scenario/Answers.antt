use Rattle.air_audit.proofs.Names.{◌≡◌, true, false, codes, drop, take, ap, sym, ◌∙◌, arith, bytes_eq}
use Rattle.air_audit.proofs.Behind.{cut-end, cut-more, cut-none}
use Rattle.air_audit.proofs.scenario_and_trace.split_scenario.Goals as goal

pub loop-line-init : goal.loop-line-init
loop-line-init c = record { within = omega arith; count = omega arith }

pub returns-then-eq-clause-scenario : goal.returns-then-eq-clause-scenario
returns-then-eq-clause-scenario c =
    let is : bytes_eq c.in-Some.line.now (codes "end") ≡ true = ap (λ l. bytes_eq c.in-Some.line.now l) (sym c.as_slice.ensures) ∙ sym c.eq.ensures ∙ c.if-eq.true in
    c.split_at.ensures.front
    ∙ ap (λ n. take n c.args.input.now)
    (cut-end c.args.input.now c.loop-line.rest.now c.in-Some.line.now c.in-Some.behind.now c.loop-line.invariant (record { cut = c.in-Some.ensures.cut; lines = c.in-Some.ensures.lines }) is)

pub returns-then-eq-clause-trace : goal.returns-then-eq-clause-trace
returns-then-eq-clause-trace c =
    let is : bytes_eq c.in-Some.line.now (codes "end") ≡ true = ap (λ l. bytes_eq c.in-Some.line.now l) (sym c.as_slice.ensures) ∙ sym c.eq.ensures ∙ c.if-eq.true in
    c.split_at.ensures.back
    ∙ ap (λ n. drop n c.args.input.now)
    (cut-end c.args.input.now c.loop-line.rest.now c.in-Some.line.now c.in-Some.behind.now c.loop-line.invariant (record { cut = c.in-Some.ensures.cut; lines = c.in-Some.ensures.lines }) is)

pub loop-line-preserved : goal.loop-line-preserved
loop-line-preserved c =
    cut-more c.args.input.now c.loop-line.rest.now c.in-Some.line.now c.in-Some.behind.now c.loop-line.invariant (record { cut = c.in-Some.ensures.cut; lines = c.in-Some.ensures.lines })
    (ap (λ l. bytes_eq c.in-Some.line.now l) (sym c.as_slice.ensures) ∙ sym c.eq.ensures ∙ c.if-eq.false)

pub returns-clause-scenario : goal.returns-clause-scenario
returns-clause-scenario c = c.split_at-2.ensures.front ∙ ap (λ n. take n c.args.input.now) (cut-none c.args.input.now c.loop-line.rest.now c.loop-line.invariant c.in_default.ensures.whole)

pub returns-clause-trace : goal.returns-clause-trace
returns-clause-trace c = c.split_at-2.ensures.back ∙ ap (λ n. drop n c.args.input.now) (cut-none c.args.input.now c.loop-line.rest.now c.loop-line.invariant c.in_default.ensures.whole)
