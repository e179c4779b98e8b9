use Rattle.air_audit.proofs.Names.{◌≡◌, ◌≢◌, ◌^◌, ◌==◌, ℕ, true, false, List, [], ◌∷◌, ◌++◌, length, arith, ap, refl, sym, subst, true≢false, eqb-true, length-append, AuditStopsAt, IsRefusedHere}
use Rattle.air_audit.proofs.Names.{Stop, line_feed}
use Rattle.air_audit.specs.declared.auditor.Position.TheVariants as positions
use Rattle.air_audit.proofs.Walks.{audited, early-weaker, refused-end, refused-line, walked-more, walked-none}
use Rattle.air_audit.proofs.traces.walk.Goals.{else-has_ended-via-then-has_ended+else-is_empty, else-has_ended-via-else-has_ended}
use Rattle.air_audit.proofs.traces.walk.Goals as goal

pub loop-line-init : goal.loop-line-init
loop-line-init g c = record {
  walked = λ start stands. walked-none start c.args.trace.now c.args.auditor.now stands;
  early = early-weaker 0 1 c.args.auditor.now (omega arith) c.requires.early;
  count = omega arith;
}

pub follow-requires-clause-underway : goal.follow-requires-clause-underway
follow-requires-clause-underway g c =
    let walked = c.loop-line.invariant.walked c.requires.underway.0 c.requires.underway.1 in
    record { start = c.requires.underway.0; standing = walked.standing; stands = walked.stands }

pub follow-requires-clause-early : goal.follow-requires-clause-early
follow-requires-clause-early g c =
    let count = c.loop-line.invariant.count in
    let short = c.requires.trace in
    early-weaker c.loop-line.number (2 ^ 31) c.loop-line.auditor (omega arith) c.loop-line.invariant.early

pub returns-in-Err-Refused : goal.returns-in-Err-Refused
returns-in-Err-Refused g c = λ start stands.
    let walked = c.loop-line.invariant.walked start stands in
    let refused : IsRefusedHere start walked.standing c.in-Some.line.now c.in-Err-Refused.reason =
    subst (λ (stop : Stop). AuditStopsAt stop start walked.standing c.in-Some.line.now) c.in-Err-Refused.field-0-is
    (c.in-Err-Refused.ensures.follows start walked.standing walked.stands) in
    rw c.in-Err-Refused.field-0-is
    (refused-line start c.args.trace.now c.loop-line.rest.now c.loop-line.number c.loop-line.auditor walked
    (record { line = c.in-Some.line.now; rest = c.in-Some.behind.now; cut = c.in-Some.ensures.lines }) c.in-Err-Refused.reason refused)

pub loop-line-preserved : goal.loop-line-preserved
loop-line-preserved g c = record {
  walked = λ start stands.
      let walked = c.loop-line.invariant.walked start stands in
      walked-more start c.args.trace.now c.loop-line.rest.now c.loop-line.number c.loop-line.auditor walked
      (record { line = c.in-Some.line.now; rest = c.in-Some.behind.now; cut = c.in-Some.ensures.lines }) c.follow.new.self (c.in-Ok.ensures.follows start walked.standing walked.stands);
  early = c.follow.ensures.early c.loop-line.number c.loop-line.invariant.early;
  count =
      let count = c.loop-line.invariant.count in
      let cut : length c.loop-line.rest.now ≡ length (c.in-Some.line.now ++ line_feed ∷ c.in-Some.behind.now) = ap length c.in-Some.ensures.cut in
      omega (arith, length-append c.in-Some.line.now (line_feed ∷ c.in-Some.behind.now));
}

none-left : (rest : List ℕ) → (length rest == 0) ≡ true → rest ≡ []
none-left [] is = refl
none-left (byte ∷ rest) is = let none : length (byte ∷ rest) ≡ 0 = eqb-true (length (byte ∷ rest)) 0 is in absurd (omega arith)

some-left : (rest : List ℕ) → (length rest == 0) ≡ false → rest ≢ []
some-left [] is none = cc
some-left (byte ∷ rest) is none = cc

pub returns-then-is_empty : goal.returns-then-is_empty
returns-then-is_empty g c = λ start stands.
    audited start c.args.trace.now c.loop-line.rest.now c.loop-line.number c.loop-line.auditor (c.loop-line.invariant.walked start stands)
    (c.if-has_ended.ensures.0 refl) (none-left c.loop-line.rest.now (sym c.if-is_empty.ensures))

pub returns-else-has_ended : goal.returns-else-has_ended
returns-else-has_ended g c = λ start stands.
    let some : c.loop-line.auditor.position ≡ positions.Ended → c.loop-line.rest.now ≢ [] =
    elim c.else-has_ended.branch [
      | else-has_ended-via-then-has_ended+else-is_empty w ↦ λ ended. some-left c.loop-line.rest.now (sym w.if-is_empty.ensures)
      | else-has_ended-via-else-has_ended w ↦ λ ended. absurd (true≢false (sym (w.if-has_ended.ensures.1 ended)))
    ] in
    refused-end start c.args.trace.now c.loop-line.rest.now c.loop-line.number c.loop-line.auditor (c.loop-line.invariant.walked start stands) c.in_default.ensures.whole some
