-- The lines wait on the page in turn, and the page is written at last.
use Rattle.std.proofs.Common.{ℕ, ◌++◌, ◌∙◌, rules, subst}
use Rattle.air_io.specs.Flow.{FaultsRose}
use Rattle.text_fields.specs.Lines.{text_with}
use Rattle.top_call.specs.declared.ending.WriteEnd.TheVariants.{Fault}
use Rattle.top_call.specs.words.Names.{names_job}
use Rattle.top_call.proofs.Ends.{ends_early}
use Rattle.top_call.proofs.Waits.{sends_more, sends_whole, loses_later, loses_last}
use Rattle.top_call.proofs.NamedLines.{names_more, names_all, front_of_names}
use Rattle.top_call.proofs.words.names.write_named.Goals as goal

pub returns-in_err-put_named-clause-ends : goal.returns-in_err-put_named-clause-ends
returns-in_err-put_named-clause-ends g c =
    let so_far = c.loop-line.invariant in
    let ended = c.in_err-put_named.ensures in
    ends_early names_job c.args.input.now (record { written = _; written' = _; writes = _; writes' = _ }) Fault _ (search rules)
    (λ is. subst (λ (faults : ℕ). FaultsRose faults (g.O.Sink.faults c.put_named.new.output)) so_far.steady ended.failed) (λ other. absurd (cc))
    (front_of_names c.lines_have_names.ensures.some c.args.input.now c.in-Some.behind.now (so_far.text ++ text_with ended.lost.0) _ _
    (names_more c.args.input.now c.loop-line.rest.now c.in-Some.line.now c.in-Some.behind.now so_far.text ended.lost.0 so_far.so_far c.in-Some.ensures.lines ended.lost.1)
    (loses_later so_far.text _ (text_with ended.lost.0) _ _ _ so_far.sends ended.lost.2))

pub loop-line-preserved : goal.loop-line-preserved
loop-line-preserved g c =
    let so_far = c.loop-line.invariant in
    let sent = c.in_ok-put_named.ensures.sent in
    record {
      text = so_far.text ++ text_with sent.0;
      so_far = names_more c.args.input.now c.loop-line.rest.now c.in-Some.line.now c.in-Some.behind.now so_far.text sent.0 so_far.so_far c.in-Some.ensures.lines sent.1;
      sends = sends_more so_far.text _ (text_with sent.0) _ _ _ _ so_far.sends sent.2;
      steady = c.in_ok-put_named.ensures.steady ∙ so_far.steady;
    }

pub returns-in_err-flush-clause-ends : goal.returns-in_err-flush-clause-ends
returns-in_err-flush-clause-ends g c =
    let so_far = c.loop-line.invariant in
    ends_early names_job c.args.input.now (record { written = _; written' = _; writes = _; writes' = _ }) Fault _ (search rules)
    (λ is. subst (λ (faults : ℕ). FaultsRose faults (g.O.Sink.faults c.flush.new.output)) so_far.steady c.in_err-flush.ensures.failed) (λ other. absurd (cc))
    (front_of_names c.lines_have_names.ensures.some c.args.input.now c.loop-line.rest.now so_far.text _ _ so_far.so_far
    (loses_last so_far.text _ _ _ _ so_far.sends c.in_err-flush.ensures.lost))

pub returns-clause-ends : goal.returns-clause-ends
returns-clause-ends g c =
    let so_far = c.loop-line.invariant in (
      c.in_ok-flush.ensures.steady ∙ so_far.steady,
      record {
        text = so_far.text;
        named = names_all c.args.input.now c.loop-line.rest.now so_far.text so_far.so_far c.in_default.ensures.whole;
        added = sends_whole so_far.text _ _ _ _ so_far.sends c.in_ok-flush.ensures.sent;
      },
    )
