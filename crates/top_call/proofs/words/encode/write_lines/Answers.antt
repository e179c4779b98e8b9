-- The lines wait on the page in turn, and the page is written at last.
use Rattle.std.proofs.Common.{ℕ, [], ◌++◌, ◌∙◌, Err, refl, rules, ap, subst}
use Rattle.air_io.specs.Flow.{FaultsRose}
use Rattle.top_call.specs.declared.ending.WriteEnd.TheVariants.{Fault, OutOfMemory}
use Rattle.top_call.specs.words.Encode.{encode_job}
use Rattle.top_call.proofs.Ends.{ends_early}
use Rattle.top_call.proofs.EncodedLines.{encodes_all, encodes_more, encodes_none, front_of_lines, next_asks, unstarted}
use Rattle.top_call.proofs.Waits.{sends_more, sends_none, sends_whole, loses_later, loses_last}
use Rattle.top_call.proofs.words.encode.write_lines.Goals as goal

pub returns-in_err-encoder : goal.returns-in_err-encoder
returns-in_err-encoder g c =
    ends_early encode_job c.args.input.now (record { written = _; written' = _; writes = _; writes' = _ }) OutOfMemory _ (search rules) (λ other. absurd (cc)) (λ is. refl)
    (unstarted c.requests_have_a_line.ensures c.args.input.now _ c.requires)

pub loop-line-init : goal.loop-line-init
loop-line-init g c = record { text = _; so_far = encodes_none c.args.input.now c.requires; sends = rw c.new-page.ensures (sends_none [] _); steady = refl }

pub put_encoded-requires : goal.put_encoded-requires
put_encoded-requires g c =
    let so_far = c.loop-line.invariant in
    next_asks c.args.input.now c.loop-line.rest.now c.in-Some.line.now c.in-Some.behind.now so_far.text so_far.so_far c.in-Some.ensures.lines

pub returns-in_err-put_encoded : goal.returns-in_err-put_encoded
returns-in_err-put_encoded g c =
    let so_far = c.loop-line.invariant in
    let ended = c.in_err-put_encoded.ensures in
    ends_early encode_job c.args.input.now (record { written = _; written' = _; writes = _; writes' = _ }) c.in_err-put_encoded.field-0.0 _ (search rules)
    (λ is. subst (λ (faults : ℕ). FaultsRose faults (g.O.Sink.faults c.put_encoded.new.output)) so_far.steady (ended.failed (ap Err is)))
    (λ is. ended.memory (ap Err is) ∙ so_far.steady)
    (front_of_lines c.requests_have_a_line.ensures c.args.input.now c.in-Some.behind.now (so_far.text ++ ended.lost.0) _ _
    (encodes_more c.args.input.now c.loop-line.rest.now so_far.text ended.lost.0 so_far.so_far
    (record { line = c.in-Some.line.now; behind = c.in-Some.behind.now; cut = c.in-Some.ensures.cut; lacks = c.in-Some.ensures.first }) c.in-Some.ensures.lines ended.lost.1)
    (loses_later so_far.text _ ended.lost.0 _ _ _ so_far.sends ended.lost.2))

pub loop-line-preserved : goal.loop-line-preserved
loop-line-preserved g c =
    let so_far = c.loop-line.invariant in
    let sent = c.in_ok-put_encoded.ensures.sent in
    record {
      text = so_far.text ++ sent.0;
      so_far =
          encodes_more c.args.input.now c.loop-line.rest.now so_far.text sent.0 so_far.so_far
          (record { line = c.in-Some.line.now; behind = c.in-Some.behind.now; cut = c.in-Some.ensures.cut; lacks = c.in-Some.ensures.first }) c.in-Some.ensures.lines sent.1;
      sends = sends_more so_far.text _ sent.0 _ _ _ _ so_far.sends sent.2;
      steady = c.in_ok-put_encoded.ensures.steady ∙ so_far.steady;
    }

pub returns-in_err-flush : goal.returns-in_err-flush
returns-in_err-flush g c =
    let so_far = c.loop-line.invariant in
    ends_early encode_job c.args.input.now (record { written = _; written' = _; writes = _; writes' = _ }) Fault _ (search rules)
    (λ is. subst (λ (faults : ℕ). FaultsRose faults (g.O.Sink.faults c.flush.new.output)) so_far.steady c.in_err-flush.ensures.failed)
    (λ other. absurd (cc))
    (front_of_lines c.requests_have_a_line.ensures c.args.input.now c.loop-line.rest.now so_far.text _ _ so_far.so_far
    (loses_last so_far.text _ _ _ _ so_far.sends c.in_err-flush.ensures.lost))

pub returns : goal.returns
returns g c =
    let so_far = c.loop-line.invariant in (
      c.in_ok-flush.ensures.steady ∙ so_far.steady,
      record {
        text = so_far.text;
        named = encodes_all c.args.input.now c.loop-line.rest.now so_far.text so_far.so_far c.in_default.ensures.whole;
        added = sends_whole so_far.text _ _ _ _ so_far.sends c.in_ok-flush.ensures.sent;
      },
    )
