-- Entry by entry the judge has heard what is read.
use Rattle.std.proofs.Common.{◌≡◌, ◌≢◌, ◌+◌, ℕ, arith, subst, sym}
use Rattle.bench_lines.specs.ReadEntries.{lines_said}
use Rattle.bench_lines.specs.declared.log_entries.SaidEntry.TheVariants as said
use Rattle.bench_lines.proofs.Standing.{StandsAt, stands_on}
use Rattle.bench_lines.proofs.judging.judge_text.Goals as goal

pub loop-steps-preserved : goal.loop-steps-preserved
loop-steps-preserved g c =
    let at = c.loop-steps.invariant.at in
    let rooms = c.read_entry.new.rooms in
    let more : c.in_ok-entry.entry ≢ said.End = λ ends. c.in_default.not-End (cc) in
    let lines : c.line_count-count.result ≡ lines_said c.in_ok-entry.entry = c.line_count-count.ensures in
    let read = c.in_ok-entry.ensures.ok c.args.text.now at.tag at.log at.counted at.read in
    let heard = c.tell-judge.ensures at.tag at.log at.heard in
    let few = c.in_ok-entry.ensures.few in
    record {
      at = subst (λ (count : ℕ). StandsAt c.args.text.now c.in_ok-entry.left.now c.tell-judge.result (c.loop-steps.count + count)) (sym lines)
          (stands_on c.args.text.now c.loop-steps.rest.now c.in_ok-entry.left.now c.loop-steps.judge c.tell-judge.result c.loop-steps.count rooms.command rooms.answer
          c.in_ok-entry.entry at more read heard);
      few = omega (arith, lines, few);
    }

pub returns-in-End-clause-ok : goal.returns-in-End-clause-ok
returns-in-End-clause-ok g c =
    let at = c.loop-steps.invariant.at in
    let read = c.in_ok-entry.ensures.ok c.args.text.now at.tag at.log at.counted at.read in
    record { tag = at.tag; log = at.log; is = rw c.in-End.is at read; right = c.verdict.ensures at.tag at.log at.heard }
