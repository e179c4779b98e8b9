use Rattle.std.proofs.Common.{arith, ◌+◌, refl, ◌∙◌}
use Rattle.std.specs.String.{string_bytes}
use Rattle.tag_machine.specs.Hearing.{tag_value_of}
use Rattle.report_lines.specs.declared.mode.PlayFault.TheVariants.{OutOfMemory}
use Rattle.checked_lines.specs.laws.HandedOn.{handed_on}
use Rattle.bench_lines.specs.Stimuli.{stimulus_with}
use Rattle.bench_lines.specs.Played.{HasPlayed}
use Rattle.bench_lines.proofs.PlayedParts.{all_told, beginning, last_told, no_memory, none_played, one_played, place, some_sent, stop_played}
use Rattle.bench_lines.proofs.playing.play_on.Goals as goal

pub loop-stimulus-init : goal.loop-stimulus-init
loop-stimulus-init g c = record {
  played = λ said are.
      none_played (beginning (tag_value_of c.args.first) said (g.O.Sink.written c.args.out.now) (g.O.Sink.faults c.args.out.now)) c.args.stimuli
      (string_bytes c.args.rooms.now.text) are.say c.requires.nothing;
  steady = refl;
}

pub returns-in_err-tag : goal.returns-in_err-tag
returns-in_err-tag g c = λ said are.
    let begun = beginning (tag_value_of c.args.first) said (g.O.Sink.written c.args.out.now) (g.O.Sink.faults c.args.out.now) in
    let from = place c.loop-stimulus.number (tag_value_of c.loop-stimulus.tag) c.loop-stimulus.left (string_bytes c.loop-stimulus.rooms.text) (g.O.Sink.written c.loop-stimulus.out) in
    let so_far = c.loop-stimulus.invariant.played said are in
    handed_on c.from_residual.result OutOfMemory (HasPlayed begun.first said begun.written _ begun.faults _) c.from_residual.ensures.1
    (stop_played c.stimuli_have_one_effect.ensures.some begun from from.written _ OutOfMemory so_far
    (no_memory from.waiting from.written begun.faults _ c.loop-stimulus.invariant.steady))

pub returns-in_err-write_page : goal.returns-in_err-write_page
returns-in_err-write_page g c = λ said are.
    let begun = beginning (tag_value_of c.args.first) said (g.O.Sink.written c.args.out.now) (g.O.Sink.faults c.args.out.now) in
    let from = place c.loop-stimulus.number (tag_value_of c.loop-stimulus.tag) c.loop-stimulus.left (string_bytes c.loop-stimulus.rooms.text) (g.O.Sink.written c.loop-stimulus.out) in
    let so_far = c.loop-stimulus.invariant.played said are in
    let behind = place (from.number + 1) (tag_value_of c.in_ok-tag.tag) c.next_to.new.self (string_bytes c.play_next.new.self.text) from.written in
    let played = one_played begun from behind.tag behind.left behind.waiting (stimulus_with c.in-Some.stimulus c.next_to.new.command) so_far
    (c.in-Some.ensures.some.1 so_far.left so_far.say) c.in_ok-tag.ensures in
    let cause = c.from_residual-in_err-write_page in
    handed_on cause.result c.in_err-write_page.field-0.0 (HasPlayed begun.first said begun.written _ begun.faults _) cause.ensures.1
    (stop_played c.stimuli_have_one_effect.ensures.some begun behind _ _ c.in_err-write_page.field-0.0 played
    (rw c.loop-stimulus.invariant.steady at c.in_err-write_page.ensures.failed))

pub overflow_add-number : goal.overflow_add-number
overflow_add-number g c =
    let said = c.requires.said in
    let so_far = c.loop-stimulus.invariant.played said.0 said.1 in
    omega (arith, so_far.count, said.1.few)

pub loop-stimulus-preserved : goal.loop-stimulus-preserved
loop-stimulus-preserved g c = record {
  played = λ said are.
      let begun = beginning (tag_value_of c.args.first) said (g.O.Sink.written c.args.out.now) (g.O.Sink.faults c.args.out.now) in
      let from = place c.loop-stimulus.number (tag_value_of c.loop-stimulus.tag) c.loop-stimulus.left (string_bytes c.loop-stimulus.rooms.text) (g.O.Sink.written c.loop-stimulus.out) in
      let so_far = c.loop-stimulus.invariant.played said are in
      let behind = place (from.number + 1) (tag_value_of c.in_ok-tag.tag) c.next_to.new.self (string_bytes c.play_next.new.self.text) from.written in
      let played = one_played begun from behind.tag behind.left behind.waiting (stimulus_with c.in-Some.stimulus c.next_to.new.command) so_far
      (c.in-Some.ensures.some.1 so_far.left so_far.say) c.in_ok-tag.ensures in
      some_sent begun behind _ _ played c.in_ok-write_page.ensures.sent;
  steady = c.in_ok-write_page.ensures.steady ∙ c.loop-stimulus.invariant.steady;
}

pub returns-in_err-tell_tag : goal.returns-in_err-tell_tag
returns-in_err-tell_tag g c = λ said are.
    let begun = beginning (tag_value_of c.args.first) said (g.O.Sink.written c.args.out.now) (g.O.Sink.faults c.args.out.now) in
    let from = place c.loop-stimulus.number (tag_value_of c.loop-stimulus.tag) c.loop-stimulus.left (string_bytes c.loop-stimulus.rooms.text) (g.O.Sink.written c.loop-stimulus.out) in
    let so_far = c.loop-stimulus.invariant.played said are in
    handed_on c.from_residual-in_err-tell_tag.result OutOfMemory (HasPlayed begun.first said begun.written _ begun.faults _) c.from_residual-in_err-tell_tag.ensures.1
    (stop_played c.stimuli_have_one_effect.ensures.some begun from from.written _ OutOfMemory so_far
    (no_memory from.waiting from.written begun.faults _ c.loop-stimulus.invariant.steady))

pub returns : goal.returns
returns g c = λ said are.
    let begun = beginning (tag_value_of c.args.first) said (g.O.Sink.written c.args.out.now) (g.O.Sink.faults c.args.out.now) in
    let from = place c.loop-stimulus.number (tag_value_of c.loop-stimulus.tag) c.loop-stimulus.left (string_bytes c.loop-stimulus.rooms.text) (g.O.Sink.written c.loop-stimulus.out) in
    let so_far = c.loop-stimulus.invariant.played said are in
    let told = all_told begun from _ so_far (c.in_default.ensures.none so_far.left so_far.say) c.in_ok-tell_tag.ensures in
    last_told c.flush.result begun (record from { waiting = _ }) _ _ told c.flush.ensures.sent (rw c.loop-stimulus.invariant.steady at c.flush.ensures.steady)
    (rw c.loop-stimulus.invariant.steady at c.flush.ensures.failed)
