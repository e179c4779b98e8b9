use Rattle.bench_lines.specs.ProbeAnswers.{probed_tag}
use Rattle.bench_lines.proofs.PlayedParts.{nothing_played}
use Rattle.bench_lines.proofs.playing.play.Goals as goal

pub returns-in_err-tag : goal.returns-in_err-tag
returns-in_err-tag g c = λ said are.
    nothing_played c.stimuli_have_one_effect.ensures.some c.from_residual.result (probed_tag c.args.probe.tag) said (g.O.Sink.written c.args.out.now) (g.O.Sink.faults c.args.out.now)
    c.from_residual.ensures.1

pub returns-in_err-rooms : goal.returns-in_err-rooms
returns-in_err-rooms g c = λ said are.
    nothing_played c.stimuli_have_one_effect.ensures.some c.from_residual-in_err-rooms.result (probed_tag c.args.probe.tag) said (g.O.Sink.written c.args.out.now) (g.O.Sink.faults c.args.out.now)
    c.from_residual-in_err-rooms.ensures.1
