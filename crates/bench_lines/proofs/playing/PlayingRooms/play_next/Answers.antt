use Rattle.std.proofs.Common.{[]}
use Rattle.std.specs.Prelude.{None}
use Rattle.std.specs.String.{string_bytes}
use Rattle.tag_machine.specs.Hearing.{tag_value_of}
use Rattle.bench_lines.specs.Stimuli.{effect_with, stimulus_with}
use Rattle.bench_lines.proofs.PlayedParts.{tells_next}
use Rattle.bench_lines.proofs.playing.PlayingRooms.play_next.Goals as goal

pub returns : goal.returns
returns g c =
    tells_next c.respond.result
    (record { number = c.args.number; tag = tag_value_of c.args.tag; left = []; waiting = string_bytes c.args.self.now.text; written = None })
    (stimulus_with c.args.stimulus c.args.self.now.command)
    (effect_with c.effect_of-effect.result c.effect_of-effect.new.command, c.effect_of-effect.ensures.effect) _ c.respond.ensures.tag c.respond.ensures.text
