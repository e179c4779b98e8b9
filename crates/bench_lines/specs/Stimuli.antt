-- What the lines of a probe say that stand behind that of the tag, and what is then done to the tag.
use Rattle.std.specs.Prelude.{Bool, List}
use Rattle.command_grammar.specs.declared.commands.Command.{Command}
use Rattle.air_events.specs.declared.Event.{Event}
use Rattle.bench_lines.specs.declared.effect.SaidEffect.{SaidEffect}
use Rattle.bench_lines.specs.declared.effect.SaidEffect.TheVariants as said_effects
use Rattle.bench_lines.specs.declared.probe_line.SaidLine.{SaidLine}
use Rattle.bench_lines.specs.declared.probe_line.SaidLine.TheVariants as said_lines
use Rattle.bench_lines.specs.declared.probe_line.SaidStimulus.{SaidStimulus}
use Rattle.bench_lines.specs.declared.probe_line.SaidStimulus.TheVariants as said_stimuli

-- what is done to the tag
pub data Stimulus : Type 0 where
  -- the command is sent (6.3.2.11 Interrogator commands and tag replies)
  SendsCommand : (command : Command) → Stimulus
  -- these bits are sent
  SendsBits : (bits : List Bool) → Stimulus
  -- this befalls the tag
  Brings : (event : Event) → Stimulus

-- what a line says
pub data ProbeLine : Type 0 where
  -- this is done to the tag
  Does : (stimulus : Stimulus) → ProbeLine
  -- nothing more is done
  End : ProbeLine

-- what is done to the tag, where bits are looked at
pub data StimulusEffect : Type 0 where
  -- the tag hears this command
  Hears : (command : Command) → StimulusEffect
  -- this event befalls the tag
  Befalls : (event : Event) → StimulusEffect
  -- nothing: the tag hears no command
  Nothing : StimulusEffect

-- each of these by what a call gives that puts a command into a room which is lent
abbrev pub stimulus_with : SaidStimulus → Command → Stimulus
stimulus_with said_stimuli.Command command = SendsCommand command
stimulus_with (said_stimuli.Bits bits) command = SendsBits bits
stimulus_with (said_stimuli.Event event) command = Brings event

abbrev pub probe_line_with : SaidLine → Command → ProbeLine
probe_line_with (said_lines.Stimulus stimulus) command = Does (stimulus_with stimulus command)
probe_line_with said_lines.End command = End

abbrev pub effect_with : SaidEffect → Command → StimulusEffect
effect_with said_effects.Hears command = Hears command
effect_with (said_effects.Befalls event) command = Befalls event
effect_with said_effects.Nothing command = Nothing
