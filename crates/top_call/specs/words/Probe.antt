-- Profile: what `probe` writes for the bytes that it read. The whole input is checked before a line is written.
use Rattle.std.specs.Prelude.{ℕ, true, List}
use Rattle.checked_lines.specs.TextRules.{IsFaultText}
use Rattle.scenario_lines.specs.declared.tag.TagSpec.{TagSpec}
use Rattle.bench_lines.specs.Stimuli.{Stimulus}
use Rattle.bench_lines.specs.ProbeAnswers.{TellsEffects, probed_tag}
use Rattle.bench_lines.specs.ProbeText.{IsProbe, IsProbeText, probe_rules}
use Rattle.top_call.specs.Job.{Job}

-- the text tells what comes of what the bytes say, done to the tag that they give
pub record TellsProbe (bytes text : List ℕ) : Type 0 where
  pub tag : TagSpec
  pub said : List Stimulus
  pub is : IsProbe bytes tag said
  pub tells : TellsEffects (probed_tag tag) said text

-- the text is the fault line of bytes that are no probe
abbrev pub RefusesProbe : (bytes text : List ℕ) → Type 0
RefusesProbe bytes text = IsFaultText probe_rules bytes text

-- what comes of what is done to one tag
abbrev pub probe_job : Job
probe_job = record {
  input = true;
  allows = IsProbeText;
  writes = TellsProbe;
  refuses = RefusesProbe;
  promises = λ bytes text. Unit {0};
}
