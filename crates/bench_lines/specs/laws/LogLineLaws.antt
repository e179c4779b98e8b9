-- What single lines of logs say, together.
use Rattle.std.specs.Prelude.{◌≡◌, List}
use Rattle.std.specs.List.{AllZip}
use Rattle.bench_lines.specs.ProbeAnswers.{HasEffect}
use Rattle.bench_lines.specs.Stimuli.{Stimulus, StimulusEffect}
use Rattle.bench_lines.specs.laws.ProbeLineLaws.{ProbeLineLaws, TagLineLaws}
use Rattle.bench_lines.specs.laws.SeenLaws.{SeenLaws}

-- what the laws of single lines say, and that what is done to a tag has one effect
pub record LogLineLaws : Type 0 where
  pub lines : ProbeLineLaws
  pub tags : TagLineLaws
  pub seen : SeenLaws
  pub one_effect : (said : List Stimulus) (one other : List StimulusEffect) → AllZip HasEffect said one → AllZip HasEffect said other → one ≡ other
  pub some_effect : (said : List Stimulus) → (effects : List StimulusEffect) × AllZip HasEffect said effects
