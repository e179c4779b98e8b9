-- Profile: which lines begin the text of a scenario.
use Rattle.std.specs.Prelude.{◌≡◌, ℕ, ◌<◌, List, ◌++◌, length, map, take}
use Rattle.text_fields.specs.Lines.{lines_of}
use Rattle.scenario_lines.specs.declared.line.Line.{Line}
use Rattle.scenario_lines.specs.Spelling.{line_text}
use Rattle.scenario.specs.declared.values.Scenario.{Scenario}
use Rattle.scenario.specs.ScenarioText.{scenario_lines}
use Rattle.scenario.specs.Limits.{IsScenario}

-- the lines are the first lines of some scenario that keeps the limits
pub record BeginsScenario (said : List Line) : Type 0 where
  pub scenario : Scenario
  pub is : IsScenario scenario
  pub more : List Line
  pub lines : scenario_lines scenario ≡ said ++ more

-- the lines are the first lines of the text of some scenario that keeps the limits
pub record BeginsText (lines : List (List ℕ)) : Type 0 where
  pub scenario : Scenario
  pub is : IsScenario scenario
  pub more : List (List ℕ)
  pub texts : map line_text (scenario_lines scenario) ≡ lines ++ more

-- Each of the first so many lines of the bytes has its line feed, and they begin the text of some scenario. The last of
-- `lines_of` is the one without a line feed: it is unended, or missing where it is empty, and is counted as a line that no
-- text has.
pub record FirstLinesBegin (bytes : List ℕ) (number : ℕ) : Type 0 where
  pub ended : number < length (lines_of bytes)
  pub begins : BeginsText (take number (lines_of bytes))
