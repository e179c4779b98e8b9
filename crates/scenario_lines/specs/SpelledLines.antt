-- Profile: which fields spell a line that may stand in a scenario.
use Rattle.std.specs.Prelude.{◌≡◌, ℕ, List}
use Rattle.scenario_lines.specs.declared.keywords.Keyword.{Keyword}
use Rattle.scenario_lines.specs.declared.line.Line.{Line}
use Rattle.scenario_lines.specs.LineForm.{IsLine}
use Rattle.scenario_lines.specs.Spelling.{keyword_of, other_fields, line_fields}

-- behind this first field, these fields spell the line, which may stand in a scenario
pub record SpellsBehind (first : Keyword) (others : List (List ℕ)) (line : Line) : Type 0 where
  pub same_keyword : keyword_of line ≡ first
  pub spelling : others ≡ other_fields line
  pub is : IsLine line

-- the fields spell the line, which may stand in a scenario
pub record SpellsLine (fields : List (List ℕ)) (line : Line) : Type 0 where
  pub spelling : fields ≡ line_fields line
  pub is : IsLine line
