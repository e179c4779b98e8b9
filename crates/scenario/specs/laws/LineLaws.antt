-- What the laws of scenario_lines say of lines: each field holds what the function of its name ensures.
use Rattle.std.specs.Prelude.{◌≡◌, ◌⊎◌, ℕ, List, All}
use Rattle.text_fields.specs.Lines.{IsFieldText}
use Rattle.scenario_lines.specs.declared.keywords.Keyword.{Keyword}
use Rattle.scenario_lines.specs.declared.line.Line.{Line}
use Rattle.checked_lines.specs.declared.fault.FaultReason.{FaultReason}
use Rattle.checked_lines.specs.declared.fault.FaultReason.TheVariants.{Word}
use Rattle.scenario_lines.specs.LineForm.{IsLine}
use Rattle.scenario_lines.specs.LineFaults.{BeginsWithKeyword, IsFaultyLine}
use Rattle.scenario_lines.specs.SpelledLines.{SpellsLine}
use Rattle.scenario_lines.specs.Spelling.{line_fields}

pub record LineLaws : Type 0 where
  pub lines_are_field_texts : (line : Line) → IsLine line → All IsFieldText (line_fields line)
  pub lines_are_told_apart : (fields : List (List ℕ)) (one other : Line) → SpellsLine fields one → SpellsLine fields other → one ≡ other
  pub lines_begin_with_one_keyword : (fields : List (List ℕ)) (one other : Keyword) → BeginsWithKeyword fields one → BeginsWithKeyword fields other → one ≡ other
  pub spelled_lines_are_not_faulty : (fields : List (List ℕ)) (line : Line) (fault : FaultReason) → SpellsLine fields line → IsFaultyLine fields fault → ⊥
  pub lines_have_one_fault : (fields : List (List ℕ)) (one other : FaultReason) → IsFaultyLine fields one → IsFaultyLine fields other → one ≡ other
  pub lines_begin_or_are_faulty : (fields : List (List ℕ)) → ((keyword : Keyword) × BeginsWithKeyword fields keyword) ⊎ IsFaultyLine fields Word
  pub lines_say_something_or_are_faulty : (fields : List (List ℕ)) → ((line : Line) × SpellsLine fields line) ⊎ ((fault : FaultReason) × IsFaultyLine fields fault)
