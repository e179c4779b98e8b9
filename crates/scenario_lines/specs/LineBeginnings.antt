-- The fields of each line of a scenario begin with its keyword, and with a kind of it where it has kinds.
use Rattle.std.proofs.Common.{List, ℕ, refl, subst, sym}
use Rattle.scenario_lines.specs.declared.line.Line.{Line}
use Rattle.scenario_lines.specs.declared.line.Line.TheVariants as lines
use Rattle.scenario_lines.specs.Names.{air_kind, event_kind, op_kind}
use Rattle.scenario_lines.specs.LineFaults.{BeginsWithKeyword, HasKnownKind}
use Rattle.scenario_lines.specs.SpelledLines.{SpellsLine}
use Rattle.scenario_lines.specs.Spelling.{line_fields, other_fields, keyword_of}

-- the kind of a scenario's line is one of its keyword's kinds
known_kind : (line : Line) → HasKnownKind (keyword_of line) (other_fields line)
known_kind (lines.Air exchange happening) = (air_kind happening, refl)
known_kind (lines.Event event tag) = (event_kind event, refl)
known_kind (lines.Op op) = (op_kind op, refl)
known_kind line = tt

pub begins : (line : Line) → BeginsWithKeyword (line_fields line) (keyword_of line)
begins line = record { others = other_fields line; first = refl; kind = known_kind line }

pub spelled_begins : (fields : List (List ℕ)) (line : Line) → SpellsLine fields line → BeginsWithKeyword fields (keyword_of line)
spelled_begins fields line spells = subst (λ it. BeginsWithKeyword it (keyword_of line)) (sym spells.spelling) (begins line)
