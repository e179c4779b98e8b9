-- The fields of a line begin with its keyword, and have the shape that belongs to it.
use Rattle.std.proofs.Common.{◌≡◌, ℕ, List, ◌∷◌, refl, sym, ◌∙◌}
use Rattle.std.specs.Fmt.{decimal}
use Rattle.std.specs.Prelude.{All}
use Rattle.std.proofs.lemmas.List.Elements.{All-head, All-weaker}
use Rattle.text_fields.specs.Lines.{IsFieldText}
use Rattle.scenario_lines.specs.declared.line.Line.{Line}
use Rattle.scenario_lines.specs.declared.line.Line.TheVariants as lines
use Rattle.scenario_lines.specs.declared.keywords.Keyword.{Keyword}
use Rattle.scenario_lines.specs.declared.keywords.Keyword.TheVariants as keywords
use Rattle.scenario_lines.specs.Names.{air_kind, air_word, event_kind, op_kind, keyword_text}
use Rattle.scenario_lines.specs.LineForm.{HasForm}
use Rattle.scenario_lines.specs.LineFaults.{BeginsWithKeyword, HasKnownKind, HasShape}
use Rattle.scenario_lines.specs.Spelling.{happening_fields, other_fields, keyword_of}
use Rattle.text_fields.proofs.FilledFields.{Filled}
use Rattle.scenario_lines.proofs.AirFields.{event_filled, happening_filled}
use Rattle.scenario_lines.proofs.OpFields.{op_filled}
use Rattle.scenario_lines.proofs.LineTexts.{other_texts}
use Rattle.scenario_lines.proofs.ToldLines.{same_fields}
use Rattle.scenario_lines.proofs.ToldNames.{keyword_told}

pub begins_once : (fields : List (List ℕ)) (one other : Keyword) → BeginsWithKeyword fields one → BeginsWithKeyword fields other → one ≡ other
begins_once fields one other begins begins' =
    keyword_told one other (same_fields (keyword_text one) (keyword_text other) begins.others begins'.others (sym begins.first ∙ begins'.first)).0

-- fields of the right shape have a known kind
pub shaped_known : (keyword : Keyword) (others : List (List ℕ)) → HasShape keyword others → HasKnownKind keyword others
shaped_known keywords.Air (exchange ∷ kind ∷ others) shape = (shape.1, shape.2)
shaped_known keywords.Event (kind ∷ others) shape = (shape.0, shape.1)
shaped_known keywords.Op (kind ∷ others) shape = (shape.0, shape.1)
shaped_known keywords.Air others shape = absurd shape
shaped_known keywords.Event others shape = absurd shape
shaped_known keywords.Op others shape = absurd shape
shaped_known keyword others shape = tt

filled : (line : Line) → HasForm line → All Filled (other_fields line)
filled line form = All-weaker IsFieldText Filled (λ field is. is.filled) (other_fields line) (other_texts line form).are

-- a line whose fields are of their forms has the shape of its keyword
pub line_shape : (line : Line) → HasForm line → HasShape (keyword_of line) (other_fields line)
line_shape (lines.Air exchange happening) form =
    let first = All-head Filled (decimal exchange) (air_word (air_kind happening) ∷ happening_fields happening) (filled (lines.Air exchange happening) form) in
    (first, air_kind happening, refl, happening_filled happening form.1)
line_shape (lines.Event event tag) form = (event_kind event, refl, event_filled event tag form)
line_shape (lines.Op op) form = (op_kind op, refl, op_filled op form)
line_shape line form = record { number = refl; filled = filled line form }
