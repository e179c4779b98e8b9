-- Lines as they are spelled, and where they lead by the rules of a text.
use Rattle.std.proofs.Common.{◌≡◌, ℕ, List, [], ◌∷◌, ◌++◌, map, refl, sym, ◌∙◌, ap, ap₂, subst, append_assoc}
use Rattle.std.specs.Prelude.{All}
use Rattle.std.specs.List.{join_with_byte}
use Rattle.std.proofs.lemmas.List.Elements.{All-cons, All-nil, All-weaker}
use Rattle.std.proofs.lemmas.List.Splits.{join_with_byte-slice_split}
use Rattle.text_fields.specs.Lines.{IsFieldText, Lacks, fields_of, line_feed, line_with, lines_of, space, text_with}
use Rattle.text_fields.proofs.LineLaws.{fields_come_back, line_lacks as fields_lack, lines_come_back}
use Rattle.checked_lines.specs.TextRules.{Lead}
use Rattle.scenario_lines.specs.declared.line.Line.{Line}
use Rattle.scenario_lines.specs.LineForm.{IsLine}
use Rattle.scenario_lines.specs.Spelling.{line_fields, line_text}
use Rattle.scenario_lines.specs.SpelledLines.{SpellsLine}
use Rattle.scenario.specs.laws.LineLaws.{LineLaws}
use Rattle.scenario.specs.Standing.{LinesLead, ScenarioStanding, standing_after}
use Rattle.scenario.specs.Faults.{LeadsBy, scenario_rules}

-- the fields of a line that is spelled
fields_spelled : LineLaws → (said : Line) → IsLine said → fields_of (line_text said) ≡ line_fields said
fields_spelled laws said is =
    fields_come_back (line_fields said) (λ none. cc)
    (All-weaker IsFieldText (Lacks space) (λ field text. text.no_space) (line_fields said) (laws.lines_are_field_texts said is))

-- a line that spells something is its text
pub text_spelled : (line : List ℕ) (said : Line) → SpellsLine (fields_of line) said → line ≡ line_text said
text_spelled line said spells = sym (join_with_byte-slice_split space line) ∙ ap line_with spells.spelling

pub spells_text : LineLaws → (said : Line) → IsLine said → SpellsLine (fields_of (line_text said)) said
spells_text laws said is = record { spelling = fields_spelled laws said is; is = is }

line_lacks : LineLaws → (said : Line) → IsLine said → Lacks line_feed (line_text said)
line_lacks laws said is =
    fields_lack (line_fields said)
    (All-weaker IsFieldText (Lacks line_feed) (λ field text. text.no_line_feed) (line_fields said) (laws.lines_are_field_texts said is))

leads_lack : LineLaws → (from to : ScenarioStanding) (said : List Line) → LinesLead from said to → All (Lacks line_feed) (map line_text said)
leads_lack laws from to [] leads = All-nil (Lacks line_feed)
leads_lack laws from to (line ∷ said) leads =
    All-cons (Lacks line_feed) (line_text line) (map line_text said) (line_lacks laws line leads.0.is) (leads_lack laws (standing_after from line) to said leads.1)

-- the lines of a text of lines that follow one another
pub lines_said : LineLaws → (from to : ScenarioStanding) (said : List Line) → LinesLead from said to
    → lines_of (text_with (map line_text said)) ≡ map line_text said ++ [] ∷ []
lines_said laws from to said leads = lines_come_back (map line_text said) (leads_lack laws from to said leads)

-- ... which lead on
pub lines_lead : LineLaws → (from to : ScenarioStanding) (said : List Line) → LinesLead from said to → Lead scenario_rules from (map line_text said) to
lines_lead laws from to [] leads = leads
lines_lead laws from to (line ∷ said) leads = (
  standing_after from line,
  record { said = line; spells = spells_text laws line leads.0.is; follows = leads.0; leads = refl },
  lines_lead laws (standing_after from line) to said leads.1,
)

-- lines that lead on are the spellings of lines that follow one another
pub record Settles (from : ScenarioStanding) (before : List (List ℕ)) (to : ScenarioStanding) : Type 0 where
  pub said : List Line
  pub spelling : before ≡ map line_text said
  pub leads : LinesLead from said to

pub lead_settles : (from to : ScenarioStanding) (before : List (List ℕ)) → Lead scenario_rules from before to → Settles from before to
lead_settles from to [] lead = record { said = []; spelling = refl; leads = lead }
lead_settles from to (line ∷ before) lead =
    let first : LeadsBy from line lead.0 = lead.1 in
    let rest = lead_settles (standing_after from first.said) to before
    (subst (λ (s : ScenarioStanding). Lead scenario_rules s before to) (sym first.leads) lead.2) in
    record {
      said = first.said ∷ rest.said;
      spelling = ap₂ (λ (l : List ℕ) (ls : List (List ℕ)). l ∷ ls) (text_spelled line first.said first.spells) rest.spelling;
      leads = (first.follows, rest.leads);
    }

join_lines : (lines : List (List ℕ)) → join_with_byte line_feed (lines ++ [] ∷ []) ≡ text_with lines
join_lines [] = refl
join_lines (line ∷ []) = sym (append_assoc line (line_feed ∷ []) [])
join_lines (line ∷ next ∷ lines) =
    ap (λ (rest : List ℕ). line ++ line_feed ∷ rest) (join_lines (next ∷ lines))
    ∙ sym (append_assoc line (line_feed ∷ []) (text_with (next ∷ lines)))

-- a text is that of its lines
pub text_of_lines : (text : List ℕ) (lines : List (List ℕ)) → lines_of text ≡ lines ++ [] ∷ [] → text ≡ text_with lines
text_of_lines text lines cut = sym (join_with_byte-slice_split line_feed text) ∙ ap (join_with_byte line_feed) cut ∙ join_lines lines
