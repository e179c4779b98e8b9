-- What is told to a report of a mode, line by line, comes to its one text.
use Rattle.std.proofs.Common.{◌≡◌, ◌≢◌, inl, inr, ℕ, List, [], ◌∷◌, ◌++◌, refl, ap, ◌∙◌}
use Rattle.std.specs.Prelude.{filter}
use Rattle.std.proofs.lemmas.Bool.{cases_Bool}
use Rattle.pie_line.specs.Link.{LinkValue}
use Rattle.wave_dump.specs.DumpValue.{DrawingValue}
use Rattle.wave_dump.specs.Waves.{new_dump}
use Rattle.report_lines.specs.ModeLines.{keeps, kept_line_text, kept_text, line_text_of}
use Rattle.report_lines.specs.ReportLine.{ReportLine, text_by}
use Rattle.report_lines.specs.ModeSpelling.{drawing_after, drawn_line, drawn_text, line_of_mode, mode_behind, new_spelling, text_in, SpellingValue}
use Rattle.report_lines.specs.TextReport.{text_from}
use Rattle.report_lines.specs.declared.mode.Mode.{Mode}
use Rattle.report_lines.specs.declared.mode.Mode.TheVariants.{Vcd}

abbrev spelling_of : Mode → DrawingValue → SpellingValue
spelling_of mode drawing = record { mode = mode; dump = drawing }

-- the text of the lines that a mode keeps
kept : (mode : Mode) (lines : List ReportLine) → kept_text mode lines ≡ text_by (line_text_of mode) (filter (keeps mode) lines)
kept mode [] = refl
kept mode (line ∷ lines) = elim (cases_Bool (keeps mode line)) [
  | inl is ↦ rw is (ap (λ (text : List ℕ). line_text_of mode line ++ text) (kept mode lines))
  | inr is ↦ rw is (kept mode lines)
]

-- a mode that is no dump spells each line in the one way
told : (mode : Mode) (drawing : DrawingValue) (lines : List ReportLine) → mode ≢ Vcd → text_from line_of_mode mode_behind (spelling_of mode drawing) lines ≡ kept_text mode lines
told Vcd drawing lines other = absurd (other refl)
told mode drawing [] other = refl
told mode drawing (line ∷ lines) other = ap (λ (text : List ℕ). kept_line_text mode line ++ text) (told mode drawing lines other)

-- a dump is drawn of all lines
drawn : (drawing : DrawingValue) (lines : List ReportLine) → text_from line_of_mode mode_behind (spelling_of Vcd drawing) lines ≡ drawn_text drawing (filter (keeps Vcd) lines)
drawn drawing [] = refl
drawn drawing (line ∷ lines) = ap (λ (text : List ℕ). drawn_line drawing line ++ text) (drawn (drawing_after drawing line) lines)

-- what is written of lines that are told is the text of those that the mode keeps
pub told-in-mode : (mode : Mode) (link : LinkValue) (lines : List ReportLine)
    → text_from line_of_mode mode_behind (new_spelling mode link) lines ≡ text_in mode link (filter (keeps mode) lines)
told-in-mode Vcd link lines = drawn (record { link = link; dump = new_dump link }) lines
told-in-mode mode link lines = told mode (record { link = link; dump = new_dump link }) lines (λ same. cc) ∙ kept mode lines
