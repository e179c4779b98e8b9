-- What is counted of lines is counted line by line.
use Rattle.std.proofs.Common.{◌≡◌, true, List, [], ◌∷◌, ◌++◌, refl, sym, ◌∙◌, ap, subst, arith}
use Rattle.air_world.specs.Counting.{CountsLines, Fits, counted_line, counted_lines}
use Rattle.report_lines.specs.ModeLines.{is_of_exchanges, is_of_trace}
use Rattle.report_lines.specs.ReportLine.{ReportLine, BlfLine, ExchangeLine, MissedLine, AnswerLine, GivenLine, TxLine, RxLine, ListLine, RoundLine, SeenLine, TagLine}
use Rattle.runs.specs.declared.summary.Summary.{Summary}

-- what is counted of lines, and of lines behind them
pub counted-append : (counted : Summary) (lines more : List ReportLine) → counted_lines counted (lines ++ more) ≡ counted_lines (counted_lines counted lines) more
counted-append counted [] more = refl
counted-append counted (line ∷ lines) more = counted-append (counted_line counted line) lines more

-- what has room with one line more had room before
fits-before : (counted : Summary) (line : ReportLine) → Fits (counted_line counted line) → Fits counted
fits-before counted (ListLine round slot pc epc) fits = record { tags = fits.tags; listed = omega (arith, fits.listed); distinct = fits.distinct; slots = fits.slots }
fits-before counted (RoundLine round end slots) fits = record { tags = fits.tags; listed = fits.listed; distinct = fits.distinct; slots = omega (arith, fits.slots) }
fits-before counted (SeenLine count pc epc) fits = record { tags = fits.tags; listed = fits.listed; distinct = omega (arith, fits.distinct); slots = fits.slots }
fits-before counted (TagLine number tag) fits = record { tags = omega (arith, fits.tags); listed = fits.listed; distinct = fits.distinct; slots = fits.slots }
fits-before counted line fits = fits

-- who counts a line more counts it behind the lines before
pub counts-more : (lines : List ReportLine) (first old new : Summary) (line : ReportLine) → CountsLines lines first old → (Fits (counted_line old line) → new ≡ counted_line old line)
    → CountsLines (lines ++ line ∷ []) first new
counts-more lines first old new line counts more = record {
  counted = λ fits.
      let joined = counted-append first lines (line ∷ []) in
      let there : Fits (counted_line (counted_lines first lines) line) = subst Fits joined fits in
      let is : old ≡ counted_lines first lines = counts.counted (fits-before (counted_lines first lines) line there) in
      more (subst (λ (s : Summary). Fits (counted_line s line)) (sym is) there) ∙ ap (λ (s : Summary). counted_line s line) is ∙ sym joined;
}

-- no line that says who said what in an exchange is counted
pub uncounted : (counted : Summary) (line : ReportLine) → is_of_exchanges line ≡ true → counted ≡ counted_line counted line
uncounted counted (ExchangeLine exchange command) is = refl
uncounted counted (MissedLine exchange tag) is = refl
uncounted counted (AnswerLine exchange tag extended reply) is = refl
uncounted counted (GivenLine exchanged) is = refl
uncounted counted line is = absurd (cc)

-- nor is one that a trace alone has
pub uncounted-frame : (counted : Summary) (line : ReportLine) → is_of_trace line ≡ true → counted ≡ counted_line counted line
uncounted-frame counted (BlfLine numerator denominator) is = refl
uncounted-frame counted (TxLine exchange intervals) is = refl
uncounted-frame counted (RxLine exchange count levels) is = refl
uncounted-frame counted line is = absurd (cc)
