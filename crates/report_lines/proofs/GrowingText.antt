-- What is told as text grows by the text of one line more.
use Rattle.std.proofs.Common.{◌≡◌, ℕ, List, [], ◌∷◌, ◌++◌, refl, ◌∙◌, ap}
use Rattle.std.proofs.lemmas.List.{append-nil}
use Rattle.report_lines.specs.ReportLine.{ReportLine}
use Rattle.report_lines.specs.TextReport.{spelling_behind, text_from}
use Rattle.report_lines.specs.laws.TextReportLaws.{text_from-append}

-- where a spelling stands behind one line more
pub spelling_behind-more : {S : Type 0} (behind : S → ReportLine → S) (spelling : S) (lines : List ReportLine) (line : ReportLine)
    → spelling_behind behind spelling (lines ++ line ∷ []) ≡ behind (spelling_behind behind spelling lines) line
spelling_behind-more behind spelling [] line = refl
spelling_behind-more behind spelling (first ∷ lines) line = spelling_behind-more behind (behind spelling first) lines line

-- the text of lines grows by the text of the line that comes behind them
pub text_from-more : {S : Type 0} (text_of : S → ReportLine → List ℕ) (behind : S → ReportLine → S) (spelling : S) (lines : List ReportLine) (line : ReportLine)
    → text_from text_of behind spelling (lines ++ line ∷ []) ≡ text_from text_of behind spelling lines ++ text_of (spelling_behind behind spelling lines) line
text_from-more text_of behind spelling lines line =
    text_from-append text_of behind spelling lines (line ∷ [])
    ∙ ap (λ (text : List ℕ). text_from text_of behind spelling lines ++ text) (append-nil (text_of (spelling_behind behind spelling lines) line))
