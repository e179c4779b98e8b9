-- A line without a text makes no difference.
use Rattle.std.proofs.Common.{◌≡◌, inl, inr, ℕ, List, [], ◌∷◌, ◌++◌, Option, sym, ap, ◌∙◌, subst}
use Rattle.std.proofs.lemmas.List.{append-nil}
use Rattle.report_lines.proofs.Adding.{added-nothing, met-or-not}
use Rattle.report_lines.specs.ReportLine.{ReportLine}
use Rattle.report_lines.specs.TextReport.{HearsText, IsAdded, spelling_behind, text_from}
use Rattle.report_lines.specs.declared.mode.PlayFault.{PlayFault}
use Rattle.report_lines.proofs.GrowingText.{spelling_behind-more, text_from-more}

-- a line more that has no text, and behind which the spelling stands as before
pub hears-skipped : {S : Type 0} (text_of : S → ReportLine → List ℕ) (behind : S → ReportLine → S) (lines : List ReportLine) (line : ReportLine) (spelling later : S)
    (was is : Option PlayFault) (first written : Option (List ℕ)) (before after : ℕ) → (text_of later line ≡ []) × (behind later line ≡ later)
    → HearsText text_of behind lines spelling later was is first written before after
    → HearsText text_of behind (lines ++ line ∷ []) spelling later was is first written before after
hears-skipped text_of behind lines line spelling later was is first written before after still heard =
    let told : List ℕ = text_from text_of behind spelling lines in
    let more = text_from-more text_of behind spelling lines line in
    record {
      spelled = λ unfailed none. sym still.1 ∙ ap (λ s. behind s line) (heard.spelled unfailed none) ∙ sym (spelling_behind-more behind spelling lines line);
      text = λ unfailed. elim (met-or-not is) [
        | inl none ↦
            let same : told ≡ text_from text_of behind spelling (lines ++ line ∷ []) =
            sym (append-nil told) ∙ ap (λ (text : List ℕ). told ++ text) (sym still.0 ∙ ap (λ s. text_of s line) (heard.spelled unfailed none)) ∙ sym more in
            subst (λ (text : List ℕ). IsAdded text first written before after is) same (heard.text unfailed)
        | inr met ↦
            subst (λ (text : List ℕ). IsAdded text first written before after is)
            (sym more) (added-nothing told (text_of (spelling_behind behind spelling lines) line) first written before after is met (heard.text unfailed))
      ];
    }
