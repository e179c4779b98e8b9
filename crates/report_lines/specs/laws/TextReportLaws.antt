-- What is told as text where no line is told, and the text of lines behind lines.
use Rattle.std.proofs.Common.{◌≡◌, ℕ, List, [], ◌∷◌, ◌++◌, Option, refl, sym, ◌∙◌, ap, append_assoc, arith}
use Rattle.air_io.specs.laws.Flow.{Adds-nothing}
use Rattle.report_lines.specs.ReportLine.{ReportLine}
use Rattle.report_lines.specs.TextReport.{HearsText, spelling_behind, text_from}
use Rattle.report_lines.specs.declared.mode.PlayFault.{PlayFault}

-- no line adds nothing
pub hears-nothing : {S : Type 0} (text_of : S → ReportLine → List ℕ) (behind : S → ReportLine → S) (spelling : S) (fault : Option PlayFault) (written : Option (List ℕ)) (faults : ℕ)
    → HearsText text_of behind [] spelling spelling fault fault written written faults faults
hears-nothing text_of behind spelling fault written faults = record {
  spelled = λ none same. refl;
  text = λ none. record {
    front = [];
    rest = [];
    split = refl;
    whole = λ same. refl;
    added = Adds-nothing written;
    rose = λ same. absurd (cc);
    steady = λ other. refl;
    count = omega arith;
  };
}

-- the text of the lines of a report grows by the text of the lines that come behind them
pub text_from-append : {S : Type 0} (text_of : S → ReportLine → List ℕ) (behind : S → ReportLine → S) (spelling : S) (lines more : List ReportLine)
    → text_from text_of behind spelling (lines ++ more) ≡ text_from text_of behind spelling lines ++ text_from text_of behind (spelling_behind behind spelling lines) more
text_from-append text_of behind spelling [] more = refl
text_from-append text_of behind spelling (first ∷ lines) more =
    ap (λ (text : List ℕ). text_of spelling first ++ text) (text_from-append text_of behind (behind spelling first) lines more)
    ∙ sym (append_assoc (text_of spelling first) (text_from text_of behind (behind spelling first) lines)
    (text_from text_of behind (spelling_behind behind (behind spelling first) lines) more))
