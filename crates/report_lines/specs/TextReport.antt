-- Profile: what is told, as text that is written line by line.
use Rattle.std.specs.Prelude.{◌≡◌, ◌≢◌, ℕ, ◌≤◌, List, [], ◌∷◌, ◌++◌, Option, Some, None}
use Rattle.air_io.specs.Flow.{Adds, FaultsRose}
use Rattle.report_lines.specs.ReportLine.{ReportLine}
use Rattle.report_lines.specs.declared.mode.PlayFault.{PlayFault}
use Rattle.report_lines.specs.declared.mode.PlayFault.TheVariants.{Write}

-- A text was added behind what a sink had taken first: the whole of it, or where a fault was met a front. A fault in writing is one more
-- failure of the sink, and without one the sink met none.
pub record IsAdded (text : List ℕ) (first written : Option (List ℕ)) (before after : ℕ) (fault : Option PlayFault) : Type 0 where
  pub front : List ℕ
  pub rest : List ℕ
  pub split : text ≡ front ++ rest
  pub whole : fault ≡ None → rest ≡ []
  pub added : Adds first written front
  pub rose : fault ≡ Some Write → FaultsRose before after
  pub steady : fault ≢ Some Write → after ≡ before
  pub count : before ≤ after

-- where a spelling stands behind lines
abbrev pub spelling_behind : {S : Type 0} → (S → ReportLine → S) → S → List ReportLine → S
spelling_behind behind spelling [] = spelling
spelling_behind behind spelling (line ∷ lines) = spelling_behind behind (behind spelling line) lines

-- the text of lines, each spelled as the spelling stands behind those before it
abbrev pub text_from : {S : Type 0} → (S → ReportLine → List ℕ) → (S → ReportLine → S) → S → List ReportLine → List ℕ
text_from text_of behind spelling [] = []
text_from text_of behind spelling (line ∷ lines) = text_of spelling line ++ text_from text_of behind (behind spelling line) lines

-- Since a moment at which no fault had been met, the text of these lines was added, each spelled as the spelling stood.
pub record HearsText {S : Type 0} (text_of : S → ReportLine → List ℕ) (behind : S → ReportLine → S) (lines : List ReportLine) (spelling later : S)
    (was is : Option PlayFault) (first written : Option (List ℕ)) (before after : ℕ) : Type 0 where
  pub spelled : was ≡ None → is ≡ None → later ≡ spelling_behind behind spelling lines
  pub text : was ≡ None → IsAdded (text_from text_of behind spelling lines) first written before after is
