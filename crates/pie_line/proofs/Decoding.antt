-- What a walk over a list of intervals comes to.
use Rattle.std.proofs.Common.{◌≡◌, ℕ, Bool, true, Result, Ok, Err, List, take, drop, subst, inl, take-append-drop}
use Rattle.std.specs.Result.{MatchResult, IfErr, is_err}
use Rattle.std.proofs.lemmas.Bool.{false≢true}
use Rattle.std.proofs.lemmas.Result.{MatchResult-weaker}
use Rattle.bit_strings.specs.BitString.{BitString}
use Rattle.pie_line.specs.declared.frame.FrameKind.{FrameKind}
use Rattle.pie_line.specs.declared.frame.PieRefusal.{PieRefusal}
use Rattle.pie_line.specs.declared.edges.Edge.TheVariants.{Refused}
use Rattle.pie_line.specs.Pie.{IsFrame, Frames}
use Rattle.pie_line.proofs.Frames.{refuses-no_frame}
use Rattle.pie_line.specs.Refusal.{IsFrameRefusedAt, RefusesFrame}
use Rattle.pie_line.specs.Edges.{EdgesValue, IsEdgesAnswer}
use Rattle.pie_line.proofs.Leads.{refused-more}
use Rattle.pie_line.proofs.DecoderStandsFor.{stands-refused}

-- what is refused is no frame
pub refused-no_frame : (result : Result FrameKind PieRefusal) (xs : List ℕ) → is_err result ≡ true → IfErr result (λ refusal. RefusesFrame refusal xs) → ¬ Frames xs
refused-no_frame (Ok kind) xs is err f = false≢true is
refused-no_frame (Err refusal) xs is err f = refuses-no_frame refusal xs err f

-- a refusal before the end of the list is that of the whole list
pub walk_refused : (edges : EdgesValue) (refusal : PieRefusal) (bits : List Bool) (xs : List ℕ) (count : ℕ) →
    IsEdgesAnswer (Refused refusal) edges bits (take count xs) → RefusesFrame refusal xs
walk_refused edges refusal bits xs count a =
    let P : List ℕ → Type 0 = λ zs. (place : ℕ) × IsFrameRefusedAt refusal zs place in
    inl (subst P (take-append-drop count xs) (refused-more refusal (take count xs) (drop count xs) (stands-refused edges refusal bits (take count xs) a.0 a.1)))

-- behind the last interval
pub walk_ended : (result : Result FrameKind PieRefusal) (out : BitString) (xs : List ℕ)
    → MatchResult result (λ kind. IsFrame kind out.items xs) (λ refusal. RefusesFrame refusal xs) → IfErr result (λ refusal. RefusesFrame refusal xs)
walk_ended result out xs m = MatchResult-weaker result m (λ kind f. tt) (λ refusal r. r)
