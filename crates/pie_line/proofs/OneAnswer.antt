-- What the intervals are is what is answered.
use Rattle.std.proofs.Common.{◌≡◌, ℕ, Bool, List, Result, Ok, Err, ap, inl}
use Rattle.std.specs.Result.{MatchResult}
use Rattle.bit_strings.specs.Family.{Begins}
use Rattle.bit_strings.specs.laws.Family.{begins-take}
use Rattle.pie_line.specs.declared.frame.FrameKind.{FrameKind}
use Rattle.pie_line.specs.declared.frame.PieRefusal.{PieRefusal}
use Rattle.pie_line.specs.declared.edges.Edge.{Edge}
use Rattle.pie_line.specs.declared.edges.Edge.TheVariants.{More, Bit, Refused}
use Rattle.pie_line.specs.Pie.{Frames, IsFrame}
use Rattle.pie_line.specs.Refusal.{IsFrameRefusedAt, RefusesFrame}
use Rattle.pie_line.specs.Edges.{EdgesValue, IsEdgesAnswer}
use Rattle.pie_line.proofs.Frames.{frame-one, refuses-no_frame, refusal-one}
use Rattle.pie_line.proofs.Leads.{standing-begins}
use Rattle.pie_line.proofs.DecoderStandsFor.{stands-refused}

-- what begins a frame is refused at no place
begins-not_refused : (xs : List ℕ) (refusal : PieRefusal) (place : ℕ) → Begins Frames xs → IsFrameRefusedAt refusal xs place → ⊥
begins-not_refused xs refusal place begins refused = refused.bad.stops (begins-take Frames _ xs begins)

-- intervals that are refused at a place are refused by the answer
pub refused_so : (answer : Edge) (edges : EdgesValue) (bits : List Bool) (xs : List ℕ) (refusal : PieRefusal) (place : ℕ)
    → IsEdgesAnswer answer edges bits xs → IsFrameRefusedAt refusal xs place → answer ≡ Refused refusal
refused_so More edges bits xs refusal place is refused =
    absurd (begins-not_refused xs refusal place ((standing-begins edges.standing edges.count bits xs is.1).0 is.0) refused)
refused_so (Bit bit) edges bits xs refusal place is refused =
    absurd (begins-not_refused xs refusal place ((standing-begins edges.standing edges.count _ xs is.1).0 is.0) refused)
refused_so (Refused other) edges bits xs refusal place is refused =
    ap (λ (r : PieRefusal). Refused r) (refusal-one xs other refusal (inl (stands-refused edges other bits xs is.0 is.1)) (inl (place, refused)))

-- the intervals are a frame, or the refusal is theirs
abbrev pub IsAnswer : Result FrameKind PieRefusal → List Bool → List ℕ → Type 0
IsAnswer answer bits xs = MatchResult answer (λ kind. IsFrame kind bits xs) (λ refusal. RefusesFrame refusal xs)

pub only_frame : (answer : Result FrameKind PieRefusal) (bits read : List Bool) (xs : List ℕ) (kind : FrameKind)
    → IsAnswer answer bits xs → IsFrame kind read xs → (answer ≡ Ok kind) × (bits ≡ read)
only_frame (Ok other) bits read xs kind is frame =
    let one = frame-one other kind bits read xs is frame in
    (ap (λ (k : FrameKind). Ok k) one.0, one.1)
only_frame (Err refusal) bits read xs kind is frame = absurd (refuses-no_frame refusal xs is (kind, read, frame))

pub only_refusal : (answer : Result FrameKind PieRefusal) (bits : List Bool) (xs : List ℕ) (refusal : PieRefusal)
    → IsAnswer answer bits xs → RefusesFrame refusal xs → answer ≡ Err refusal
only_refusal (Ok kind) bits xs refusal is refuses = absurd (refuses-no_frame refusal xs refuses (kind, bits, is))
only_refusal (Err other) bits xs refusal is refuses = ap (λ (r : PieRefusal). Err r) (refusal-one xs other refusal is refuses)
