-- A list of intervals is one frame at most, none where it is refused, and is refused in one way.
use Rattle.std.proofs.Common.{◌≡◌, ℕ, Bool, List, [], ◌∷◌, refl, sym, ◌∙◌, ap, inl, inr, arith}
use Rattle.std.specs.Prelude.{slice_index}
use Rattle.bit_strings.specs.laws.Family.{bad-one, member-not_bad, short-not_bad}
use Rattle.pie_line.specs.declared.frame.FrameKind.{FrameKind}
use Rattle.pie_line.specs.declared.frame.FrameKind.TheVariants.{Preamble, FrameSync}
use Rattle.pie_line.specs.declared.frame.PieRefusal.{PieRefusal}
use Rattle.pie_line.specs.declared.frame.PieRefusal.TheVariants.{Unfinished}
use Rattle.pie_line.specs.Pie.{IsFrame, Frames, HasSums, pair_sums}
use Rattle.pie_line.specs.Refusal.{RefusesFrame, refusal_at}

-- the sums tell the header and the bits
sums-one : (k k' : FrameKind) (b b' : List Bool) (sums : List ℕ) → HasSums k b sums → HasSums k' b' sums → (k ≡ k') × (b ≡ b')
sums-one (FrameSync t r) (FrameSync t' r') b b' (t0 ∷ r0 ∷ sums) f g =
    (rw (← f.tari_is, ← f.rtcal_is, ← g.tari_is, ← g.rtcal_is) refl, rw (f.symbols.told, g.symbols.told) refl)
sums-one (Preamble t r c) (Preamble t' r' c') b b' (t0 ∷ r0 ∷ c0 ∷ sums) f g =
    (rw (← f.tari_is, ← f.rtcal_is, ← f.trcal_is, ← g.tari_is, ← g.rtcal_is, ← g.trcal_is) refl, rw (f.symbols.told, g.symbols.told) refl)
sums-one (FrameSync t r) (Preamble t' r' c') b b' (t0 ∷ r0 ∷ c0 ∷ sums) f g = absurd (omega arith)
sums-one (Preamble t r c) (FrameSync t' r') b b' (t0 ∷ r0 ∷ c0 ∷ sums) f g = absurd (omega arith)
sums-one (FrameSync t r) k' b b' [] f g = absurd f
sums-one (FrameSync t r) k' b b' (t0 ∷ []) f g = absurd f
sums-one (FrameSync t r) (Preamble t' r' c') b b' (t0 ∷ r0 ∷ []) f g = absurd g
sums-one (Preamble t r c) k' b b' [] f g = absurd f
sums-one (Preamble t r c) k' b b' (t0 ∷ []) f g = absurd f
sums-one (Preamble t r c) k' b b' (t0 ∷ r0 ∷ []) f g = absurd f

pub frame-one : (k k' : FrameKind) (b b' : List Bool) (xs : List ℕ) → IsFrame k b xs → IsFrame k' b' xs → (k ≡ k') × (b ≡ b')
frame-one k k' b b' [] f g = absurd f
frame-one k k' b b' (d ∷ xs) f g = sums-one k k' b b' (pair_sums xs) f.2 g.2

pub refuses-no_frame : (refusal : PieRefusal) (xs : List ℕ) → RefusesFrame refusal xs → ¬ Frames xs
refuses-no_frame refusal xs (inl r) f = member-not_bad Frames xs r.0 f r.1.bad
refuses-no_frame refusal xs (inr r) f = r.1.short.no_member f

-- the refusal is that of the place or of the length
pub refusal-one : (xs : List ℕ) (refusal other : PieRefusal) → RefusesFrame refusal xs → RefusesFrame other xs → refusal ≡ other
refusal-one xs refusal other (inl r) (inl q) =
    let e = bad-one Frames xs r.0 q.0 r.1.bad q.1.bad in
    r.1.named ∙ ap (λ place. refusal_at place (slice_index xs place)) e ∙ sym q.1.named
refusal-one xs refusal other (inr r) (inr q) = r.1.named ∙ ap Unfinished (r.1.short.whole ∙ sym q.1.short.whole) ∙ sym q.1.named
refusal-one xs refusal other (inl r) (inr q) = absurd (short-not_bad Frames xs q.0 r.0 q.1.short r.1.bad)
refusal-one xs refusal other (inr r) (inl q) = absurd (short-not_bad Frames xs r.0 q.0 r.1.short q.1.bad)
