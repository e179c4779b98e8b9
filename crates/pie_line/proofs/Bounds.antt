-- No interval of a frame is long.
use Rattle.std.proofs.Common.{ℕ, ◌+◌, ◌*◌, ◌≤◌, Bool, List, [], ◌∷◌, arith}
use Rattle.std.specs.List.{All}
use Rattle.std.proofs.lemmas.List.Elements.{All-nil, All-cons, All-head, All-tail, All-weaker}
use Rattle.pie_line.specs.declared.frame.FrameKind.{FrameKind}
use Rattle.pie_line.specs.declared.frame.FrameKind.TheVariants.{Preamble, FrameSync}
use Rattle.pie_line.specs.Pie.{ArePairs, pair_sums, HasSums, IsFrame, longest_interval}

-- an interval or a sum that is at most this long
abbrev pub AtMost : ℕ → ℕ → Type 0
AtMost most x = x ≤ most

sums-bounded : (kind : FrameKind) (bits : List Bool) (sums : List ℕ) → HasSums kind bits sums → All (AtMost 300000) sums
sums-bounded (FrameSync a b) bits (t ∷ r ∷ sums) f =
    All-cons (AtMost 300000) t (r ∷ sums) (omega (arith, f.tari_range))
    (All-cons (AtMost 300000) r sums (omega (arith, f.tari_range, f.rtcal_range))
    (All-weaker (λ x. x ≤ 4 * r) (AtMost 300000) (λ x le. omega (arith, le, f.tari_range, f.rtcal_range)) sums f.symbols.within))
sums-bounded (Preamble a b d) bits (t ∷ r ∷ c ∷ sums) f =
    All-cons (AtMost 300000) t (r ∷ c ∷ sums) (omega (arith, f.tari_range))
    (All-cons (AtMost 300000) r (c ∷ sums) (omega (arith, f.tari_range, f.rtcal_range))
    (All-cons (AtMost 300000) c sums (omega (arith, f.tari_range, f.rtcal_range, f.trcal_range))
    (All-weaker (λ x. x ≤ 4 * r) (AtMost 300000) (λ x le. omega (arith, le, f.tari_range, f.rtcal_range)) sums f.symbols.within)))
sums-bounded (FrameSync a b) bits [] f = absurd f
sums-bounded (FrameSync a b) bits (t ∷ []) f = absurd f
sums-bounded (Preamble a b d) bits [] f = absurd f
sums-bounded (Preamble a b d) bits (t ∷ []) f = absurd f
sums-bounded (Preamble a b d) bits (t ∷ r ∷ []) f = absurd f

pairs-bounded : (most : ℕ) (xs : List ℕ) → ArePairs xs → All (AtMost most) (pair_sums xs) → All (AtMost most) xs
pairs-bounded most [] p a = All-nil (AtMost most)
pairs-bounded most (high ∷ []) p a = absurd p
pairs-bounded most (high ∷ low ∷ rest) p a =
    let le : high + low ≤ most = All-head (AtMost most) (high + low) (pair_sums rest) a in
    All-cons (AtMost most) high (low ∷ rest) (omega (arith, le))
    (All-cons (AtMost most) low rest (omega (arith, le))
    (pairs-bounded most rest p.2 (All-tail (AtMost most) (high + low) (pair_sums rest) a)))

pub frame-bounded : (kind : FrameKind) (bits : List Bool) (xs : List ℕ) → IsFrame kind bits xs → All (λ x. x ≤ longest_interval) xs
frame-bounded kind bits [] f = absurd f
frame-bounded kind bits (d ∷ xs) f =
    All-cons (λ x. x ≤ longest_interval) d xs (omega (arith, f.0))
    (All-weaker (AtMost 300000) (λ x. x ≤ longest_interval) (λ x le. omega (arith, le)) xs
    (pairs-bounded 300000 xs f.1 (sums-bounded kind bits (pair_sums xs) f.2)))
