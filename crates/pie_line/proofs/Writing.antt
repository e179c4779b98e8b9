-- What is written is a frame.
use Rattle.std.proofs.Common.{◌≡◌, ℕ, ◌+◌, ◌-◌, ◌*◌, ◌≤◌, Bool, true, false, List, [], ◌∷◌, map, refl, subst, arith}
use Rattle.std.specs.List.{flat_map}
use Rattle.std.proofs.lemmas.Bool.{le-leb, lt-leb}
use Rattle.std.proofs.lemmas.List.Elements.{All-nil}
use Rattle.pie_line.specs.declared.frame.Lead.{Lead}
use Rattle.pie_line.specs.declared.frame.Lead.TheVariants.{Preamble as preamble, FrameSync as frame_sync}
use Rattle.pie_line.specs.Link.{LinkValue, IsLegalLink}
use Rattle.pie_line.specs.Pie.{IsFrame, ArePairs, AreSymbols, IsNoTrCal, bit_of_symbol, pair_sums, interval_pair, sum_of, wave_of, frame_kind_of}
use Rattle.pie_line.proofs.Symbols.{symbols-more}

-- a pair that is written lasts as long as it is meant to
pair-sum : (pw sum : ℕ) → pw ≤ sum → (sum - pw) + pw ≡ sum
pair-sum pw sum le = omega arith

-- the symbol of a bit lasts long enough for its low, and no longer than RTcal, and tells the bit
pub sum-low : (link : LinkValue) → IsLegalLink link → (bit : Bool) → link.pw + 1 ≤ sum_of link bit
sum-low link legal true = omega (arith, legal.tari_range, legal.rtcal_range, legal.pw_range)
sum-low link legal false = omega (arith, legal.tari_range, legal.rtcal_range, legal.pw_range)

sum-most : (link : LinkValue) → IsLegalLink link → (bit : Bool) → sum_of link bit ≤ link.rtcal
sum-most link legal true = omega arith
sum-most link legal false = omega (arith, legal.tari_range, legal.rtcal_range)

bit-told : (link : LinkValue) → IsLegalLink link → (bit : Bool) → bit_of_symbol link.rtcal (sum_of link bit) ≡ bit
bit-told link legal true = le-leb link.rtcal (2 * (link.rtcal - link.tari)) (omega (arith, legal.tari_range, legal.rtcal_range))
bit-told link legal false = lt-leb link.rtcal (2 * link.tari) (omega (arith, legal.tari_range, legal.rtcal_range))

-- the intervals of the symbols that are written
abbrev pub symbols_of : LinkValue → List Bool → List ℕ
symbols_of link bits = flat_map (λ bit. interval_pair link (sum_of link bit)) bits

symbols-pairs : (link : LinkValue) → IsLegalLink link → (bits : List Bool) → ArePairs (symbols_of link bits)
symbols-pairs link legal [] = tt
symbols-pairs link legal (bit ∷ bits) = (omega (arith, sum-low link legal bit), omega (arith, legal.pw_range), symbols-pairs link legal bits)

symbols-sums : (link : LinkValue) → IsLegalLink link → (bits : List Bool) → pair_sums (symbols_of link bits) ≡ map (sum_of link) bits
symbols-sums link legal [] = refl
symbols-sums link legal (bit ∷ bits) =
    rw (pair-sum link.pw (sum_of link bit) (omega (arith, sum-low link legal bit)), symbols-sums link legal bits) refl

symbols-told : (link : LinkValue) → IsLegalLink link → (bits : List Bool) → AreSymbols link.rtcal bits (map (sum_of link) bits)
symbols-told link legal [] = record { within = All-nil (λ x. x ≤ 4 * link.rtcal); told = refl }
symbols-told link legal (bit ∷ bits) =
    let most : sum_of link bit ≤ 4 * link.rtcal = omega (arith, sum-most link legal bit) in
    subst (λ b. AreSymbols link.rtcal (b ∷ bits) (sum_of link bit ∷ map (sum_of link) bits)) (bit-told link legal bit)
    (symbols-more link.rtcal (sum_of link bit) bits (map (sum_of link) bits) most (symbols-told link legal bits))

symbols-no_trcal : (link : LinkValue) → IsLegalLink link → (bits : List Bool) → IsNoTrCal link.rtcal (map (sum_of link) bits)
symbols-no_trcal link legal [] = tt
symbols-no_trcal link legal (bit ∷ bits) = sum-most link legal bit

-- what is written is a frame of the header and the bits
pub wave-frame : (link : LinkValue) → IsLegalLink link → (lead : Lead) (bits : List Bool) → IsFrame (frame_kind_of link lead) bits (wave_of link lead bits)
wave-frame link legal frame_sync bits =
    let pw : (1 ≤ link.pw) × (link.pw + 1 ≤ link.tari) × (link.pw + 1 ≤ link.rtcal) = (omega (arith, legal.pw_range), omega (arith, legal), omega (arith, legal)) in (
      (omega arith, omega arith),
      (omega (arith, pw), pw.0, (omega (arith, pw), pw.0, symbols-pairs link legal bits)),
      rw (pair-sum link.pw link.tari (omega (arith, pw)), pair-sum link.pw link.rtcal (omega (arith, pw)), symbols-sums link legal bits) record {
        tari_is = refl;
        rtcal_is = refl;
        tari_range = legal.tari_range;
        rtcal_range = legal.rtcal_range;
        no_trcal = symbols-no_trcal link legal bits;
        symbols = symbols-told link legal bits;
      },
    )
wave-frame link legal preamble bits =
    let pw : (1 ≤ link.pw) × (link.pw + 1 ≤ link.tari) × (link.pw + 1 ≤ link.rtcal) × (link.pw + 1 ≤ link.trcal) =
    (omega (arith, legal.pw_range), omega (arith, legal), omega (arith, legal), omega (arith, legal)) in (
      (omega arith, omega arith),
      (omega (arith, pw), pw.0, (omega (arith, pw), pw.0, (omega (arith, pw), pw.0, symbols-pairs link legal bits))),
      rw (pair-sum link.pw link.tari (omega (arith, pw)), pair-sum link.pw link.rtcal (omega (arith, pw)), pair-sum link.pw link.trcal (omega (arith, pw)), symbols-sums link legal bits) record {
        tari_is = refl;
        rtcal_is = refl;
        trcal_is = refl;
        tari_range = legal.tari_range;
        rtcal_range = legal.rtcal_range;
        trcal_range = legal.trcal_range;
        symbols = symbols-told link legal bits;
      },
    )

pub written-frame : (link : LinkValue) (lead : Lead) (bits : List Bool) (items : List ℕ) → IsLegalLink link → items ≡ wave_of link lead bits →
    IsFrame (frame_kind_of link lead) bits items
written-frame link lead bits items legal written = rw written (wave-frame link legal lead bits)
