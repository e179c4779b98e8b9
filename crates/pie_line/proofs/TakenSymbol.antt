-- A data symbol that a decoder takes at once, its high and its low.
use Rattle.std.proofs.Common.{◌≡◌, ℕ, ◌+◌, ◌*◌, ◌≤◌, ◌<◌, Bool, Some, None, Ok, List, [], ◌∷◌, ◌++◌, refl, ap, subst, arith, append_assoc, length-append}
use Rattle.std.proofs.lemmas.List.{append-nil}
use Rattle.pie_line.specs.declared.frame.FrameKind.{FrameKind}
use Rattle.pie_line.specs.declared.frame_state.FrameState.TheVariants.{High, Low}
use Rattle.pie_line.specs.Pie.{bit_of_symbol}
use Rattle.pie_line.specs.FrameState.{IsHeader, rtcal_of, Moves}
use Rattle.pie_line.specs.Edges.{EdgesValue, EdgesStandFor, IsDataSymbol, LeadsToState}
use Rattle.pie_line.proofs.Leads.{leads-moves}
use Rattle.pie_line.proofs.Symbols.{symbol-moves}
use Rattle.pie_line.proofs.DecoderStandsFor.{stands-at, standing-so}

-- the high of a data symbol
high-moves : (kind : FrameKind) (high : ℕ) → IsHeader kind → 1 ≤ high → high < 4 * rtcal_of kind → Moves (High kind) high (Low kind high) None
high-moves kind high header lasts room = record {
  sound = (header, record { lasts = lasts; room = room });
  only = λ other bits rest c. (bits, refl, c);
  back = λ other more rest c. c;
}

-- one symbol more leads to the place before the next
leads-symbol : (kind : FrameKind) (bits : List Bool) (xs : List ℕ) (high low : ℕ) → IsDataSymbol (rtcal_of kind) high low → LeadsToState (High kind) bits xs
    → LeadsToState (High kind) (bits ++ bit_of_symbol (rtcal_of kind) (high + low) ∷ []) (xs ++ high ∷ low ∷ [])
leads-symbol kind bits xs high low symbol leads =
    let bit = bit_of_symbol (rtcal_of kind) (high + low) in
    let first = leads-moves (High kind) (Low kind high) None bits xs high leads
    (high-moves kind high leads.sound symbol.lasts_high (omega (arith, symbol.lasts_low, symbol.within))) in
    let second = leads-moves (Low kind high) (High kind) (Some bit) (bits ++ []) (xs ++ high ∷ []) low first
    (symbol-moves kind high low leads.sound symbol.lasts_high symbol.lasts_low symbol.within) in
    let read : (bits ++ []) ++ bit ∷ [] ≡ bits ++ bit ∷ [] = ap (λ (list : List Bool). list ++ bit ∷ []) (append-nil bits) in
    let came : (xs ++ high ∷ []) ++ low ∷ [] ≡ xs ++ high ∷ low ∷ [] = append_assoc xs (high ∷ []) (low ∷ []) in
    subst (λ all. LeadsToState (High kind) all (xs ++ high ∷ low ∷ [])) read
    (subst (λ ys. LeadsToState (High kind) ((bits ++ []) ++ bit ∷ []) ys) came second)

-- the decoder takes it
pub stands_symbol : (old : EdgesValue) (kind : FrameKind) (high low : ℕ) (bits : List Bool) (intervals : List ℕ) → old.standing ≡ Ok (High kind)
    → IsDataSymbol (rtcal_of kind) high low → EdgesStandFor old bits intervals
    → EdgesStandFor (record { standing = old.standing; count = old.count + 2 }) (bits ++ bit_of_symbol (rtcal_of kind) (high + low) ∷ []) (intervals ++ high ∷ low ∷ [])
stands_symbol old kind high low bits intervals is symbol stands =
    let at = stands-at old (High kind) bits intervals is stands in
    standing-so (record { standing = old.standing; count = old.count + 2 }) (High kind) _ _ is
    (omega (arith, at.0, length-append intervals (high ∷ low ∷ [])), leads-symbol kind bits intervals high low symbol at.1)
