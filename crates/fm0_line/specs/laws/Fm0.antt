-- The laws of a line code, each shown for the table of FM0.
use Rattle.std.specs.Prelude.{◌≡◌, ◌≢◌, zero, suc, Bool, true, false, not, [], ◌∷◌, refl}
use Rattle.std.proofs.Common.{arith}
use Rattle.line_code.specs.Table.{Context}
use Rattle.line_code.specs.TableFacts.{IsEven, HasLead, TellsBits, RefusesFlips, HidesLead}
use Rattle.line_code.specs.laws.Flips.{ShowsFlips, IsBreak, HasBreak, refuses_flips, hides_lead}
use Rattle.fm0_line.specs.Fm0.{fm0, fm0_second, fm0_block, fm0_next, fm0_lead}

pub fm0_even : IsEven fm0 2
fm0_even = record { least = omega arith; most = omega arith; blocks_even = λ c bit. refl }

pub fm0_has_lead : HasLead fm0
fm0_has_lead true = omega arith
fm0_has_lead false = omega arith

-- no level is its own inverse
not-self : (level : Bool) → not level ≢ level
not-self true e = cc
not-self false e = cc

-- levels with one inverse are one
same_inverse : (a b : Bool) → not a ≡ not b → a ≡ b
same_inverse true true e = refl
same_inverse true false e = cc
same_inverse false true e = cc
same_inverse false false e = refl

-- the second level tells the bit
second_differs : (first bit : Bool) → fm0_second first bit ≢ fm0_second first (not bit)
second_differs true true e = cc
second_differs true false e = cc
second_differs false true e = cc
second_differs false false e = cc

pub fm0_tells_bits : TellsBits fm0
fm0_tells_bits c e = second_differs (not c.phase) false cc

-- blocks that are equal follow levels that are equal, since the first level is the inverse of the level before
same_before : (c d : Context) (x y : Bool) → fm0_block c x ≡ fm0_block d y → not c.phase ≡ not d.phase
same_before c d x y e = cc

-- with its first level inverted a block is none of this context; with its second, it is the other bit's, whose last level is
-- the other one, and so is the first level after it
fm0_shows_flips : ShowsFlips fm0
fm0_shows_flips c bit zero h e x y q = not-self (not c.phase) cc
fm0_shows_flips c bit (suc zero) h e x y q =
    second_differs (not c.phase) bit (same_inverse _ _ (same_before (fm0_next c bit) (fm0_next c (not bit)) x y q))
fm0_shows_flips c bit (suc (suc at)) h e x y q = absurd (omega arith)

-- after the symbol 10 no data block is 00, the symbol v of the preamble, since the level does not invert before it
no_violation : (c : Context) (bit x : Bool) → fm0_block c bit ≡ true ∷ false ∷ [] → fm0_block (fm0_next c bit) x ≢ false ∷ false ∷ []
no_violation c bit x e q =
    let low : fm0_second (not c.phase) bit ≡ false = cc in
    let inverts : not (fm0_second (not c.phase) bit) ≡ false = cc in
    not-self (fm0_second (not c.phase) bit) cc

fm0_violates : IsBreak fm0 2 (true ∷ false ∷ []) (false ∷ false ∷ [])
fm0_violates = record { first_whole = refl; second_whole = refl; breaks = no_violation }

fm0_break : (trext : Bool) → HasBreak fm0 2 (fm0_lead trext)
fm0_break false = record {
  before = 3;
  symbols = record { first = true ∷ false ∷ []; second = false ∷ false ∷ []; after = true ∷ true ∷ []; place = refl; is = fm0_violates };
}
fm0_break true = record {
  before = 15;
  symbols = record { first = true ∷ false ∷ []; second = false ∷ false ∷ []; after = true ∷ true ∷ []; place = refl; is = fm0_violates };
}

pub fm0_refuses_flips : RefusesFlips fm0
fm0_refuses_flips = refuses_flips fm0 2 fm0_even fm0_tells_bits fm0_shows_flips

pub fm0_hides_lead : HidesLead fm0
fm0_hides_lead = hides_lead fm0 2 fm0_even fm0_break
