-- The laws of a line code for Miller-modulated subcarriers, with M as a number.
use Rattle.std.specs.Prelude.{◌≡◌, ◌≢◌, ℕ, zero, suc, ◌+◌, ◌-◌, ◌*◌, ◌<◌, ◌≤◌, Bool, true, false, not, List, ◌∷◌, ◌++◌, length, refl}
use Rattle.std.proofs.Common.{arith, ap, sym, ◌∙◌, inl, inr, length-append, zero-add, zero-mul}
use Rattle.std.proofs.lemmas.Bool.{cases_lt}
use Rattle.std.proofs.lemmas.List.{append_assoc}
use Rattle.line_code.specs.Table.{Context}
use Rattle.line_code.specs.TableFacts.{IsEven, HasLead, TellsBits, RefusesFlips, HidesLead, with_level_flipped}
use Rattle.line_code.specs.laws.Flips.{ShowsFlips, IsBreak, HasBreak, parts_same, with_level_flipped-other, with_level_flipped-left, with_level_flipped-right, length-with_level_flipped, refuses_flips, hides_lead}
use Rattle.miller_line.specs.Miller.{carrier, symbol, zero_start, start_phase, middle_phase, miller_block, miller_next, miller_preamble, miller_lead, miller}

-- M is even, and from 2 to 8
pub record IsFactor (m : ℕ) : Type 0 where
  pub half : ℕ
  pub twice : m ≡ half + half
  pub least : 1 ≤ half
  pub most : half ≤ 4

pub two : IsFactor 2
two = record { half = 1; twice = refl; least = omega arith; most = omega arith }

pub four : IsFactor 4
four = record { half = 2; twice = refl; least = omega arith; most = omega arith }

pub eight : IsFactor 8
eight = record { half = 4; twice = refl; least = omega arith; most = omega arith }

pub length-carrier : (n : ℕ) (phase : Bool) → length (carrier n phase) ≡ n
length-carrier zero phase = refl
length-carrier (suc n) phase = ap suc (length-carrier n (not phase))

pub length-symbol : (m : ℕ) (start middle : Bool) → length (symbol m start middle) ≡ 2 * m
length-symbol m start middle = length-append (carrier m start) (carrier m middle) ∙ omega (arith, length-carrier m start, length-carrier m middle)

pub miller_even : (m : ℕ) → IsFactor m → IsEven (miller m) (2 * m)
miller_even m f = record {
  least = omega arith;
  most = omega arith;
  blocks_even = λ c bit. length-symbol m (start_phase c bit) (middle_phase (start_phase c bit) bit);
}

pub miller_has_lead : (m : ℕ) → IsFactor m → HasLead (miller m)
miller_has_lead m f true = simp (length-append, length-carrier) (omega arith)
miller_has_lead m f false = simp (length-append, length-carrier) (omega arith)

-- two parts of the subcarrier of one length, at least one level, are equal only in one phase
carrier_tells : (n : ℕ) (a b : Bool) → 1 ≤ n → carrier n a ≡ carrier n b → a ≡ b
carrier_tells zero a b l e = absurd (omega arith)
carrier_tells (suc n) true true l e = refl
carrier_tells (suc n) true false l e = cc
carrier_tells (suc n) false true l e = cc
carrier_tells (suc n) false false l e = refl

-- a symbol tells the phases of its halves
symbol_tells : (m : ℕ) → 1 ≤ m → (a b c d : Bool) → symbol m a b ≡ symbol m c d → (a ≡ c) × (b ≡ d)
symbol_tells m l a b c d e =
    let sizes : length (carrier m a) ≡ length (carrier m c) = length-carrier m a ∙ sym (length-carrier m c) in
    let parts = parts_same (carrier m a) (carrier m c) (carrier m b) (carrier m d) sizes e in
    (carrier_tells m a c l parts.0, carrier_tells m b d l parts.1)

-- no phase is its own inverse
not-self : (phase : Bool) → not phase ≢ phase
not-self true e = cc
not-self false e = cc

pub miller_tells_bits : (m : ℕ) → IsFactor m → TellsBits (miller m)
miller_tells_bits m f c e =
    let parts = symbol_tells m (omega arith) (zero_start c.before c.phase) (zero_start c.before c.phase) c.phase (not c.phase) e in
    not-self c.phase (sym parts.1 ∙ parts.0)

-- with one level inverted, two levels or more of the subcarrier are no such part, since two phases differ in each level
carrier_flip : (n : ℕ) (a b : Bool) (at : ℕ) → 2 ≤ n → at < n → with_level_flipped (carrier n a) at ≢ carrier n b
carrier_flip zero a b at l h e = absurd (omega arith)
carrier_flip (suc zero) a b at l h e = absurd (omega arith)
carrier_flip (suc (suc n)) true false zero l h e = cc
carrier_flip (suc (suc n)) true false (suc zero) l h e = cc
carrier_flip (suc (suc n)) true false (suc (suc at)) l h e = cc
carrier_flip (suc (suc n)) false true zero l h e = cc
carrier_flip (suc (suc n)) false true (suc zero) l h e = cc
carrier_flip (suc (suc n)) false true (suc (suc at)) l h e = cc
carrier_flip (suc (suc n)) true true at l h e = with_level_flipped-other (carrier (suc (suc n)) true) at (rw (length-carrier (suc (suc n)) true) h) e
carrier_flip (suc (suc n)) false false at l h e = with_level_flipped-other (carrier (suc (suc n)) false) at (rw (length-carrier (suc (suc n)) false) h) e

-- no symbol with one level inverted is a symbol
symbol_flip : (m : ℕ) → 2 ≤ m → (a b c d : Bool) (at : ℕ) → at < 2 * m → with_level_flipped (symbol m a b) at ≢ symbol m c d
symbol_flip m l a b c d at h e =
    let size_a = length-carrier m a in
    let size_c = length-carrier m c in
    elim (cases_lt at m) [
      | inl below ↦
          let same = sym (with_level_flipped-left (carrier m a) (carrier m b) at (omega arith)) ∙ e in
          let size = length-with_level_flipped (carrier m a) at in
          let parts = parts_same (with_level_flipped (carrier m a) at) (carrier m c) (carrier m b) (carrier m d) (omega arith) same in
          carrier_flip m a c at l below parts.0
      | inr above ↦
          let same = sym (with_level_flipped-right (carrier m a) (carrier m b) at (at - m) (omega arith)) ∙ e in
          let parts = parts_same (carrier m a) (carrier m c) (with_level_flipped (carrier m b) (at - m)) (carrier m d) (omega arith) same in
          carrier_flip m b d (at - m) l (omega arith) parts.1
    ]

miller_shows_flips : (m : ℕ) → IsFactor m → ShowsFlips (miller m)
miller_shows_flips m f c bit at h e x y q =
    let size = length-symbol m (start_phase c bit) (middle_phase (start_phase c bit) bit) in
    absurd (symbol_flip m (omega arith) _ _ _ _ at (omega arith) e)

pub miller_refuses_flips : (m : ℕ) → IsFactor m → RefusesFlips (miller m)
miller_refuses_flips m f = refuses_flips (miller m) (2 * m) (miller_even m f) (miller_tells_bits m f) (miller_shows_flips m f)

-- data never has two symbols in a row that are in phase 0 throughout
no_pause : (c : Context) (bit x : Bool) → start_phase c bit ≡ false → middle_phase (start_phase c bit) bit ≡ false
    → start_phase (miller_next c bit) x ≡ false → middle_phase (start_phase (miller_next c bit) x) x ≢ false
no_pause c true x start middle start' middle' = not-self c.phase (middle ∙ sym start)
no_pause c false true start middle start' middle' = not-self (zero_start c.before c.phase) (middle' ∙ sym start')
no_pause c false false start middle start' middle' = not-self (zero_start c.before c.phase) (start' ∙ sym start)

no_pilot : (m : ℕ) → IsFactor m → (c : Context) (bit x : Bool) → miller_block m c bit ≡ symbol m false false
    → miller_block m (miller_next c bit) x ≢ symbol m false false
no_pilot m f c bit x e q =
    let start = start_phase c bit in
    let start' = start_phase (miller_next c bit) x in
    let phases = symbol_tells m (omega arith) start (middle_phase start bit) false false e in
    let phases' = symbol_tells m (omega arith) start' (middle_phase start' x) false false q in
    no_pause c bit x phases.0 phases.1 phases'.0 phases'.1

-- after an even number of levels the subcarrier goes on in its phase
carrier-append : (m half n : ℕ) (phase : Bool) → m ≡ half + half → carrier (m + n) phase ≡ carrier m phase ++ carrier n phase
carrier-append zero half n phase e = rw zero-add refl
carrier-append (suc zero) half n phase e = absurd (omega arith)
carrier-append (suc (suc m)) half n true e =
    let more : suc (suc m) + n ≡ suc (suc (m + n)) = omega arith in
    rw more (ap (λ ls. false ∷ true ∷ ls) (carrier-append m (half - 1) n true (omega arith)))
carrier-append (suc (suc m)) half n false e =
    let more : suc (suc m) + n ≡ suc (suc (m + n)) = omega arith in
    rw more (ap (λ ls. true ∷ false ∷ ls) (carrier-append m (half - 1) n false (omega arith)))

-- the pilot begins with two symbols in phase 0
pilot_symbols : (m : ℕ) → IsFactor m → (n rest : ℕ) (more : List Bool) → n ≡ m + (m + (m + (m + rest)))
    → carrier n false ++ more ≡ symbol m false false ++ (symbol m false false ++ (carrier rest false ++ more))
pilot_symbols m f n rest more e =
    let next = λ (k : ℕ). carrier-append m f.half k false f.twice in
    rw (e, next (m + (m + (m + rest))), next (m + (m + rest)), next (m + rest), next rest) (simp append_assoc)

miller_pilot : (m : ℕ) → IsFactor m → IsBreak (miller m) (2 * m) (symbol m false false) (symbol m false false)
miller_pilot m f = record { first_whole = length-symbol m false false; second_whole = length-symbol m false false; breaks = no_pilot m f }

miller_break : (m : ℕ) → IsFactor m → (trext : Bool) → HasBreak (miller m) (2 * m) (miller_lead m trext)
miller_break m f false = record {
  before = 0;
  symbols = record {
    first = symbol m false false;
    second = symbol m false false;
    after = carrier (4 * m) false ++ miller_preamble m;
    place = rw zero-mul (pilot_symbols m f (8 * m) (4 * m) (miller_preamble m) (omega arith));
    is = miller_pilot m f;
  };
}
miller_break m f true = record {
  before = 0;
  symbols = record {
    first = symbol m false false;
    second = symbol m false false;
    after = carrier (28 * m) false ++ miller_preamble m;
    place = rw zero-mul (pilot_symbols m f (32 * m) (28 * m) (miller_preamble m) (omega arith));
    is = miller_pilot m f;
  };
}

pub miller_hides_lead : (m : ℕ) → IsFactor m → HidesLead (miller m)
miller_hides_lead m f = hides_lead (miller m) (2 * m) (miller_even m f) (miller_break m f)
