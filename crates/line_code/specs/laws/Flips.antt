-- Two laws of a line code, each from a small fact on its blocks, proved once for every table.
--
-- A code shows `RefusesFlips` by `refuses_flips`, from three facts on one block: `IsEven`, `TellsBits`, and
-- `ShowsFlips` (where one inverted level makes the block of a bit into that of the other bit, no block that
-- may follow the one may follow the other). Where no inverted level makes a block into the other bit's block,
-- `ShowsFlips` holds by that alone.
--
-- A code shows `HidesLead` by `hides_lead`, from `IsEven` and, for each TRext, a `HasBreak` of its lead: two
-- neighbours of the lead's symbols, which no data blocks may be, one after the other. Where the lead is a
-- closed list, `place` computes, so it is `refl`.
use Rattle.std.specs.Prelude.{◌≡◌, ◌≢◌, ℕ, zero, suc, ◌+◌, ◌-◌, ◌*◌, ◌<◌, ◌≤◌, Bool, true, false, not, ◌⊎◌, List, [], ◌∷◌, ◌++◌, length, take, drop, refl}
use Rattle.std.proofs.Common.{sym, ◌∙◌, ap, arith, inl, inr, length-append, length-drop, zero-mul}
use Rattle.std.proofs.Math.Nat.{suc-mul, add_comm}
use Rattle.std.proofs.lemmas.Bool.{cases_lt}
use Rattle.std.proofs.lemmas.List.{append_assoc, length-take-le, take-append-drop, drop-drop}
use Rattle.line_code.specs.Table.{Context, Table}
use Rattle.line_code.specs.Stream.{blocks}
use Rattle.line_code.specs.TableFacts.{IsEven, TellsBits, CodeTable, with_level_flipped, RefusesFlips, HidesLead}

-- where a block with one inverted level is the block of the other bit, the block after it differs in each case
abbrev pub ShowsFlips : Table → Type 0
ShowsFlips t =
    (c : Context) (bit : Bool) (at : ℕ) → at < length (t.block c bit) → with_level_flipped (t.block c bit) at ≡ t.block c (not bit)
    → (x y : Bool) → t.block (t.next c bit) x ≢ t.block (t.next c (not bit)) y

-- two symbols that are no two data blocks in a row
pub record IsBreak (t : Table) (chips : ℕ) (first second : List Bool) : Type 0 where
  pub first_whole : length first ≡ chips
  pub second_whole : length second ≡ chips
  pub breaks : (c : Context) (bit x : Bool) → t.block c bit ≡ first → t.block (t.next c bit) x ≢ second

-- two such symbols of the lead, behind so many others
pub record BreakBehind (t : Table) (chips before : ℕ) (lead : List Bool) : Type 0 where
  pub first : List Bool
  pub second : List Bool
  pub after : List Bool
  pub place : drop (before * chips) lead ≡ first ++ (second ++ after)
  pub is : IsBreak t chips first second

-- two such symbols of the lead, behind some number of others
pub record HasBreak (t : Table) (chips : ℕ) (lead : List Bool) : Type 0 where
  pub before : ℕ
  pub symbols : BreakBehind t chips before lead

-- two joined lists are equal only part by part, where the first parts are of one length
pub parts_same : (a b x y : List Bool) → length a ≡ length b → a ++ x ≡ b ++ y → (a ≡ b) × (x ≡ y)
parts_same [] [] x y l e = (refl, e)
parts_same [] (d ∷ b) x y l e = absurd (omega arith)
parts_same (c ∷ a) [] x y l e = absurd (omega arith)
parts_same (c ∷ a) (d ∷ b) x y l e =
    let tails : a ++ x ≡ b ++ y = cc in
    let heads : c ≡ d = cc in
    let parts = parts_same a b x y (omega arith) tails in
    let same : a ≡ b = parts.0 in
    (cc, parts.1)

not-self : (b : Bool) → not b ≢ b
not-self true e = cc
not-self false e = cc

pub with_level_flipped-other : (levels : List Bool) (at : ℕ) → at < length levels → with_level_flipped levels at ≢ levels
with_level_flipped-other [] at l e = omega arith
with_level_flipped-other (x ∷ xs) zero l e = let h : not x ≡ x = cc in not-self x h
with_level_flipped-other (x ∷ xs) (suc n) l e = let h : with_level_flipped xs n ≡ xs = cc in with_level_flipped-other xs n (omega arith) h

pub length-with_level_flipped : (levels : List Bool) (at : ℕ) → length (with_level_flipped levels at) ≡ length levels
length-with_level_flipped [] at = refl
length-with_level_flipped (x ∷ xs) zero = refl
length-with_level_flipped (x ∷ xs) (suc n) = ap suc (length-with_level_flipped xs n)

pub with_level_flipped-left : (a b : List Bool) (at : ℕ) → at < length a → with_level_flipped (a ++ b) at ≡ with_level_flipped a at ++ b
with_level_flipped-left [] b at l = absurd (omega arith)
with_level_flipped-left (x ∷ a) b zero l = refl
with_level_flipped-left (x ∷ a) b (suc n) l = ap (λ ls. x ∷ ls) (with_level_flipped-left a b n (omega arith))

pub with_level_flipped-right : (a b : List Bool) (at k : ℕ) → at ≡ length a + k → with_level_flipped (a ++ b) at ≡ a ++ with_level_flipped b k
with_level_flipped-right [] b at k e = let same : at ≡ k = omega arith in ap (with_level_flipped b) same
with_level_flipped-right (x ∷ a) b zero k e = absurd (omega arith)
with_level_flipped-right (x ∷ a) b (suc n) k e = ap (λ ls. x ∷ ls) (with_level_flipped-right a b n k (omega arith))

-- a list that is not empty
pub record Headed (bits : List Bool) : Type 0 where
  pub head : Bool
  pub tail : List Bool
  pub is : bits ≡ head ∷ tail

pub headed : (bits : List Bool) → Headed (bits ++ true ∷ [])
headed [] = record { head = true; tail = []; is = refl }
headed (b ∷ bits) = record { head = b; tail = bits ++ true ∷ []; is = refl }

-- behind the bits there is at least the dummy's block
pub some_block : (t : Table) (chips : ℕ) → IsEven t chips → (c : Context) (bits : List Bool) → chips ≤ length (blocks t c (bits ++ true ∷ []))
some_block t chips even c bits =
    let h = headed bits in
    let size : length (t.block c h.head) ≡ chips = even.blocks_even c h.head in
    let joined = length-append (t.block c h.head) (blocks t (t.next c h.head) h.tail) in
    rw h.is (omega arith)

-- the first block of the bits with the dummy behind them
pub first_block : (t : Table) (c : Context) (bits : List Bool) → (x : Bool) × (rest : List Bool) × (blocks t c (bits ++ true ∷ []) ≡ t.block c x ++ rest)
first_block t c [] = (true, [], refl)
first_block t c (b ∷ bits) = (b, blocks t (t.next c b) (bits ++ true ∷ []), refl)

-- two bits are one, or each other's inverse
pub same_or_not : (x y : Bool) → (x ≡ y) ⊎ (y ≡ not x)
same_or_not true true = inl refl
same_or_not true false = inr refl
same_or_not false true = inr refl
same_or_not false false = inl refl

pub told : (t : Table) → TellsBits t → (c : Context) (x y : Bool) → t.block c x ≡ t.block c y → x ≡ y
told t tells c true true e = refl
told t tells c false false e = refl
told t tells c true false e = absurd (tells c (sym e))
told t tells c false true e = absurd (tells c e)

-- the block of a bit, with the level at a place inverted, is the block of a bit
pub record FlipsInto (t : Table) (c : Context) (x y : Bool) : Type 0 where
  pub at : ℕ
  pub inside : at < length (t.block c x)
  pub flipped : with_level_flipped (t.block c x) at ≡ t.block c y

-- where a first block with one level inverted is a first block, the blocks behind the two differ
pub flipped_first : (code : CodeTable) → ShowsFlips code.table → (x y : Bool) (c : Context) → FlipsInto code.table c x y → (xs ys : List Bool)
    → blocks code.table (code.table.next c x) (xs ++ true ∷ []) ≢ blocks code.table (code.table.next c y) (ys ++ true ∷ [])
flipped_first code shows x y c flips xs ys rest =
    let t = code.table in
    let e = flips.flipped in
    elim (same_or_not x y) [
      | inl same ↦ with_level_flipped-other (t.block c x) flips.at flips.inside (e ∙ ap (t.block c) (sym same))
      | inr other ↦
          let f = first_block t (t.next c x) xs in
          let g = first_block t (t.next c y) ys in
          let size_f : length (t.block (t.next c x) f.0) ≡ code.chips = code.even.blocks_even (t.next c x) f.0 in
          let size_g : length (t.block (t.next c y) g.0) ≡ code.chips = code.even.blocks_even (t.next c y) g.0 in
          let joined = sym f.2 ∙ rest ∙ g.2 in
          let parts = parts_same (t.block (t.next c x) f.0) (t.block (t.next c y) g.0) f.1 g.1 (omega arith) joined in
          shows c x flips.at flips.inside (e ∙ ap (t.block c) other) f.0 g.0 (parts.0 ∙ ap (λ b. t.block (t.next c b) g.0) other)
    ]

-- no blocks of data and dummy with one level inverted are blocks of data and dummy
pub flipped_blocks : (code : CodeTable) → ShowsFlips code.table → (xs ys : List Bool) (c : Context) (at : ℕ)
    → at < length (blocks code.table c (xs ++ true ∷ []))
    → with_level_flipped (blocks code.table c (xs ++ true ∷ [])) at ≢ blocks code.table c (ys ++ true ∷ [])
flipped_blocks code shows [] [] c at l e = with_level_flipped-other (blocks code.table c (true ∷ [])) at l e
flipped_blocks code shows [] (y ∷ ys) c at l e =
    let t = code.table in
    let one : length (t.block c true) ≡ code.chips = code.even.blocks_even c true in
    let two : length (t.block c y) ≡ code.chips = code.even.blocks_even c y in
    let more = some_block t code.chips code.even (t.next c y) ys in
    let least = code.even.least in
    let left = length-append (t.block c true) [] in
    let right = length-append (t.block c y) (blocks t (t.next c y) (ys ++ true ∷ [])) in
    let sizes = sym (length-with_level_flipped (blocks t c (true ∷ [])) at) ∙ ap length e in
    omega arith
flipped_blocks code shows (x ∷ xs) [] c at l e =
    let t = code.table in
    let one : length (t.block c true) ≡ code.chips = code.even.blocks_even c true in
    let two : length (t.block c x) ≡ code.chips = code.even.blocks_even c x in
    let more = some_block t code.chips code.even (t.next c x) xs in
    let least = code.even.least in
    let left = length-append (t.block c true) [] in
    let right = length-append (t.block c x) (blocks t (t.next c x) (xs ++ true ∷ [])) in
    let sizes = sym (length-with_level_flipped (blocks t c ((x ∷ xs) ++ true ∷ [])) at) ∙ ap length e in
    omega arith
flipped_blocks code shows (x ∷ xs) (y ∷ ys) c at l e =
    let t = code.table in
    let rest_x = blocks t (t.next c x) (xs ++ true ∷ []) in
    let rest_y = blocks t (t.next c y) (ys ++ true ∷ []) in
    let size_x : length (t.block c x) ≡ code.chips = code.even.blocks_even c x in
    let size_y : length (t.block c y) ≡ code.chips = code.even.blocks_even c y in
    let joined = length-append (t.block c x) rest_x in
    elim (cases_lt at (length (t.block c x))) [
      | inl below ↦
          let e2 = sym (with_level_flipped-left (t.block c x) rest_x at below) ∙ e in
          let size = length-with_level_flipped (t.block c x) at in
          let parts = parts_same (with_level_flipped (t.block c x) at) (t.block c y) rest_x rest_y (omega arith) e2 in
          flipped_first code shows x y c (record { at = at; inside = below; flipped = parts.0 }) xs ys parts.1
      | inr above ↦
          let k = at - length (t.block c x) in
          let at_is : at ≡ length (t.block c x) + k = omega arith in
          let e2 = sym (with_level_flipped-right (t.block c x) rest_x at k at_is) ∙ e in
          let parts = parts_same (t.block c x) (t.block c y) (with_level_flipped rest_x k) rest_y (omega arith) e2 in
          let same : x ≡ y = told t code.tells c x y parts.0 in
          flipped_blocks code shows xs ys (t.next c x) k (omega arith) (parts.1 ∙ ap (λ b. blocks t (t.next c b) (ys ++ true ∷ [])) (sym same))
    ]

-- no stream with one level inverted is a stream of the same code and TRext
pub refuses_flips : (t : Table) (chips : ℕ) → IsEven t chips → TellsBits t → ShowsFlips t → RefusesFlips t
refuses_flips t chips even tells shows trext levels at l (xs, e) (ys, f) =
    let lead = t.lead trext in
    let ours = blocks t t.start (xs ++ true ∷ []) in
    let theirs = blocks t t.start (ys ++ true ∷ []) in
    let joined = length-append lead ours in
    let whole = ap length e in
    let g = sym (ap (λ ls. with_level_flipped ls at) e) ∙ f in
    elim (cases_lt at (length lead)) [
      | inl below ↦
          let g2 = sym (with_level_flipped-left lead ours at below) ∙ g in
          let parts = parts_same (with_level_flipped lead at) lead ours theirs (length-with_level_flipped lead at) g2 in
          with_level_flipped-other lead at below parts.0
      | inr above ↦
          let k = at - length lead in
          let at_is : at ≡ length lead + k = omega arith in
          let g2 = sym (with_level_flipped-right lead ours at k at_is) ∙ g in
          let parts = parts_same lead lead (with_level_flipped ours k) theirs refl g2 in
          flipped_blocks (record { table = t; chips = chips; even = even; tells = tells }) shows xs ys t.start k (omega arith) parts.1
    ]

-- data blocks do not begin with two symbols that are no two data blocks in a row
pub hides_here : (t : Table) (chips : ℕ) → IsEven t chips → (first second rest : List Bool) → IsBreak t chips first second
    → (c : Context) (bits : List Bool) → blocks t c bits ≢ first ++ (second ++ rest)
hides_here t chips even first second rest is c [] e =
    let f = is.first_whole in
    let least = even.least in
    let size = ap length e ∙ length-append first (second ++ rest) in
    omega arith
hides_here t chips even first second rest is c (b ∷ []) e =
    let f = is.first_whole in
    let s = is.second_whole in
    let least = even.least in
    let size : length (t.block c b) ≡ chips = even.blocks_even c b in
    let left = length-append (t.block c b) [] in
    let right = ap length e ∙ length-append first (second ++ rest) in
    let inner = length-append second rest in
    omega arith
hides_here t chips even first second rest is c (b ∷ x ∷ bits) e =
    let f = is.first_whole in
    let s = is.second_whole in
    let size : length (t.block c b) ≡ chips = even.blocks_even c b in
    let size_x : length (t.block (t.next c b) x) ≡ chips = even.blocks_even (t.next c b) x in
    let parts = parts_same (t.block c b) first (blocks t (t.next c b) (x ∷ bits)) (second ++ rest) (omega arith) e in
    let more = parts_same (t.block (t.next c b) x) second (blocks t (t.next (t.next c b) x) bits) rest (omega arith) parts.1 in
    is.breaks c b x parts.0 more.0

-- nor with such symbols behind a number of others
pub hides_break : (t : Table) (chips : ℕ) → IsEven t chips → (n : ℕ) (lead rest : List Bool) → BreakBehind t chips n lead
    → (c : Context) (bits : List Bool) → blocks t c bits ≢ lead ++ rest
hides_break t chips even zero lead rest h c bits e =
    let place = h.place in
    let here : lead ≡ h.first ++ (h.second ++ h.after) = rw zero-mul at place in
    let joined : lead ++ rest ≡ h.first ++ (h.second ++ (h.after ++ rest)) = rw here (simp append_assoc) in
    hides_here t chips even h.first h.second (h.after ++ rest) h.is c bits (e ∙ joined)
hides_break t chips even (suc n) lead rest h c [] e =
    let f = h.is.first_whole in
    let least = even.least in
    let cut = length-drop (suc n * chips) lead in
    let left = ap length h.place ∙ length-append h.first (h.second ++ h.after) in
    let right = ap length e ∙ length-append lead rest in
    omega arith
hides_break t chips even (suc n) lead rest h c (b ∷ bits) e =
    let f = h.is.first_whole in
    let least = even.least in
    let size : length (t.block c b) ≡ chips = even.blocks_even c b in
    let more : suc n * chips ≡ chips + n * chips = suc-mul n chips ∙ add_comm (n * chips) chips in
    let cut = length-drop (suc n * chips) lead in
    let left = ap length h.place ∙ length-append h.first (h.second ++ h.after) in
    let long : chips ≤ length lead = omega arith in
    let split : lead ++ rest ≡ take chips lead ++ (drop chips lead ++ rest) =
    ap (λ ls. ls ++ rest) (sym (take-append-drop chips lead)) ∙ append_assoc (take chips lead) (drop chips lead) rest in
    let front = length-take-le chips lead long in
    let parts = parts_same (t.block c b) (take chips lead) (blocks t (t.next c b) bits) (drop chips lead ++ rest) (omega arith) (e ∙ split) in
    let behind : BreakBehind t chips n (drop chips lead) =
    record {
      first = h.first;
      second = h.second;
      after = h.after;
      place = drop-drop (n * chips) chips lead ∙ ap (λ k. drop k lead) (sym more) ∙ h.place;
      is = h.is;
    } in
    hides_break t chips even n (drop chips lead) rest behind (t.next c b) bits parts.1

-- a line code hides its lead where the lead has, for each TRext, two symbols that are no two data blocks in a row
pub hides_lead : (t : Table) (chips : ℕ) → IsEven t chips → ((trext : Bool) → HasBreak t chips (t.lead trext)) → HidesLead t
hides_lead t chips even has trext c bits rest =
    let h = has trext in
    hides_break t chips even h.before (t.lead trext) rest h.symbols c bits
