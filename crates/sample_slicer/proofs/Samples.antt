-- No samples have two answers.
use Rattle.std.proofs.Common.{◌≡◌, ℕ, zero, suc, ◌+◌, ◌-◌, ◌*◌, ◌<◌, ◌≤◌, Bool, true, false, List, [], ◌∷◌, length, drop, Some, refl, sym, ◌∙◌, ap, subst, arith, ⊎_elim, Result, Ok, Err}
use Rattle.std.proofs.Math.Nat.{lt_of_mul-lt-mul_right, mul-le-mul_right, le_of_mul-le-mul_right, suc-mul}
use Rattle.std.proofs.lemmas.List.{length-drop, length-take-le}
use Rattle.std.proofs.lemmas.Bool.{cases_lt}
use Rattle.std.proofs.lemmas.Option.{slice_get_within}
use Rattle.std.specs.List.{slice_get}
use Rattle.sample_slicer.specs.Samples.{group_of, IsPure, ArePureBefore, AreLevels, IsMixedAt, IsRestAt, IsSliceAnswer}
use Rattle.sample_slicer.specs.declared.slicer.SliceRefusal.{SliceRefusal}
use Rattle.sample_slicer.specs.declared.slicer.SliceRefusal.TheVariants.{Mixed, Rest}

-- samples on both sides have no one level, where there is a sample
one_level : (threshold : ℕ) (group : List ℕ) (left right : Bool) → 1 ≤ length group → IsPure threshold left group → IsPure threshold right group → left ≡ right
one_level threshold [] left right some l r = absurd (omega (arith, some))
one_level threshold (sample ∷ group) true true some l r = refl
one_level threshold (sample ∷ group) false false some l r = refl
one_level threshold (sample ∷ group) true false some l r =
    let above : threshold ≤ sample = l zero 0 (omega arith) in
    let below : sample < threshold = r zero 0 (omega arith) in
    absurd (omega (arith, above, below))
one_level threshold (sample ∷ group) false true some l r =
    let below : sample < threshold = l zero 0 (omega arith) in
    let above : threshold ≤ sample = r zero 0 (omega arith) in
    absurd (omega (arith, above, below))

-- a whole group has samples
filled : (samples : List ℕ) (per group : ℕ) → 1 ≤ per → group * per + per ≤ length samples → 1 ≤ length (group_of samples per group)
filled samples per group least room =
    let behind : length (drop (group * per) samples) ≡ length samples - group * per = length-drop (group * per) samples in
    let enough : per ≤ length (drop (group * per) samples) = rw behind (omega (arith, room)) in
    rw (length-take-le per (drop (group * per) samples) enough) least

-- the groups before a place stand whole before it
whole_before : (per group count : ℕ) → group < count → group * per + per ≤ count * per
whole_before per group count below =
    let next : suc group * per ≤ count * per = mul-le-mul_right per below in
    let e : suc group * per ≡ group * per + per = suc-mul group per ∙ omega arith in
    subst (λ n. n ≤ count * per) e next

-- there is an item at each place before the end
there_is : (levels : List Bool) (place : ℕ) → place < length levels → (level : Bool) × (slice_get levels place ≡ Some level)
there_is [] place below = absurd (omega (arith, below))
there_is (level ∷ levels) zero below = (level, refl)
there_is (level ∷ levels) (suc place) below = there_is levels place (omega (arith, below))

-- lists of one length whose items agree are one list
same_items : (left right : List Bool) → length left ≡ length right → ((place : ℕ) (a b : Bool) → slice_get left place ≡ Some a → slice_get right place ≡ Some b → a ≡ b) → left ≡ right
same_items [] [] e agree = refl
same_items [] (y ∷ right) e agree = cc
same_items (x ∷ left) [] e agree = cc
same_items (x ∷ left) (y ∷ right) e agree =
    let head : x ≡ y = agree zero x y refl refl in
    let tail : left ≡ right = same_items left right (omega (arith, e)) (λ place a b l r. agree (suc place) a b l r) in
    rw (head, tail) refl

same_factor : (left right per : ℕ) → 1 ≤ per → left * per ≡ right * per → left ≡ right
same_factor left right per least e =
    let one : left ≤ right = le_of_mul-le-mul_right (omega (arith, e)) least in
    let other : right ≤ left = le_of_mul-le-mul_right (omega (arith, e)) least in
    omega (arith, one, other)

same_levels : (threshold per : ℕ) (samples : List ℕ) (left right : List Bool) → 1 ≤ per → AreLevels threshold per samples left → AreLevels threshold per samples right → left ≡ right
same_levels threshold per samples left right least l r =
    let lengths : length left ≡ length right = same_factor (length left) (length right) per least (sym l.whole ∙ r.whole) in
    same_items left right lengths (λ place a b at_left at_right.
    let below : place < length left = slice_get_within left place a at_left in
    let room : place * per + per ≤ length samples = rw l.whole (whole_before per place (length left) below) in
    one_level threshold (group_of samples per place) a b (filled samples per place least room) (l.each place a at_left) (r.each place b at_right))

-- the groups of levels are pure, so that no group before their end has samples on both sides
levels_before : (threshold per : ℕ) (samples : List ℕ) (levels : List Bool) → AreLevels threshold per samples levels → ArePureBefore threshold per samples (length levels)
levels_before threshold per samples levels are group below =
    let found : (level : Bool) × (slice_get levels group ≡ Some level) = there_is levels group below in
    (found.0, are.each group found.0 found.1)

-- the first group with samples on both sides doesn't stand among pure ones
mixed_behind : (threshold per : ℕ) (samples : List ℕ) (place count : ℕ) → (at : IsMixedAt threshold per samples place) → ArePureBefore threshold per samples count → count ≤ at.group
mixed_behind threshold per samples place count at pure =
    ⊎_elim (λ (below : at.group < count). absurd (let found = pure at.group below in at.mixed found.0 found.1)) (λ (above : count ≤ at.group). above) (cases_lt at.group count)

levels_or_mixed : (threshold per : ℕ) (samples : List ℕ) (levels : List Bool) (place : ℕ) → 1 ≤ per → AreLevels threshold per samples levels → IsMixedAt threshold per samples place → ⊥
levels_or_mixed threshold per samples levels place least are at =
    let behind : length levels ≤ at.group = mixed_behind threshold per samples place (length levels) at (levels_before threshold per samples levels are) in
    let far : length levels * per ≤ at.group * per = mul-le-mul_right per behind in
    omega (arith, far, at.whole, at.begins, are.whole, least)

levels_or_rest : (threshold per : ℕ) (samples : List ℕ) (levels : List Bool) (place : ℕ) → AreLevels threshold per samples levels → IsRestAt threshold per samples place → ⊥
levels_or_rest threshold per samples levels place are at =
    let below : at.group < length levels = lt_of_mul-lt-mul_right per (omega (arith, at.begins, at.some, are.whole)) in
    let whole : at.group * per + per ≤ length levels * per = whole_before per at.group (length levels) below in
    omega (arith, whole, at.begins, at.short, are.whole)

mixed_or_rest : (threshold per : ℕ) (samples : List ℕ) (place rest : ℕ) → IsMixedAt threshold per samples place → IsRestAt threshold per samples rest → ⊥
mixed_or_rest threshold per samples place rest at short =
    let behind : short.group ≤ at.group = mixed_behind threshold per samples place short.group at short.before in
    let far : short.group * per ≤ at.group * per = mul-le-mul_right per behind in
    omega (arith, far, at.whole, at.begins, short.begins, short.short)

same_mixed : (threshold per : ℕ) (samples : List ℕ) (left right : ℕ) → IsMixedAt threshold per samples left → IsMixedAt threshold per samples right → left ≡ right
same_mixed threshold per samples left right l r =
    let one : r.group ≤ l.group = mixed_behind threshold per samples left r.group l r.before in
    let other : l.group ≤ r.group = mixed_behind threshold per samples right l.group r l.before in
    let same : l.group ≡ r.group = omega (arith, one, other) in
    l.begins ∙ ap (λ group. group * per) same ∙ sym r.begins

rest_not_behind : (threshold per : ℕ) (samples : List ℕ) (left right : ℕ) → (l : IsRestAt threshold per samples left) → (r : IsRestAt threshold per samples right) → l.group ≤ r.group
rest_not_behind threshold per samples left right l r =
    ⊎_elim
    (λ (below : r.group < l.group). absurd (let whole : r.group * per + per ≤ l.group * per = whole_before per r.group l.group below in omega (arith, whole, l.begins, l.some, r.begins, r.short)))
    (λ (above : l.group ≤ r.group). above)
    (cases_lt r.group l.group)

same_rest : (threshold per : ℕ) (samples : List ℕ) (left right : ℕ) → IsRestAt threshold per samples left → IsRestAt threshold per samples right → left ≡ right
same_rest threshold per samples left right l r =
    let one : l.group ≤ r.group = rest_not_behind threshold per samples left right l r in
    let other : r.group ≤ l.group = rest_not_behind threshold per samples right left r l in
    let same : l.group ≡ r.group = omega (arith, one, other) in
    l.begins ∙ ap (λ group. group * per) same ∙ sym r.begins

pub same_answer : (threshold per : ℕ) (samples : List ℕ) (left right : Result (List Bool) SliceRefusal) → 1 ≤ per → IsSliceAnswer threshold per samples left → IsSliceAnswer threshold per samples right → left ≡ right
same_answer threshold per samples (Ok left) (Ok right) least l r = ap Ok (same_levels threshold per samples left right least l r)
same_answer threshold per samples (Ok left) (Err (Mixed place)) least l r = absurd (levels_or_mixed threshold per samples left place least l r)
same_answer threshold per samples (Ok left) (Err (Rest place)) least l r = absurd (levels_or_rest threshold per samples left place l r)
same_answer threshold per samples (Err (Mixed place)) (Ok right) least l r = absurd (levels_or_mixed threshold per samples right place least r l)
same_answer threshold per samples (Err (Rest place)) (Ok right) least l r = absurd (levels_or_rest threshold per samples right place r l)
same_answer threshold per samples (Err (Mixed place)) (Err (Mixed other)) least l r = ap (λ at. Err (Mixed at)) (same_mixed threshold per samples place other l r)
same_answer threshold per samples (Err (Mixed place)) (Err (Rest other)) least l r = absurd (mixed_or_rest threshold per samples place other l r)
same_answer threshold per samples (Err (Rest place)) (Err (Mixed other)) least l r = absurd (mixed_or_rest threshold per samples other place r l)
same_answer threshold per samples (Err (Rest place)) (Err (Rest other)) least l r = ap (λ at. Err (Rest at)) (same_rest threshold per samples place other l r)
