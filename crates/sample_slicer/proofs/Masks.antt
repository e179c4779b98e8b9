-- What the mask of samples tells of them.
use Rattle.std.proofs.Common.{◌≡◌, ◌≢◌, ℕ, ◌+◌, ◌-◌, ◌*◌, ◌/◌, ◌%◌, ◌^◌, ◌<◌, ◌≤◌, Bool, true, false, cond, leb, List, [], ◌∷◌, ◌++◌, length, take, drop, map, replicate, refl, sym, ◌∙◌, ap, subst, arith, w8, bit_and, get_or, IfNone, Option, Some, None, inl, inr, ◌⊎◌, not, nat_eq}
use Rattle.std.specs.Simd.Lanes.{mask_l, zip2, top}
use Rattle.std.proofs.lemmas.Simd.{tops_compared, zip2_splat_left, mask_l-mod, mask_l-lt, get_or-chunk}
use Rattle.std.proofs.lemmas.Bool.{eqb-true, leb-true, leb-false, le-leb, lt-leb, cases_lt}
use Rattle.std.specs.List.{slice_range}
use Rattle.std.proofs.lemmas.List.{length-map, length-drop, length-take-le, take-append-drop, take-take, drop-take, drop-drop}
use Rattle.std.proofs.lemmas.List.Elements.{All-take, All-drop}
use Rattle.std.proofs.lemmas.Nat.{mod_low, shr_high, shl_whole, and_mask, pow_pos}
use Rattle.std.proofs.Math.Nat.{pow-suc}
use Rattle.std.proofs.lemmas.Bool.Decides.{nat_tests}
use Rattle.sample_slicer.specs.Masks.{sample_mask_of}
use Rattle.sample_slicer.specs.Samples.{IsOnSide, IsPure}
use Rattle.sample_slicer.proofs.PureGroups.{pure_none, pure_more, pure_first, pure_rest}

-- the mask of lanes that were compared with the threshold
pub mask_of_lanes : (threshold : ℕ) (lanes : List ℕ) → length lanes ≡ 32
    → mask_l (map (top 7) (zip2 (λ a b. cond (leb a b) 255 0) (replicate 32 threshold) lanes)) % 2 ^ 64 ≡ sample_mask_of threshold lanes
mask_of_lanes threshold lanes long =
    let tops = tops_compared w8 leb (replicate 32 threshold) lanes ∙ zip2_splat_left leb threshold 32 lanes long in
    ap (λ ms. mask_l ms % 2 ^ 64) tops ∙ mask_l-mod (map (leb threshold) lanes) 64 (rw length-map (omega (arith, long)))

-- a mask has no bit but those of its samples
mask_below : (threshold : ℕ) (samples : List ℕ) → sample_mask_of threshold samples < 2 ^ length samples
mask_below threshold samples = subst (λ n. sample_mask_of threshold samples < 2 ^ n) (length-map samples (leb threshold)) (mask_l-lt (map (leb threshold) samples))

-- the masks of samples and of those behind them
mask_append : (threshold : ℕ) (front behind : List ℕ) → sample_mask_of threshold (front ++ behind) ≡ sample_mask_of threshold behind * 2 ^ length front + sample_mask_of threshold front
mask_append threshold [] behind = omega arith
mask_append threshold (sample ∷ front) behind =
    rw (mask_append threshold front behind, pow-suc 2 (length front)) (omega arith)

-- the lowest bits are those of the first samples
pub mask_take : (threshold per : ℕ) (samples : List ℕ) → per ≤ length samples → sample_mask_of threshold samples % 2 ^ per ≡ sample_mask_of threshold (take per samples)
mask_take threshold per samples room =
    let count : length (take per samples) ≡ per = length-take-le per samples room in
    let below : sample_mask_of threshold (take per samples) < 2 ^ per = subst (λ n. sample_mask_of threshold (take per samples) < 2 ^ n) count (mask_below threshold (take per samples)) in
    let cut = ap (sample_mask_of threshold) (sym (take-append-drop per samples)) ∙ mask_append threshold (take per samples) (drop per samples) in
    rw (cut, count) (mod_low (sample_mask_of threshold (drop per samples)) per (sample_mask_of threshold (take per samples)) below)

-- and the others are those of the samples behind them
pub mask_drop : (threshold per : ℕ) (samples : List ℕ) → per ≤ length samples → sample_mask_of threshold samples / 2 ^ per ≡ sample_mask_of threshold (drop per samples)
mask_drop threshold per samples room =
    let count : length (take per samples) ≡ per = length-take-le per samples room in
    let below : sample_mask_of threshold (take per samples) < 2 ^ per = subst (λ n. sample_mask_of threshold (take per samples) < 2 ^ n) count (mask_below threshold (take per samples)) in
    let cut = ap (sample_mask_of threshold) (sym (take-append-drop per samples)) ∙ mask_append threshold (take per samples) (drop per samples) in
    rw (cut, count) (shr_high (sample_mask_of threshold (drop per samples)) per (sample_mask_of threshold (take per samples)) below)

-- a mask without bits is that of samples below the threshold
low_bit : (threshold sample rest : ℕ) (high : Bool) → leb threshold sample ≡ high → cond high 1 0 + 2 * rest ≡ 0 → (sample < threshold) × (rest ≡ 0)
low_bit threshold sample rest true is none = absurd (omega (arith, none))
low_bit threshold sample rest false is none = (leb-false threshold sample is, omega (arith, none))

pub low_mask : (threshold : ℕ) (group : List ℕ) → sample_mask_of threshold group ≡ 0 → IsPure threshold false group
low_mask threshold [] none = pure_none threshold false
low_mask threshold (sample ∷ group) none =
    let bit = low_bit threshold sample (sample_mask_of threshold group) (leb threshold sample) refl none in
    pure_more threshold false sample group bit.0 (low_mask threshold group bit.1)

-- a mask with all bits is that of samples at or above the threshold
high_bit : (threshold sample rest power : ℕ) (high : Bool) → leb threshold sample ≡ high → cond high 1 0 + 2 * rest + 1 ≡ power * 2 → (threshold ≤ sample) × (rest + 1 ≡ power)
high_bit threshold sample rest power true is all = (leb-true threshold sample is, omega (arith, all))
high_bit threshold sample rest power false is all = absurd (omega (arith, all))

pub high_mask : (threshold : ℕ) (group : List ℕ) → sample_mask_of threshold group + 1 ≡ 2 ^ length group → IsPure threshold true group
high_mask threshold [] all = pure_none threshold true
high_mask threshold (sample ∷ group) all =
    let bit = high_bit threshold sample (sample_mask_of threshold group) (2 ^ length group) (leb threshold sample) refl (all ∙ pow-suc 2 (length group)) in
    pure_more threshold true sample group bit.0 (high_mask threshold group bit.1)

-- and samples on one side have such a mask
pub mask_low : (threshold : ℕ) (group : List ℕ) → IsPure threshold false group → sample_mask_of threshold group ≡ 0
mask_low threshold [] pure = refl
mask_low threshold (sample ∷ group) pure =
    rw (lt-leb threshold sample (pure_first threshold false sample group pure), mask_low threshold group (pure_rest threshold false sample group pure)) refl

pub mask_high : (threshold : ℕ) (group : List ℕ) → IsPure threshold true group → sample_mask_of threshold group + 1 ≡ 2 ^ length group
mask_high threshold [] pure = refl
mask_high threshold (sample ∷ group) pure =
    let rest = mask_high threshold group (pure_rest threshold true sample group pure) in
    rw (le-leb threshold sample (pure_first threshold true sample group pure), pow-suc 2 (length group)) (omega (arith, rest))

-- samples whose mask is neither have no one level
pub no_level : (threshold mask all : ℕ) (group : List ℕ) → mask ≢ 0 → mask ≢ all → mask ≡ sample_mask_of threshold group → all + 1 ≡ 2 ^ length group
    → (level : Bool) → ¬ IsPure threshold level group
no_level threshold mask all group some not_all is all_is false pure = some (is ∙ mask_low threshold group pure)
no_level threshold mask all group some not_all is all_is true pure = not_all (omega (arith, is, all_is, mask_high threshold group pure))

-- samples whose mask is one of them have the level that it tells
level_told : (threshold mask all : ℕ) (group : List ℕ) (none : Bool) → nat_eq mask 0 ≡ none → (mask ≡ 0) ⊎ (mask ≡ all) → mask ≡ sample_mask_of threshold group
    → all + 1 ≡ 2 ^ length group → IsPure threshold (not none) group
level_told threshold mask all group true tells either is all_is = low_mask threshold group (sym is ∙ eqb-true mask 0 tells)
level_told threshold mask all group false tells (inl low) is all_is = absurd (grind (arith, nat_tests))
level_told threshold mask all group false tells (inr high) is all_is = high_mask threshold group (omega (arith, high, is, all_is))

pub one_level : (threshold mask all : ℕ) (group : List ℕ) → (mask ≡ 0) ⊎ (mask ≡ all) → mask ≡ sample_mask_of threshold group → all + 1 ≡ 2 ^ length group
    → IsPure threshold (not (nat_eq mask 0)) group
one_level threshold mask all group either is all_is = level_told threshold mask all group (nat_eq mask 0) refl either is all_is

-- groups on one side have one mask
same_mask : (threshold : ℕ) (left right : List ℕ) (level : Bool) → length left ≡ length right → IsPure threshold level left → IsPure threshold level right
    → sample_mask_of threshold left ≡ sample_mask_of threshold right
same_mask threshold left right false count l r = mask_low threshold left l ∙ sym (mask_low threshold right r)
same_mask threshold left right true count l r =
    let powers : 2 ^ length left ≡ 2 ^ length right = ap (λ n. 2 ^ n) count in
    omega (arith, powers, mask_high threshold left l, mask_high threshold right r)

-- all bits of a mask of `per` samples
pub all_bits : (per : ℕ) → per ≤ 32 → 1 * 2 ^ per % 2 ^ 64 - 1 + 1 ≡ 2 ^ per
all_bits per most =
    let shifted : 1 * 2 ^ per % 2 ^ 64 ≡ 1 * 2 ^ per = shl_whole 1 1 per 64 (omega arith) (omega arith) in
    omega (arith, shifted, pow_pos per)

-- and of a mask of 32 samples
pub all_lanes : (samples : List ℕ) → 32 ≤ length samples → 4294967295 + 1 ≡ 2 ^ length (take 32 samples)
all_lanes samples room = ap (λ n. 2 ^ n) (sym (length-take-le 32 samples room))

-- a group that is whole has `per` samples
pub group_length : (per place : ℕ) (samples : List ℕ) → place + per ≤ length samples → length (slice_range samples place (place + per)) ≡ per
group_length per place samples room =
    let size : place + per - place ≡ per = omega arith in
    length-take-le (place + per - place) (drop place samples) (rw length-drop (omega (arith, room))) ∙ size

-- the mask of the samples that are left of a block, from a place on, a group of them or more
pub record LeftOfBlock (threshold per place left mask : ℕ) (samples : List ℕ) : Type 0 where
  pub mask_is : mask ≡ sample_mask_of threshold (take left (drop place samples))
  pub within : place + left ≤ length samples
  pub some : per ≤ left

-- its lowest bits are those of the group there
pub group_mask : (threshold per place left mask all : ℕ) (samples : List ℕ) → LeftOfBlock threshold per place left mask samples → all + 1 ≡ 2 ^ per
    → bit_and mask all ≡ sample_mask_of threshold (slice_range samples place (place + per))
group_mask threshold per place left mask all samples is all_is =
    let size : per ≡ place + per - place = omega arith in
    let low : all ≡ 2 ^ per - 1 = omega (arith, all_is) in
    let count : length (take left (drop place samples)) ≡ left = length-take-le left (drop place samples) (rw length-drop (omega (arith, is.within))) in
    ap (λ n. bit_and mask n) low ∙ and_mask mask per ∙ ap (λ n. n % 2 ^ per) is.mask_is
    ∙ mask_take threshold per (take left (drop place samples)) (omega (arith, count, is.some))
    ∙ ap (sample_mask_of threshold) (take-take per left (drop place samples) is.some)
    ∙ ap (λ n. sample_mask_of threshold (take n (drop place samples))) size

-- and the others those of the samples behind it
pub behind_mask : (threshold per place left mask : ℕ) (samples : List ℕ) → LeftOfBlock threshold per place left mask samples
    → mask / 2 ^ per ≡ sample_mask_of threshold (take (left - per) (drop (place + per) samples))
behind_mask threshold per place left mask samples is =
    let count : length (take left (drop place samples)) ≡ left = length-take-le left (drop place samples) (rw length-drop (omega (arith, is.within))) in
    let split : left ≡ per + (left - per) = omega (arith, is.some) in
    ap (λ n. n / 2 ^ per) is.mask_is
    ∙ mask_drop threshold per (take left (drop place samples)) (omega (arith, count, is.some))
    ∙ ap (λ n. sample_mask_of threshold (drop per (take n (drop place samples)))) split
    ∙ ap (sample_mask_of threshold) (drop-take per (left - per) (drop place samples))
    ∙ ap (λ (list : List ℕ). sample_mask_of threshold (take (left - per) list)) (drop-drop per place samples)

-- a group of 32 to 64 samples is on the side that its first 32 and its last 32 samples are on
pub long_pure : (threshold back : ℕ) (level : Bool) (group : List ℕ) → 32 ≤ length group → length group ≤ 64 → back + 32 ≡ length group
    → IsPure threshold level (take 32 group) → IsPure threshold level (take 32 (drop back group)) → IsPure threshold level group
long_pure threshold back level group least most stands front behind k default below =
    elim (cases_lt k 32) [
      | inl first ↦
          let count : length (take 32 group) ≡ 32 = length-take-le 32 group least in
          let place : 0 + k ≡ k = omega arith in
          subst (IsOnSide threshold level) (get_or-chunk 0 32 group k default first ∙ ap (λ i. get_or group i default) place) (front k default (omega (arith, count, first)))
      | inr last ↦
          let count : length (take 32 (drop back group)) ≡ 32 = length-take-le 32 (drop back group) (rw length-drop (omega (arith, stands))) in
          let within : k - back < 32 = omega (arith, stands, below) in
          let place : back + (k - back) ≡ k = omega (arith, stands, most, last) in
          subst (IsOnSide threshold level) (get_or-chunk back 32 group (k - back) default within ∙ ap (λ i. get_or group i default) place)
          (behind (k - back) default (omega (arith, count, within)))
    ]

pub long_front : (threshold : ℕ) (level : Bool) (group : List ℕ) → IsPure threshold level group → IsPure threshold level (take 32 group)
long_front threshold level group pure = All-take (IsOnSide threshold level) 32 group pure

pub long_back : (threshold back : ℕ) (level : Bool) (group : List ℕ) → IsPure threshold level group → IsPure threshold level (take 32 (drop back group))
long_back threshold back level group pure = All-take (IsOnSide threshold level) 32 (drop back group) (All-drop (IsOnSide threshold level) back group pure)

-- where the two masks differ there is no one level
pub long_mixed : (threshold back : ℕ) (group : List ℕ) → 32 ≤ length group → back + 32 ≡ length group
    → sample_mask_of threshold (take 32 group) ≢ sample_mask_of threshold (take 32 (drop back group)) → (level : Bool) → ¬ IsPure threshold level group
long_mixed threshold back group least stands differ level pure =
    let front : length (take 32 group) ≡ 32 = length-take-le 32 group least in
    let behind : length (take 32 (drop back group)) ≡ 32 = length-take-le 32 (drop back group) (rw length-drop (omega (arith, stands))) in
    differ (same_mask threshold (take 32 group) (take 32 (drop back group)) level (front ∙ sym behind) (long_front threshold level group pure) (long_back threshold back level group pure))

pub none_then : {A : Type 0} {P Q : Type 0} (answer : Option A) → IfNone answer P → (P → Q) → IfNone answer Q
none_then None holds gives = gives holds
none_then (Some x) holds gives = tt
