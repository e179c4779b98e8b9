-- Words whose bits are the levels of symbols, or tell where these stay: from each symbol to those behind it.
use Rattle.std.proofs.Common.{◌≡◌, ◌∙◌, ◌==◌, ℕ, zero, suc, ◌+◌, ◌*◌, ◌/◌, ◌%◌, ◌^◌, ◌<◌, ◌≤◌, Bool, true, false, List, [], ◌∷◌, length, map, take, take_all, replicate, ap, ap₂, sym, refl, arith}
use Rattle.std.specs.Prelude.{bit_and, bit_xor}
use Rattle.std.specs.Simd.Lanes.{mask_l}
use Rattle.std.proofs.Math.Bool.{cond}
use Rattle.std.proofs.lemmas.Nat.{and_block, xor_block, mod-pow-add}
use Rattle.bit_strings.specs.NumbersInBits.{digit_of}
use Rattle.fm0_line.specs.Stays.{same, stays, odds}
use Rattle.fm0_line.proofs.Symbols.{evens}

pub length-stays : (before : Bool) (levels : List Bool) → length (stays before levels) ≡ length levels
length-stays before [] = refl
length-stays before (level ∷ levels) = ap suc (length-stays level levels)

one_place : (before level : Bool) → bit_xor (cond level 1 0) (cond before 1 0) + cond (same before level) 1 0 ≡ 1
one_place true true = refl
one_place true false = refl
one_place false true = refl
one_place false false = refl

pub digit_lt : (bit : Bool) → cond bit 1 0 < 2 ^ 1
digit_lt true = omega arith
digit_lt false = omega arith

-- what is left of a number that is doubled, where it is cut
cut : (digit rest n : ℕ) → digit < 2 ^ 1 → (rest * 2 + digit) % 2 ^ suc n ≡ (rest % 2 ^ n) * 2 ^ 1 + digit
cut digit rest n small =
    let half : (rest * 2 + digit) / 2 ^ 1 ≡ rest = omega (arith, small) in
    let odd : (rest * 2 + digit) % 2 ^ 1 ≡ digit = omega (arith, small) in
    ap (λ (k : ℕ). (rest * 2 + digit) % 2 ^ k) (omega arith) ∙ mod-pow-add (rest * 2 + digit) n 1 ∙ ap₂ (λ (a b : ℕ). (a % 2 ^ n) * 2 ^ 1 + b) half odd

-- a word and the levels before its levels, compared at each place
pub compared : (n : ℕ) (before : Bool) (levels : List Bool) → length levels ≡ n
    → bit_xor (mask_l levels) ((mask_l levels * 2 + cond before 1 0) % 2 ^ n) + mask_l (stays before levels) + 1 ≡ 2 ^ n
compared zero before [] long = omega arith
compared (suc n) before [] long = absurd (omega (arith, long))
compared zero before (level ∷ levels) long = absurd (omega (arith, long))
compared (suc n) before (level ∷ levels) long =
    let more = mask_l levels in
    let shifted = (more * 2 + cond level 1 0) % 2 ^ n in
    let whole : mask_l (level ∷ levels) ≡ more * 2 ^ 1 + cond level 1 0 = omega arith in
    let left : (mask_l (level ∷ levels) * 2 + cond before 1 0) % 2 ^ suc n ≡ shifted * 2 ^ 1 + cond before 1 0 =
    cut (cond before 1 0) (mask_l (level ∷ levels)) n (digit_lt before) ∙ ap (λ (k : ℕ). (k % 2 ^ n) * 2 ^ 1 + cond before 1 0) (omega arith) in
    let split : bit_xor (mask_l (level ∷ levels)) ((mask_l (level ∷ levels) * 2 + cond before 1 0) % 2 ^ suc n) ≡ bit_xor more shifted * 2 ^ 1 + bit_xor (cond level 1 0) (cond before 1 0) =
    ap₂ bit_xor whole left ∙ xor_block 1 more shifted (cond level 1 0) (cond before 1 0) (digit_lt level) (digit_lt before) in
    omega (arith, split, one_place before level, compared n level levels (omega (arith, long)))

-- the first places of so many symbols
abbrev pub firsts : ℕ → ℕ
firsts zero = 0
firsts (suc n) = firsts n * 2 ^ 2 + 1

at_first : (first second : Bool) → bit_and (cond first 1 0 + 2 * cond second 1 0) 1 ≡ cond first 1 0
at_first true true = refl
at_first true false = refl
at_first false true = refl
at_first false false = refl

two_places : (first second : Bool) → cond first 1 0 + 2 * cond second 1 0 < 2 ^ 2
two_places true true = omega arith
two_places true false = omega arith
two_places false true = omega arith
two_places false false = omega arith

is_clear : (bit : Bool) → cond bit 1 0 < 1 → bit ≡ false
is_clear true small = absurd (omega (arith, small))
is_clear false small = refl

-- where no first place is set, none of them is true
pub none_set : (n : ℕ) (places : List Bool) → length places ≡ 2 * n → bit_and (mask_l places) (firsts n) ≡ 0 → evens places ≡ replicate n false
none_set zero [] long clear = refl
none_set (suc n) [] long clear = absurd (omega (arith, long))
none_set n (first ∷ []) long clear = absurd (omega (arith, long))
none_set zero (first ∷ second ∷ more) long clear = absurd (omega (arith, long))
none_set (suc n) (first ∷ second ∷ more) long clear =
    let pair = cond first 1 0 + 2 * cond second 1 0 in
    let whole : mask_l (first ∷ second ∷ more) ≡ mask_l more * 2 ^ 2 + pair = omega arith in
    let split : bit_and (mask_l (first ∷ second ∷ more)) (firsts (suc n)) ≡ bit_and (mask_l more) (firsts n) * 2 ^ 2 + bit_and pair 1 =
    ap (λ (k : ℕ). bit_and k (firsts (suc n))) whole ∙ and_block 2 (mask_l more) (firsts n) pair 1 (two_places first second) (omega arith) in
    let here = is_clear first (omega (arith, clear, split, at_first first second)) in
    let rest = none_set n more (omega (arith, long)) (omega (arith, clear, split)) in
    ap₂ (λ (bit : Bool) (bits : List Bool). bit ∷ bits) here rest

-- the second places of so many symbols
abbrev pub seconds : ℕ → ℕ → List ℕ
seconds zero word = []
seconds (suc n) word = word / 2 % 2 ∷ seconds n (word / 4)

at_second : (first second : Bool) (more : ℕ) → (cond first 1 0 + 2 * (cond second 1 0 + 2 * more)) / 2 % 2 ≡ digit_of second
at_second true true more = omega arith
at_second true false more = omega arith
at_second false true more = omega arith
at_second false false more = omega arith

behind_pair : (first second : Bool) (more : ℕ) → (cond first 1 0 + 2 * (cond second 1 0 + 2 * more)) / 4 ≡ more
behind_pair true true more = omega arith
behind_pair true false more = omega arith
behind_pair false true more = omega arith
behind_pair false false more = omega arith

pub seconds_of : (n : ℕ) (places : List Bool) → length places ≡ 2 * n → seconds n (mask_l places) ≡ map digit_of (odds places)
seconds_of zero [] long = refl
seconds_of (suc n) [] long = absurd (omega (arith, long))
seconds_of n (first ∷ []) long = absurd (omega (arith, long))
seconds_of zero (first ∷ second ∷ more) long = absurd (omega (arith, long))
seconds_of (suc n) (first ∷ second ∷ more) long =
    ap₂ (λ (digit : ℕ) (digits : List ℕ). digit ∷ digits) (at_second first second (mask_l more))
    (ap (seconds n) (behind_pair first second (mask_l more)) ∙ seconds_of n more (omega (arith, long)))

pub length-odds : (n : ℕ) (places : List Bool) → length places ≡ 2 * n → length (odds places) ≡ n
length-odds zero [] long = refl
length-odds (suc n) [] long = absurd (omega (arith, long))
length-odds n (first ∷ []) long = absurd (omega (arith, long))
length-odds zero (first ∷ second ∷ more) long = absurd (omega (arith, long))
length-odds (suc n) (first ∷ second ∷ more) long = ap suc (length-odds n more (omega (arith, long)))

digits_back : (bits : List Bool) → map (λ digit. digit == 1) (map digit_of bits) ≡ bits
digits_back [] = refl
digits_back (true ∷ bits) = ap (λ (rest : List Bool). true ∷ rest) (digits_back bits)
digits_back (false ∷ bits) = ap (λ (rest : List Bool). false ∷ rest) (digits_back bits)

-- the bits that are told by digits, all of which are written
pub told : (bits whole : List Bool) (digits : List ℕ) (at : ℕ) → length bits ≤ at → length digits ≤ at → take at bits ≡ map (λ digit. digit == 1) (take at digits) → digits ≡ map digit_of whole → bits ≡ whole
told bits whole digits at so_many so_few written are =
    sym (take_all at bits so_many) ∙ written ∙ ap (λ (ds : List ℕ). map (λ digit. digit == 1) ds) (take_all at digits so_few ∙ are) ∙ digits_back whole
