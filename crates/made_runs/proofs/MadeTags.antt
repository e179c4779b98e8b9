-- The tags of a made scenario, one by one.
use Rattle.std.proofs.Common.{◌≡◌, ℕ, zero, suc, List, [], ◌∷◌, length, map, refl, ap, arith, length-append}
use Rattle.made_runs.specs.Made.{made_group, made_tag, numbers_below}
use Rattle.scenario.specs.Groups.{tags_of}

pub numbers-count : (count : ℕ) → length (numbers_below count) ≡ count
unfolding numbers_below
numbers-count zero = refl
numbers-count (suc count) =
    let all = length-append (numbers_below count) (count ∷ []) in
    let front = numbers-count count in
    omega (arith, all, front)

-- none has copies
pub tags-made : (seed : ℕ) (numbers : List ℕ) → tags_of (map (made_group seed) numbers) ≡ map (made_tag seed) numbers
tags-made seed [] = refl
tags-made seed (number ∷ numbers) = ap (λ tags. made_tag seed number ∷ tags) (tags-made seed numbers)
