-- The numbers of levels, of which the first is the lowest bit.
use Rattle.std.proofs.Common.{◌≡◌, ℕ, zero, suc, ◌+◌, ◌*◌, ◌^◌, Bool, List, [], ◌∷◌, ◌++◌, length, arith}
use Rattle.std.specs.Simd.Lanes.{mask_l}

double : (a n : ℕ) → a * 2 ^ suc n ≡ 2 * (a * 2 ^ n)
double a n = grind arith

-- the number of levels and of levels behind them
pub mask-append : (front back : List Bool) (n : ℕ) → length front ≡ n → mask_l (front ++ back) ≡ mask_l back * 2 ^ n + mask_l front
mask-append [] back zero long = omega arith
mask-append [] back (suc n) long = absurd (omega (arith, long))
mask-append (level ∷ front) back zero long = absurd (omega (arith, long))
mask-append (level ∷ front) back (suc n) long = omega (arith, mask-append front back n (omega (arith, long)), double (mask_l back) n)
