-- How many levels the lead has, and which of them where the pilot is shorter.
use Rattle.std.specs.Prelude.{◌≡◌, ◌≤◌, ℕ, ◌-◌, ◌*◌, Bool, true, false, List, length, take, drop, refl}
use Rattle.std.proofs.Common.{arith, inl, inr, length-append}
use Rattle.miller_line.specs.Miller.{IsOneOfThree, miller_lead}
use Rattle.miller_line.specs.laws.Miller.{length-carrier}

most_levels : (m : ℕ) (trext : Bool) → m ≤ 8 → length (miller_lead m trext) ≤ 352
most_levels m true most = simp (length-append, length-carrier) (omega (arith, most))
most_levels m false most = simp (length-append, length-carrier) (omega (arith, most))

pub few_levels : (m : ℕ) (trext : Bool) → IsOneOfThree m → length (miller_lead m trext) ≤ 352
few_levels m trext (inl two) = most_levels m trext (omega (arith, two))
few_levels m trext (inr (inl four)) = most_levels m trext (omega (arith, four))
few_levels m trext (inr (inr eight)) = most_levels m trext (omega (arith, eight))

-- the pilot with TRext 0 lacks 12 symbols
pub shorter : (m : ℕ) (lead : List Bool) → IsOneOfThree m → lead ≡ miller_lead m true → take (length lead - 24 * m) (drop (24 * m) lead) ≡ miller_lead m false
shorter m lead (inl two) is = rw (is, two) refl
shorter m lead (inr (inl four)) is = rw (is, four) refl
shorter m lead (inr (inr eight)) is = rw (is, eight) refl
