-- What is read where an extensible bit vector is looked for.
use Rattle.std.specs.Prelude.{ℕ, ◌-◌, ◌≤◌, ◌≡◌, Bool, List, length, drop}
use Rattle.bit_strings.specs.NumbersInBits.{part_of}
use Rattle.bit_strings.specs.Ebv.{IsEbv, BeginsWithNothing, IsTooLong, IsCutEbv}
use Rattle.bit_strings.specs.declared.ebv.Ebv.{Ebv}
use Rattle.bit_strings.specs.declared.ebv.Ebv.TheVariants.{Value, Short, NotShortest, TooLong}
use Rattle.bit_strings.specs.declared.ebv_front.EbvStep.{EbvStep}
use Rattle.bit_strings.specs.declared.ebv_front.EbvStep.TheVariants as steps

-- the bits from one place up to another are the extensible bit vector of a number
pub record HasEbvAt (bits : List Bool) (from number next : ℕ) : Type 0 where
  pub forward : from ≤ next
  pub within : next ≤ length bits
  pub vector : IsEbv number (part_of bits from (next - from))

-- what an answer says of the bits from a place on
abbrev pub IsEbvAnswer : Ebv → List Bool → ℕ → Type 0
IsEbvAnswer (Value number next) bits from = HasEbvAt bits from number next
IsEbvAnswer Short bits from = IsCutEbv (drop from bits)
IsEbvAnswer NotShortest bits from = BeginsWithNothing (drop from bits)
IsEbvAnswer TooLong bits from = IsTooLong (drop from bits)

-- what a step says of the bits with the one that it took
abbrev pub IsEbvStep : EbvStep → List Bool → Type 0
IsEbvStep (steps.More front) bits = (front ≡ bits) × IsCutEbv bits
IsEbvStep (steps.Value number) bits = IsEbv number bits
IsEbvStep steps.NotShortest bits = BeginsWithNothing bits
IsEbvStep steps.TooLong bits = IsTooLong bits
