-- What a list of intervals can be (profile): a frame, bad from a place on, or the front of a frame.
use Rattle.std.specs.Prelude.{◌≡◌, ℕ, ◌⊎◌, List}
use Rattle.bit_strings.specs.Family.{IsBadAt, IsShortAt}
use Rattle.pie_line.specs.declared.frame.PieRefusal.{PieRefusal}
use Rattle.pie_line.specs.Pie.{Frames}
use Rattle.pie_line.specs.Refusal.{RefusesFrame}

-- exactly one of the three holds, with one place and one refusal
pub record HasOneAnswer (intervals : List ℕ) : Type 0 where
  pub some : Frames intervals ⊎ (((place : ℕ) × IsBadAt Frames intervals place) ⊎ ((count : ℕ) × IsShortAt Frames intervals count))
  pub frame_not_bad : (place : ℕ) → Frames intervals → ¬ IsBadAt Frames intervals place
  pub frame_not_short : (count : ℕ) → Frames intervals → ¬ IsShortAt Frames intervals count
  pub short_not_bad : (count place : ℕ) → IsShortAt Frames intervals count → ¬ IsBadAt Frames intervals place
  pub one_place : (place other : ℕ) → IsBadAt Frames intervals place → IsBadAt Frames intervals other → place ≡ other
  pub one_refusal : (refusal other : PieRefusal) → RefusesFrame refusal intervals → RefusesFrame other intervals → refusal ≡ other
