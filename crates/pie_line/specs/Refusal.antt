-- Why a list of intervals is no frame (profile).
use Rattle.std.specs.Prelude.{◌≡◌, ℕ, ◌==◌, ◌||◌, ◌⊎◌, List, nat_le, slice_index, if◌then◌else◌}
use Rattle.bit_strings.specs.Family.{IsBadAt, IsShortAt}
use Rattle.pie_line.specs.declared.frame.PieRefusal.{PieRefusal}
use Rattle.pie_line.specs.declared.frame.PieRefusal.TheVariants.{Delimiter, Tari, RtCal, TrCal, Symbol, Unfinished}
use Rattle.pie_line.specs.Pie.{Frames}

-- the name of a bad place: a pair of the header, or from place 5 on a symbol. At 5 and 6 an interval that
-- lasts might have made a TRcal.
abbrev pub refusal_at : ℕ → ℕ → PieRefusal
refusal_at place interval =
    if place == 0 then Delimiter else
    if nat_le place 2 then Tari else
    if nat_le place 4 then RtCal else
    if nat_le 7 place || interval == 0 then Symbol place else TrCal

-- the list begins no frame from this place on, and the refusal is the place's name
pub record IsFrameRefusedAt (refusal : PieRefusal) (intervals : List ℕ) (place : ℕ) : Type 0 where
  pub bad : IsBadAt Frames intervals place
  pub named : refusal ≡ refusal_at place (slice_index intervals place)

-- the whole list, with this number of intervals, begins a frame and is none
pub record IsUnfinishedAt (refusal : PieRefusal) (intervals : List ℕ) (count : ℕ) : Type 0 where
  pub short : IsShortAt Frames intervals count
  pub named : refusal ≡ Unfinished count

-- the refusal is that of the list
abbrev pub RefusesFrame : PieRefusal → List ℕ → Type 0
RefusesFrame refusal intervals = ((place : ℕ) × IsFrameRefusedAt refusal intervals place) ⊎ ((count : ℕ) × IsUnfinishedAt refusal intervals count)
