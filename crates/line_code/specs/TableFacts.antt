-- What holds of each line code, as facts on its table.
use Rattle.std.specs.Prelude.{◌≡◌, ◌≢◌, ℕ, ◌<◌, ◌≤◌, Bool, true, false, not, List, ◌++◌, length, Option, Some, None, slice_get, slice_set}
use Rattle.line_code.specs.Table.{Context, Table}
use Rattle.line_code.specs.Stream.{blocks, Streams}

-- each block has the same number of levels, from 1 to 16
pub record IsEven (t : Table) (chips : ℕ) : Type 0 where
  pub least : 1 ≤ chips
  pub most : chips ≤ 16
  pub blocks_even : (c : Context) (bit : Bool) → length (t.block c bit) ≡ chips

-- how many levels the longest lead has: that of Miller with M = 8 and TRext 1, 22 symbols of 16 levels
abbrev pub longest_lead : ℕ
longest_lead = 352

-- a preamble stands before the data
abbrev pub HasLead : Table → Type 0
HasLead t = (trext : Bool) → 1 ≤ length (t.lead trext)

-- in one context the blocks of 0 and of 1 differ
abbrev pub TellsBits : Table → Type 0
TellsBits t = (c : Context) → t.block c false ≢ t.block c true

-- the inverse of the level that stands at a place of a stream; false where none stands there
abbrev pub inverse_of : Option Bool → Bool
inverse_of (Some level) = not level
inverse_of None = false

-- the levels, with the one at a place inverted
abbrev pub with_level_flipped : List Bool → ℕ → List Bool
with_level_flipped levels at = slice_set levels at (inverse_of (slice_get levels at))

-- a table whose blocks have one number of levels and tell the bits apart, so that a stream is that of one list of bits
pub record CodeTable : Type 0 where
  pub table : Table
  pub chips : ℕ
  pub even : IsEven table chips
  pub tells : TellsBits table

-- no stream with one level flipped is a stream of the same code and TRext
abbrev pub RefusesFlips : Table → Type 0
RefusesFlips t = (trext : Bool) (levels : List Bool) (at : ℕ) → at < length levels → Streams t trext levels → ¬ Streams t trext (with_level_flipped levels at)

-- no list of data blocks of the line code begins with its lead, for TRext 0 or 1
abbrev pub HidesLead : Table → Type 0
HidesLead t = (trext : Bool) (c : Context) (bits rest : List Bool) → blocks t c bits ≢ t.lead trext ++ rest
