-- A line code as a table (6.3.1.3.2 of the standard): what stands before the data, and what one bit is spelled as.
use Rattle.std.specs.Prelude.{Bool, List}

-- what the block of a bit depends on in a line code: the bit before it, and the phase in which the block before it ended
pub record Context : Type 0 where
  pub before : Bool
  pub phase : Bool

-- a line code, by what it puts before the data and by the levels of each bit
pub record Table : Type 0 where
  -- pilot and preamble, for TRext 0 and 1
  pub lead : Bool → List Bool
  -- the context of the first bit
  pub start : Context
  -- the levels of a bit
  pub block : Context → Bool → List Bool
  -- the context of the bit after it
  pub next : Context → Bool → Context
