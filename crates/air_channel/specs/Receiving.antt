-- Profile: a tag's receiver, which takes the intervals of a frame one by one and reads a command from them bit by bit.
use Rattle.std.specs.Prelude.{ℕ, Bool, List}
use Rattle.command_grammar.specs.reading.Framing.{FramerValue, FramerStandsFor}
use Rattle.pie_line.specs.Edges.{EdgesValue, EdgesStandFor}

-- it took these intervals, and its framer each bit that was read from them
pub record HasTaken (edges : EdgesValue) (framer : FramerValue) (intervals : List ℕ) : Type 0 where
  pub bits : List Bool
  pub read : EdgesStandFor edges bits intervals
  pub framed : FramerStandsFor framer bits
