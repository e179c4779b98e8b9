-- Profile: what a contract sees of a text that is kept as it is written.
use Rattle.std.specs.Prelude.{ℕ, List}

-- the bytes that were written, and how many writes failed
pub record PlainValue : Type 0 where
  pub written : List ℕ
  pub faults : ℕ
