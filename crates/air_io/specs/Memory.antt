-- What contracts see of a source and a sink over memory whose calls fail where they are told to. Profile.
use Rattle.std.specs.Prelude.{ℕ, List}

-- The bytes not yet read, the numbers of the calls that fail, and how many calls there were and failed. Profile.
pub record SourceMemory : Type 0 where
  pub left : List ℕ
  pub failing : List ℕ
  pub calls : ℕ
  pub faults : ℕ

-- The bytes written, how many there may be, the numbers of the calls that fail, and how many calls there were and failed. Profile.
pub record SinkMemory : Type 0 where
  pub written : List ℕ
  pub room : ℕ
  pub failing : List ℕ
  pub calls : ℕ
  pub faults : ℕ
