-- Symbols, one behind the other.
use Rattle.std.specs.Prelude.{ℕ, Bool, true, List}
use Rattle.line_code.specs.Stream.{blocks}
use Rattle.miller_line.specs.Miller.{miller}

-- the levels of symbols, by the phase at the start of the first and by their bits
abbrev pub symbols : ℕ → Bool → List Bool → List Bool
symbols m start bits = blocks (miller m) (record { before = true; phase = start }) bits
