-- What a refusal to read a source to its end says. Profile.
use Rattle.std.specs.Prelude.{ℕ, ◌+◌, ⊤}
use Rattle.air_io.specs.declared.transfer.ReadEnd.{ReadEnd}
use Rattle.air_io.specs.declared.transfer.ReadEnd.TheVariants.{Fault, TooLong, OutOfMemory}

-- How many bytes were read at most: the limit is passed, by one byte, at `TooLong` alone. Profile.
abbrev pub most_read : ReadEnd → ℕ → ℕ
most_read Fault limit = limit
most_read TooLong limit = limit + 1
most_read OutOfMemory limit = limit

-- A fact that holds where no read failed. Profile.
abbrev pub UnlessFault : ReadEnd → Type 0 → Type 0
UnlessFault Fault P = ⊤
UnlessFault TooLong P = P
UnlessFault OutOfMemory P = P
