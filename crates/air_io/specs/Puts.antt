-- What a write answers, case by case. Profile.
use Rattle.std.specs.Prelude.{ℕ, Bool, true, false, ⊤}
use Rattle.air_io.specs.declared.sink.Put.{Put}
use Rattle.air_io.specs.declared.sink.Put.TheVariants.{Took, Failed}

-- A fact about the number of bytes, where the write added some. Profile.
abbrev pub IfPut : Put → (ℕ → Type 0) → Type 0
IfPut (Took count) P = P count
IfPut Failed P = ⊤

-- A fact that holds where the write failed. Profile.
abbrev pub OnWriteFailed : Put → Type 0 → Type 0
OnWriteFailed (Took count) P = ⊤
OnWriteFailed Failed P = P

-- A fact that holds where the write did not fail. Profile.
abbrev pub UnlessWriteFailed : Put → Type 0 → Type 0
UnlessWriteFailed (Took count) P = P
UnlessWriteFailed Failed P = ⊤

-- Whether the write failed. Profile.
abbrev pub is_failed_write : Put → Bool
is_failed_write (Took count) = false
is_failed_write Failed = true
