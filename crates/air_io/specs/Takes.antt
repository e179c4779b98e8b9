-- What a read answers, case by case. Profile.
use Rattle.std.specs.Prelude.{ℕ, Bool, true, false, ⊤}
use Rattle.air_io.specs.declared.source.Take.{Take}
use Rattle.air_io.specs.declared.source.Take.TheVariants.{Took, End, Failed}

-- A fact about the number of bytes, where the read took some. Profile.
abbrev pub IfTook : Take → (ℕ → Type 0) → Type 0
IfTook (Took count) P = P count
IfTook End P = ⊤
IfTook Failed P = ⊤

-- A fact that holds where the read met the end. Profile.
abbrev pub OnEnd : Take → Type 0 → Type 0
OnEnd (Took count) P = ⊤
OnEnd End P = P
OnEnd Failed P = ⊤

-- A fact that holds where the read failed. Profile.
abbrev pub OnReadFailed : Take → Type 0 → Type 0
OnReadFailed (Took count) P = ⊤
OnReadFailed End P = ⊤
OnReadFailed Failed P = P

-- A fact that holds where the read did not fail. Profile.
abbrev pub UnlessReadFailed : Take → Type 0 → Type 0
UnlessReadFailed (Took count) P = P
UnlessReadFailed End P = P
UnlessReadFailed Failed P = ⊤

-- Whether the read failed. Profile.
abbrev pub is_failed_read : Take → Bool
is_failed_read (Took count) = false
is_failed_read End = false
is_failed_read Failed = true
