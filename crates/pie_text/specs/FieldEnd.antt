-- Where the first field of a text ends: at its first space, or where it has none at its end.
use Rattle.std.specs.Prelude.{◌≡◌, ◌⊎◌, ◌≤◌, ℕ, List, length, slice_index}
use Rattle.text_fields.specs.Lines.{space}

-- the text is at its end there, or has a space
abbrev pub IsFieldEnd : List ℕ → ℕ → Type 0
IsFieldEnd text end = (end ≤ length text) × ((end ≡ length text) ⊎ (slice_index text end ≡ space))
