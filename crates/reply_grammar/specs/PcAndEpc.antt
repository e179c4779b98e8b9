-- Profile: a PC with an EPC, as one EPC reply brings them, are told apart by their words alone.
use Rattle.std.specs.Prelude.{ℕ, ◌==◌, ◌&&◌, nat_eq, Bool, List}
use Rattle.std.specs.Cmp.Lexicographic.{pointwise}

-- two pairs are one
abbrev pub same_pair : ℕ × List ℕ → ℕ × List ℕ → Bool
same_pair one other = one.0 == other.0 && pointwise nat_eq one.1 other.1
