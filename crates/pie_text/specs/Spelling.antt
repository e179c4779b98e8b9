-- Profile: a field that spells a number, in decimal digits without leading zeros.
use Rattle.std.specs.Prelude.{◌≡◌, ℕ, ◌≤◌, List}
use Rattle.std.specs.Fmt.{decimal}
use Rattle.std.specs.Str.Parse.{digits_value}

-- the number that a field of decimal digits stands for
abbrev pub decimal_value : List ℕ → ℕ
decimal_value field = digits_value 10 field

-- the field spells a number up to most
pub record IsNumberUpTo (most : ℕ) (field : List ℕ) : Type 0 where
  pub spelling : field ≡ decimal (decimal_value field)
  pub within : decimal_value field ≤ most
