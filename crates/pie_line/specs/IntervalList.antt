use Rattle.bit_strings.specs.ItemList.{ItemList}
use Rattle.std.specs.Prelude.{ℕ}

-- Profile: what a contract sees of a list of intervals, in nanoseconds.
abbrev pub IntervalList : Type 0
IntervalList = ItemList ℕ
