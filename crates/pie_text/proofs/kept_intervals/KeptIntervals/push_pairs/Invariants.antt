use Rattle.std.proofs.Common.{◌≡◌, ◌≤◌, ◌++◌, length, map, take}
use Rattle.std.specs.Fmt.{decimal}
use Rattle.std.specs.Str.{IsAscii}
use Rattle.std.specs.String.{string_bytes}
use Rattle.text_fields.specs.Lines.{fields_behind}
use Rattle.pie_text.proofs.kept_intervals.KeptIntervals.push_pairs.Given as goal

-- the text, what fills the room and the intervals that are left make the whole text
abbrev pub invariant-loop-pair : goal.invariant-loop-pair
invariant-loop-pair l = record {
  whole : string_bytes l.text ++ (take l.filled l.self.room ++ fields_behind (map decimal l.rest))
      ≡ string_bytes l.fn.text ++ (take l.fn.filled l.fn.self.room ++ fields_behind (map decimal l.fn.intervals));
  few : l.filled ≤ 512;
  ascii : IsAscii (take l.filled l.self.room);
}

abbrev pub decreases-loop-pair : goal.decreases-loop-pair
decreases-loop-pair l = length l.rest
