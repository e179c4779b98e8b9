use Rattle.std.proofs.Common.{◌≡◌, ◌≤◌, ◌-◌, length, take}
use Rattle.std.specs.Str.Parse.{AllDigits}
use Rattle.pie_text.specs.Spelling.{decimal_value}
use Rattle.pie_text.proofs.leading.leading_number.Given as goal

-- the bytes so far are digits of a number up to `most`
abbrev pub invariant-loop-end : goal.invariant-loop-end
invariant-loop-end l = record {
  within : l.end ≤ length l.text;
  digits : AllDigits 10 (take l.end l.text);
  value : l.number ≡ decimal_value (take l.end l.text);
  few : l.number ≤ l.most;
}

abbrev pub decreases-loop-end : goal.decreases-loop-end
decreases-loop-end l = length l.text - l.end
