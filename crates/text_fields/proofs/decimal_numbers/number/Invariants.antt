use Rattle.std.proofs.Common.{◌≡◌, ◌≤◌, take}
use Rattle.std.specs.Str.Parse.{AllDigits, digits_value}
use Rattle.text_fields.proofs.decimal_numbers.number.Given as goal

-- the bytes so far are digits of a number up to `most`
abbrev pub invariant-loop-digit : goal.invariant-loop-digit
invariant-loop-digit l = record {
  digits : AllDigits 10 (take l.digit-index l.field);
  value : l.number ≡ digits_value 10 (take l.digit-index l.field);
  within : l.number ≤ l.most;
}
