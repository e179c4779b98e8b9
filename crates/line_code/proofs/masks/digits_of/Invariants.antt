use Rattle.std.proofs.Common.{◌≡◌, length, map, take}
use Rattle.bit_strings.specs.NumbersInBits.{digit_of}
use Rattle.line_code.proofs.masks.digits_of.Given as goal

-- the digits so far are those of their levels
abbrev pub invariant-loop-at : goal.invariant-loop-at
invariant-loop-at l = record {
  written : take l.at l.digits ≡ map digit_of (take l.at l.levels);
  count : length l.digits ≡ 16;
}
