use Rattle.std.proofs.Common.{◌≡◌, ◌≤◌, ◌++◌, length, map}
use Rattle.text_fields.specs.Binary.{binary_digit}
use Rattle.wire_text.proofs.command_lists.mask_of_digits.Given as goal

-- the mask holds the bits of the digits so far
abbrev pub invariant-loop-bit : goal.invariant-loop-bit
invariant-loop-bit l = record {
  spelled : l.digits ≡ map binary_digit l.mask ++ l.rest;
  few : length l.mask ≤ 255;
}

abbrev pub decreases-loop-bit : goal.decreases-loop-bit
decreases-loop-bit l = length l.rest
