use Rattle.std.proofs.Common.{◌≡◌, map, take}
use Rattle.text_fields.specs.Binary.{binary_digit}
use Rattle.text_fields.proofs.binary.write_digits.Given as goal

-- the places so far hold the digits of their bits
abbrev pub invariant-loop-at : goal.invariant-loop-at
invariant-loop-at l = take l.at l.digits ≡ map binary_digit (take l.at l.bits)
