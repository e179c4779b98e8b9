use Rattle.std.proofs.Common.{◌≡◌, take}
use Rattle.std.specs.Str.Parse.{digits_value}
use Rattle.epc_sgtin.specs.UriFaults.{AreDigits}
use Rattle.epc_sgtin.proofs.digits.number_of.Given as goal

-- the bytes so far are digits, and write the number
abbrev pub invariant-loop-byte : goal.invariant-loop-byte
invariant-loop-byte l = record {
  digits : AreDigits (take l.byte-index l.part);
  value : l.number ≡ digits_value 10 (take l.byte-index l.part);
}
