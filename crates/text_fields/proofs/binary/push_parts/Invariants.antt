use Rattle.std.proofs.Common.{◌≡◌, ◌++◌, length, map}
use Rattle.std.specs.String.{string_bytes}
use Rattle.text_fields.specs.Binary.{binary_digit}
use Rattle.text_fields.proofs.binary.push_parts.Given as goal

-- the digits that are still to be written make the text whole
abbrev pub invariant-loop-part : goal.invariant-loop-part
invariant-loop-part l =
    string_bytes l.text ++ map binary_digit l.rest ≡ string_bytes l.initial.text ++ map binary_digit l.bits

abbrev pub decreases-loop-part : goal.decreases-loop-part
decreases-loop-part l = length l.rest
