-- What callers use of the check numbers.
use Rattle.std.specs.Prelude.{◌≡◌, ◌<◌, Bool, List, length, not}
use Rattle.std.proofs.Common.{◌∙◌, ap, sym, arith}
use Rattle.std.proofs.lemmas.List.{length-map}
use Rattle.bit_strings.specs.NumbersInBits.{value_of, field_of}
use Rattle.bit_strings.specs.laws.NumbersInBits.{field_of-value_of, value_of-within}
use Rattle.gen2_crc.specs.Crc.{crc5_of, crc16_of, register_of, preset5, others5, preset16, others16}
use Rattle.gen2_crc.specs.laws.Division.{length-remainder_of}

pub length-register_of : (bits : List Bool) → length (register_of bits) ≡ 16
unfolding register_of
length-register_of bits = length-remainder_of preset16 others16 bits (omega arith) (omega arith)

pub length-crc5_of : (bits : List Bool) → length (crc5_of bits) ≡ 5
unfolding crc5_of
length-crc5_of bits = length-remainder_of preset5 others5 bits (omega arith) (omega arith)

pub length-crc16_of : (message : List Bool) → length (crc16_of message) ≡ 16
unfolding crc16_of
length-crc16_of message = length-map (register_of message) not ∙ length-register_of message

-- what is sent for a check number is the list of its bits
pub field_of-crc16 : (message : List Bool) → field_of (value_of (crc16_of message)) 16 ≡ crc16_of message
field_of-crc16 message = ap (λ n. field_of (value_of (crc16_of message)) n) (sym (length-crc16_of message)) ∙ field_of-value_of (crc16_of message)

-- a check number of five bits is below 32
pub crc5_of-below : (bits : List Bool) → value_of (crc5_of bits) < 32
crc5_of-below bits = value_of-within (crc5_of bits) 5 (omega (arith, length-crc5_of bits))
