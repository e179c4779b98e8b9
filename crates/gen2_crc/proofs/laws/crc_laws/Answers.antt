use Rattle.std.proofs.Common.{◌≡◌, Bool, List, ◌∙◌, ap, sym}
use Rattle.bit_strings.specs.NumbersInBits.{value_of, field_of}
use Rattle.bit_strings.specs.laws.NumbersInBits.{field_of-value_of}
use Rattle.gen2_crc.specs.Crc.{crc5_of}
use Rattle.gen2_crc.specs.laws.CheckNumbers.{length-crc5_of, length-crc16_of, field_of-crc16}
use Rattle.gen2_crc.proofs.laws.crc_laws.Goals as goal

field_of-crc5 : (message : List Bool) → field_of (value_of (crc5_of message)) 5 ≡ crc5_of message
field_of-crc5 message = ap (λ n. field_of (value_of (crc5_of message)) n) (sym (length-crc5_of message)) ∙ field_of-value_of (crc5_of message)

pub returns : goal.returns
returns c = record { five = length-crc5_of; sixteen = length-crc16_of; field5 = field_of-crc5; field16 = field_of-crc16 }
