-- A check number as a field is its bits.
use Rattle.std.proofs.Common.{◌≡◌, ℕ, List, Bool, ap, sym, ◌∙◌}
use Rattle.bit_strings.specs.NumbersInBits.{value_of, field_of}
use Rattle.bit_strings.specs.laws.NumbersInBits.{field_of-value_of}
use Rattle.gen2_crc.specs.Crc.{crc5_of, crc16_of}
use Rattle.gen2_crc.specs.laws.CheckNumbers.{length-crc5_of, length-crc16_of}

pub crc5-field : (bits : List Bool) (number : ℕ) → number ≡ value_of (crc5_of bits) → field_of number 5 ≡ crc5_of bits
crc5-field bits number e = ap (λ n. field_of n 5) e ∙ ap (λ n. field_of (value_of (crc5_of bits)) n) (sym (length-crc5_of bits)) ∙ field_of-value_of (crc5_of bits)

pub crc16-field : (bits : List Bool) (number : ℕ) → number ≡ value_of (crc16_of bits) → field_of number 16 ≡ crc16_of bits
crc16-field bits number e = ap (λ n. field_of n 16) e ∙ ap (λ n. field_of (value_of (crc16_of bits)) n) (sym (length-crc16_of bits)) ∙ field_of-value_of (crc16_of bits)
