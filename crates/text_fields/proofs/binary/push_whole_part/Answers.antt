-- Digits are ASCII.
use Rattle.text_fields.proofs.BinaryLaws.{IsAscii-digits}
use Rattle.text_fields.proofs.binary.push_whole_part.Goals as goal

pub push_ascii-requires : goal.push_ascii-requires
push_ascii-requires c = rw c.write_digits.ensures (IsAscii-digits c.args.bits.now)
