use Rattle.bit_strings.proofs.Masks.{word_digits}
use Rattle.bit_strings.proofs.words.digits_of.Goals as goal

pub returns : goal.returns
returns c = rw c.to_be_bytes.ensures (word_digits c.args.word)
