use Rattle.gen2_crc.proofs.WholeWords.{word_later}
use Rattle.gen2_crc.proofs.register.shifted_by_word.Goals as goal

pub returns : goal.returns
returns c = word_later c.args.register c.ranges.register.fits
