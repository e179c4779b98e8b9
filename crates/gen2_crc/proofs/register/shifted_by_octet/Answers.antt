use Rattle.gen2_crc.proofs.WholeWords.{octet_later}
use Rattle.gen2_crc.proofs.register.shifted_by_octet.Goals as goal

pub returns : goal.returns
returns c = octet_later c.args.register c.ranges.register.fits
