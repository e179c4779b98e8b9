use Rattle.std.proofs.Common.{◌*◌, ◌∙◌, false, replicate, ap}
use Rattle.std.specs.Prelude.{bit_xor}
use Rattle.bit_strings.specs.NumbersInBits.{field_of}
use Rattle.gen2_crc.specs.Crc.{remainder_of, others16}
use Rattle.gen2_crc.proofs.WholeWords.{stands_octet}
use Rattle.gen2_crc.proofs.register.Crc16.push_octet.Goals as goal

pub returns : goal.returns
returns c = rw (← c.self.view_is) (λ bits stands.
    stands_octet c.self.inside.register c.args.octet c.shifted_by_octet-self-inside.result bits c.ranges.octet.fits
    record {
      fits = c.shifted_by_octet-self-inside.type_inv;
      later = c.shifted_by_octet-self-inside.ensures ∙ ap (λ n. remainder_of (field_of (bit_xor c.self.inside.register (256 * n)) 16) others16 (replicate 8 false)) c.from.ensures;
    } stands)
