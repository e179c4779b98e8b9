use Rattle.gen2_crc.proofs.WholeWords.{stands_word}
use Rattle.gen2_crc.proofs.register.Crc16.push_word.Goals as goal

pub returns : goal.returns
returns c = rw (← c.self.view_is) (λ bits stands.
    stands_word c.self.inside.register c.args.word c.shifted_by_word-self-inside.result bits
    record { fits = c.shifted_by_word-self-inside.type_inv; later = c.shifted_by_word-self-inside.ensures } stands)
