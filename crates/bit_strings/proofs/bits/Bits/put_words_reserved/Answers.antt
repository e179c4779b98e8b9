use Rattle.std.proofs.Common.{ap, arith, List, Bool, length, length-append, length-take, take}
use Rattle.bit_strings.specs.Words.{bits_of_words}
use Rattle.bit_strings.specs.laws.Words.{length-bits_of_words}
use Rattle.bit_strings.proofs.bits.Bits.put_words_reserved.Goals as goal

pub put_u16_reserved-requires : goal.put_u16_reserved-requires
put_u16_reserved-requires c =
    let so_far = take c.loop-word.word-index c.args.words.now in
    omega (
      arith,
      c.requires,
      c.loop-word-test.true,
      c.loop-word.invariant.capacity,
      ap (λ (bits : List Bool). length bits) c.loop-word.invariant.items,
      length-append c.args.self.now.items (bits_of_words so_far),
      length-bits_of_words so_far,
      length-take c.loop-word.word-index c.args.words.now,
    )
