use Rattle.std.proofs.Common.{ap, arith, length, length-append}
use Rattle.bit_strings.specs.BitString.{BitString}
use Rattle.bit_strings.specs.Words.{bits_of_words}
use Rattle.bit_strings.specs.laws.Words.{length-bits_of_words}
use Rattle.command_grammar.proofs.reading.WordFields.{are_words}
use Rattle.command_grammar.proofs.writing.put_words.Goals as goal

pub returns-clause-count : goal.returns-clause-count
returns-clause-count c =
    omega (arith, ap (λ (bits : BitString). length bits.items) c.put_words_reserved.ensures, length-append c.args.out.now.items (bits_of_words c.args.words.now), length-bits_of_words c.args.words.now)

pub returns-clause-words : goal.returns-clause-words
returns-clause-words c = are_words c.args.words.now (λ k. omega (arith, c.type_inv.words k))
