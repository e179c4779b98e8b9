use Rattle.std.proofs.Common.{List, Bool, take, ◌++◌}
use Rattle.bit_strings.specs.Words.{bits_of_words}
use Rattle.gen2_crc.specs.Crc.{RegisterStandsFor}
use Rattle.gen2_crc.proofs.register.Crc16.push_words.Given as goal

abbrev pub invariant-loop-word : goal.invariant-loop-word
invariant-loop-word l = (front : List Bool) → RegisterStandsFor l.fn.self front → RegisterStandsFor l.self (front ++ bits_of_words (take l.word-index l.words))
