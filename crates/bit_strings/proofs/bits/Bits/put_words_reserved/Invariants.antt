use Rattle.std.proofs.Common.{◌≡◌, ◌++◌, take}
use Rattle.bit_strings.specs.Words.{bits_of_words}
use Rattle.bit_strings.proofs.bits.Bits.put_words_reserved.Given as goal

-- the words so far are written
abbrev pub invariant-loop-word : goal.invariant-loop-word
invariant-loop-word l = record {
  items : l.self.items ≡ l.fn.self.items ++ bits_of_words (take l.word-index l.words);
  capacity : l.self.capacity ≡ l.fn.self.capacity;
}
