use Rattle.std.proofs.Common.{◌≡◌, map, take}
use Rattle.text_fields.specs.WordLists.{first_word}
use Rattle.text_fields.proofs.word_lists.write_words.Given as goal

-- the places so far hold the words of their groups
abbrev pub invariant-loop-at : goal.invariant-loop-at
invariant-loop-at l = take l.at l.out ≡ map first_word (take l.at l.groups)
