use Rattle.std.proofs.Common.{List, ℕ, All, Contains, IsUtf8}
use Rattle.text_fields.specs.Lines.{fields_of}
use Rattle.gen2_library.proofs.words.has_unreadable_word.Given as goal

-- where the words that are left are UTF-8, all are; and they are words of the text
abbrev pub invariant-loop-field : goal.invariant-loop-field
invariant-loop-field l =
    (All IsUtf8 l.fields → All IsUtf8 (fields_of l.text)) × ((word : List ℕ) → Contains l.fields word → Contains (fields_of l.text) word)
