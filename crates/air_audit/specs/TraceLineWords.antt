-- Profile: what a line of a trace is by the word that it begins with.
use Rattle.std.specs.Prelude.{ℕ, List, ◌||◌, codes, if◌then◌else◌}
use Rattle.std.specs.Str.{bytes_eq}
use Rattle.report_lines.specs.ReadLines.{first_field}
use Rattle.air_audit.specs.declared.trace_line_words.Word.{Word}
use Rattle.air_audit.specs.declared.trace_line_words.Word.TheVariants as words

-- what a line is that begins with this word: lines of operations, of ends of rounds and of counts are not judged; those of tags have the last line among them
abbrev pub word_of : List ℕ → Word
word_of word =
    if bytes_eq word (codes "tx") then words.Tx else
    if bytes_eq word (codes "rx") then words.Rx else
    if bytes_eq word (codes "list") then words.List else
    if bytes_eq word (codes "op") || bytes_eq word (codes "round") || bytes_eq word (codes "seen") then words.Unjudged else
    if bytes_eq word (codes "tag") || bytes_eq word (codes "done") then words.OfTags else words.Other

-- what a line of a trace is, by the word that it begins with
abbrev pub word_of_line : List ℕ → Word
word_of_line line = word_of (first_field line)
