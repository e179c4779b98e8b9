-- Profile: the line that reports the first faulty line of a text.
use Rattle.std.specs.Prelude.{ℕ, List, [], ◌∷◌, ◌++◌, codes}
use Rattle.std.specs.Fmt.{decimal}
use Rattle.text_fields.specs.Lines.{line_feed}

-- the number of the faulty line, counted from 1, and the word of the reason, as a line with its line feed
abbrev pub fault_line : ℕ → List ℕ → List ℕ
fault_line number reason = codes "fault " ++ decimal number ++ codes " " ++ reason ++ line_feed ∷ []
