-- Profile: how every text that the program reads is laid out. Each line ends with one line feed, and
-- the fields of a line are separated by one space.
use Rattle.std.specs.Prelude.{◌≢◌, ◌==◌, ℕ, List, [], ◌∷◌, ◌++◌, All}
use Rattle.std.specs.List.{flat_map, join_with_byte, slice_split}

-- the byte that ends each line of a text
abbrev pub line_feed : ℕ
line_feed = 10

-- the byte that separates two fields of a line
abbrev pub space : ℕ
space = 32

-- the pieces of a text between the places where the byte stands; one piece, the whole text, where it
-- stands nowhere
abbrev pub pieces_between : ℕ → List ℕ → List (List ℕ)
pieces_between byte text = slice_split (λ each. each == byte) text

-- the lines of a text: the last one is what stands behind the last line feed
abbrev pub lines_of : List ℕ → List (List ℕ)
lines_of text = pieces_between line_feed text

-- the fields of a line: its pieces between the spaces
abbrev pub fields_of : List ℕ → List (List ℕ)
fields_of line = pieces_between space line

-- the line with these fields
abbrev pub line_with : List (List ℕ) → List ℕ
line_with fields = join_with_byte space fields

-- these fields behind others: each is a space and the field
abbrev pub fields_behind : List (List ℕ) → List ℕ
fields_behind fields = flat_map (λ field. space ∷ field) fields

-- the text with these lines
abbrev pub text_with : List (List ℕ) → List ℕ
text_with lines = flat_map (λ line. line ++ line_feed ∷ []) lines

-- the byte stands nowhere in the text
abbrev pub Lacks : ℕ → List ℕ → Type 0
Lacks byte text = All (λ each. each ≢ byte) text

-- what may stand as one field of a line: it is not empty, and has neither a space nor a line feed
pub record IsFieldText (text : List ℕ) : Type 0 where
  pub filled : text ≢ []
  pub no_space : Lacks space text
  pub no_line_feed : Lacks line_feed text
