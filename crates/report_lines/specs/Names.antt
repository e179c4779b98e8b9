-- Profile: which lines have a name, and what lines become with their names.
use Rattle.std.specs.Prelude.{◌≡◌, ◌≢◌, ◌⊎◌, ℕ, ◌^◌, ◌<◌, List, [], ◌∷◌, codes}
use Rattle.std.specs.List.{AllZip, flat_map}
use Rattle.text_fields.specs.Lines.{fields_of, text_with}
use Rattle.text_fields.specs.Hexadecimal.{hex_word, hex_words}
use Rattle.epc_sgtin.specs.SgtinValue.{SgtinValue}
use Rattle.epc_sgtin.specs.Epc.{IsSgtin}
use Rattle.epc_sgtin.specs.SgtinText.{name_line}

-- the line is `list ROUND SLOT PC EPC`, PC four hexadecimal digits and EPC the words of this SGTIN; ROUND and SLOT are any
-- fields that are not empty
pub record IsNamed (line : List ℕ) (sgtin : SgtinValue) : Type 0 where
  pub round : List ℕ
  pub slot : List ℕ
  pub pc : ℕ
  pub words : List ℕ
  pub fields : fields_of line ≡ codes "list" ∷ round ∷ slot ∷ hex_word pc ∷ hex_words words ∷ []
  pub round_filled : round ≢ []
  pub slot_filled : slot ≢ []
  pub pc_range : pc < 2 ^ 16
  pub epc : IsSgtin sgtin words

-- the line has a name
abbrev pub HasName : List ℕ → Type 0
HasName line = (sgtin : SgtinValue) × IsNamed line sgtin

-- the line becomes these lines: itself, and behind it its name, where it has one
abbrev pub BecomesLines : List ℕ → List (List ℕ) → Type 0
BecomesLines line lines =
    ((sgtin : SgtinValue) × IsNamed line sgtin × (lines ≡ line ∷ name_line sgtin ∷ []))
    ⊎ ((¬ HasName line) × (lines ≡ line ∷ []))

-- the text is these lines, each with its name behind it
pub record AreWithNames (lines : List (List ℕ)) (text : List ℕ) : Type 0 where
  pub pieces : List (List (List ℕ))
  pub each : AllZip BecomesLines lines pieces
  pub text_is : text ≡ flat_map text_with pieces
