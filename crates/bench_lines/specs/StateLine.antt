-- The line that tells what a tag at the bench is: its state, its flags, and the numbers of the state (profile).
use Rattle.std.specs.Prelude.{ℕ, List, [], ◌∷◌, ◌++◌, codes, Option, Some, None}
use Rattle.std.specs.Fmt.{decimal}
use Rattle.text_fields.specs.Lines.{fields_behind, line_with}
use Rattle.text_fields.specs.Hexadecimal.{hex_word}
use Rattle.report_lines.specs.ReportLine.{flags_word, state_word}
use Rattle.tag_machine.specs.declared.state_numbers.StateNumbers.{StateNumbers}
use Rattle.tag_machine.specs.declared.state_numbers.StateNumbers.TheVariants as numbers
use Rattle.tag_machine.specs.declared.states.Half.{Half}
use Rattle.tag_machine.specs.declared.states.Password.{Password}
use Rattle.tag_machine.specs.declared.states.Password.TheVariants as passwords
use Rattle.tag_machine.specs.StateNames.{name_of}
use Rattle.tag_machine.specs.StateNumbers.{numbers_of}
use Rattle.tag_machine.specs.TagValue.{TagValue}

-- the cover of a tag as a field of a probe's answer, or a hyphen
abbrev pub cover_word : Option ℕ → List ℕ
cover_word None = codes "-"
cover_word (Some cover) = hex_word cover

-- the first half of a password that a tag holds, as a field of a probe's answer with the password's name, or a hyphen
abbrev pub password_word : Password → List ℕ
password_word passwords.Kill = codes "kill-"
password_word passwords.Access = codes "access-"

abbrev pub half_word : Option Half → List ℕ
half_word None = codes "-"
half_word (Some half) = password_word half.password ++ hex_word half.value

-- the fields of a probe's answer that tell the numbers of the tag's state
abbrev pub number_fields : StateNumbers → List (List ℕ)
number_fields numbers.None = []
number_fields (numbers.Waiting session q slot) = decimal session ∷ decimal q ∷ decimal slot ∷ []
number_fields (numbers.Replied session q rn) = decimal session ∷ decimal q ∷ hex_word rn ∷ []
number_fields (numbers.Held held) =
    decimal held.session ∷ decimal held.q ∷ hex_word held.handle ∷ cover_word held.cover ∷ half_word held.half ∷ []

-- what the tag is behind the line of this number: its state, its flags, and the numbers of the state
abbrev pub state_line : ℕ → TagValue → List ℕ
state_line number tag =
    line_with (codes "state" ∷ decimal number ∷ state_word (name_of tag.state) ∷ flags_word tag.body.flags ∷ [])
    ++ fields_behind (number_fields (numbers_of tag.state))
