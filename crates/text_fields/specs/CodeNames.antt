-- Profile: the names of the line codes in the program's texts.
use Rattle.std.specs.Prelude.{ℕ, List, codes}
use Rattle.bit_strings.specs.declared.code.Code.{Code}
use Rattle.bit_strings.specs.declared.code.Code.TheVariants.{Fm0, M2, M4, M8}

-- the name of a line code
abbrev pub code_word : Code → List ℕ
code_word Fm0 = codes "fm0"
code_word M2 = codes "m2"
code_word M4 = codes "m4"
code_word M8 = codes "m8"
