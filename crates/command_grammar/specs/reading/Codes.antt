-- 6.3.2.11, Table 6.18: a command code of which some bits were read, and what it says with its next bit.
use Rattle.std.specs.Prelude.{◌≡◌, Bool, true, false, List, [], ◌∷◌, ◌++◌}
use Rattle.command_grammar.specs.Commands.{code_of}
use Rattle.command_grammar.specs.reading.Readers.{Choice, child, kind_values, pick, none}
use Rattle.command_grammar.specs.declared.kinds.CommandKind.{CommandKind}
use Rattle.command_grammar.specs.declared.kinds.CodeFront.{CodeFront}
use Rattle.command_grammar.specs.declared.kinds.CodeFront.TheVariants as fronts
use Rattle.command_grammar.specs.declared.kinds.CodeStep.{CodeStep}
use Rattle.command_grammar.specs.declared.kinds.CodeStep.TheVariants as steps

-- the bits of a code that were read
abbrev pub bits_of_front : CodeFront → List Bool
bits_of_front fronts.Nothing = []
bits_of_front fronts.Bits0 = false ∷ []
bits_of_front fronts.Bits1 = true ∷ []
bits_of_front fronts.Bits10 = true ∷ false ∷ []
bits_of_front fronts.Bits100 = true ∷ false ∷ false ∷ []
bits_of_front fronts.Bits101 = true ∷ false ∷ true ∷ []
bits_of_front fronts.Bits11 = true ∷ true ∷ []
bits_of_front fronts.Bits110 = true ∷ true ∷ false ∷ []
bits_of_front fronts.Bits1100 = true ∷ true ∷ false ∷ false ∷ []
bits_of_front fronts.Bits11000 = true ∷ true ∷ false ∷ false ∷ false ∷ []
bits_of_front fronts.Bits110000 = true ∷ true ∷ false ∷ false ∷ false ∷ false ∷ []
bits_of_front fronts.Bits110001 = true ∷ true ∷ false ∷ false ∷ false ∷ true ∷ []
bits_of_front fronts.Bits1100000 = true ∷ true ∷ false ∷ false ∷ false ∷ false ∷ false ∷ []
bits_of_front fronts.Bits1100001 = true ∷ true ∷ false ∷ false ∷ false ∷ false ∷ true ∷ []
bits_of_front fronts.Bits1100010 = true ∷ true ∷ false ∷ false ∷ false ∷ true ∷ false ∷ []
bits_of_front fronts.Bits1100011 = true ∷ true ∷ false ∷ false ∷ false ∷ true ∷ true ∷ []
bits_of_front fronts.Bits11001 = true ∷ true ∷ false ∷ false ∷ true ∷ []
bits_of_front fronts.Bits110010 = true ∷ true ∷ false ∷ false ∷ true ∷ false ∷ []
bits_of_front fronts.Bits1100100 = true ∷ true ∷ false ∷ false ∷ true ∷ false ∷ false ∷ []

-- what the bits leave of a choice
abbrev pub left_by : {A : Type 0} → List Bool → Choice A → Choice A
left_by [] t = t
left_by (bit ∷ bits) t = left_by bits (child t bit)

-- the commands whose codes begin with the bits read
abbrev pub behind_code : CodeFront → Choice CommandKind
behind_code front = left_by (bits_of_front front) kind_values

-- the code's bits are those read and the next one
abbrev pub KeepsCode : CodeStep → CodeFront → Bool → Type 0
KeepsCode (steps.More more) front bit = bits_of_front front ++ bit ∷ [] ≡ bits_of_front more
KeepsCode (steps.Is kind) front bit = bits_of_front front ++ bit ∷ [] ≡ code_of kind
KeepsCode steps.Refused front bit = Unit {0}

-- the code's next bit leads on, names the one command left, or leaves none
abbrev pub IsCodeStep : CodeStep → CodeFront → Bool → Type 0
IsCodeStep (steps.More more) front bit = child (behind_code front) bit ≡ behind_code more
IsCodeStep (steps.Is kind) front bit = child (behind_code front) bit ≡ pick kind
IsCodeStep steps.Refused front bit = child (behind_code front) bit ≡ none
