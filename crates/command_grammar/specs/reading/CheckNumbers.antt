-- 6.3.1.5: which check number goes along with the bits of a command.
use Rattle.std.specs.Prelude.{◌≡◌, Bool, List, [], ◌∷◌, Option, Some, None}
use Rattle.bit_strings.specs.NumbersInBits.{value_of}
use Rattle.gen2_crc.specs.Crc.{crc5_of, RegisterStandsFor}
use Rattle.command_grammar.specs.declared.reader.check.Check.{Check}
use Rattle.command_grammar.specs.declared.reader.check.Check.TheVariants.{Short, Long, Over}
use Rattle.command_grammar.specs.declared.kinds.CheckNumber.{CheckNumber}
use Rattle.command_grammar.specs.declared.kinds.CheckNumber.TheVariants as checks
use Rattle.command_grammar.specs.declared.fields.Field.{Field}
use Rattle.command_grammar.specs.declared.fields.Field.TheVariants as fields
use Rattle.command_grammar.specs.declared.refusal.Reason.{Reason}
use Rattle.command_grammar.specs.declared.refusal.Reason.TheVariants as reasons

-- the register stands for these bits
abbrev pub IsRegisterOf : Check → List Bool → Type 0
IsRegisterOf (Short crc) bits = crc ≡ value_of (crc5_of bits)
IsRegisterOf (Long crc) bits = RegisterStandsFor crc bits
IsRegisterOf Over bits = Unit {0}

-- which one is kept
abbrev pub check_kept : Check → Option Reason
check_kept (Short crc) = Some reasons.Crc5
check_kept (Long crc) = Some reasons.Crc16
check_kept Over = None

-- the one that a command has
abbrev pub check_asked : CheckNumber → Option Reason
check_asked checks.Absent = None
check_asked checks.Crc5 = Some reasons.Crc5
check_asked checks.Crc16 = Some reasons.Crc16

-- the field asks for no other
abbrev pub IsAsked : Option Reason → Field → Type 0
IsAsked kept fields.Crc5 = kept ≡ Some reasons.Crc5
IsAsked kept fields.Crc16 = kept ≡ Some reasons.Crc16
IsAsked kept other = Unit {0}

-- the check number stands last
abbrev pub kept_behind : Option Reason → Field → Option Reason
kept_behind kept fields.Crc5 = None
kept_behind kept fields.Crc16 = None
kept_behind kept other = kept

-- the fields ask for the check number that is kept, and for none behind it
abbrev pub AreServed : Option Reason → List Field → Type 0
AreServed kept [] = Unit {0}
AreServed kept (field ∷ behind) = IsAsked kept field × AreServed (kept_behind kept field) behind
