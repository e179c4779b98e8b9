-- 6.3.2.11 Interrogator commands and tag replies: which bits spell which command. Bits go most significant first. Whatever is said of
-- one command alone stands here: its code, its fields, the command that has their values, its spelling and the ranges of its numbers.
use Rattle.std.specs.Prelude.{◌≡◌, ℕ, ◌+◌, ◌^◌, ◌<◌, ◌≤◌, ◌==◌, Bool, true, false, List, [], ◌∷◌, ◌++◌, length, map, take, codes, Option, Some, None, Result, Ok, Err, ◌⊎◌}
use Rattle.std.specs.List.{flat_map, AllByRecursion}
use Rattle.bit_strings.specs.NumbersInBits.{field_of}
use Rattle.bit_strings.specs.Words.{bits_of_words}
use Rattle.bit_strings.specs.Ebv.{ebv_of}
use Rattle.bit_strings.specs.Family.{IsBadAt, IsShortAt}
use Rattle.bit_strings.specs.declared.code.Code.{Code}
use Rattle.bit_strings.specs.declared.code.Code.TheVariants.{Fm0, M2, M4, M8}
use Rattle.gen2_crc.specs.Crc.{crc5_of, crc16_of}
use Rattle.command_grammar.specs.declared.kinds.CommandKind.{CommandKind}
use Rattle.command_grammar.specs.declared.kinds.CommandKind.TheVariants as kinds
use Rattle.command_grammar.specs.declared.fields.Field.{Field}
use Rattle.command_grammar.specs.declared.fields.Field.TheVariants as fields
use Rattle.command_grammar.specs.declared.reader.fields.Fields.{Fields}
use Rattle.command_fields.specs.declared.choices.Sel.{Sel}
use Rattle.command_fields.specs.declared.choices.Sel.TheVariants as sels
use Rattle.command_fields.specs.declared.choices.Side.{Side}
use Rattle.command_fields.specs.declared.choices.Side.TheVariants.{A, B}
use Rattle.command_fields.specs.declared.choices.UpDn.{UpDn}
use Rattle.command_fields.specs.declared.choices.UpDn.TheVariants.{Up, Same, Down}
use Rattle.command_fields.specs.declared.choices.Bank.{Bank}
use Rattle.command_fields.specs.declared.choices.Bank.TheVariants as banks
use Rattle.command_fields.specs.declared.choices.MaskBank.{MaskBank}
use Rattle.command_fields.specs.declared.choices.MaskBank.TheVariants as mask_banks
use Rattle.command_fields.specs.declared.choices.FlagName.{FlagName}
use Rattle.command_fields.specs.declared.choices.FlagName.TheVariants as flags
use Rattle.command_grammar.specs.declared.commands.Command.{Command}
use Rattle.command_grammar.specs.declared.commands.Command.TheVariants.{QueryRep, Ack, Query, QueryAdjust, Select, Nak, ReqRn, Read, Write, Kill, Lock, Access, BlockWrite, BlockErase}
use Rattle.command_grammar.specs.declared.refusal.CommandRefusal.{CommandRefusal}
use Rattle.command_grammar.specs.declared.refusal.CommandRefusal.TheVariants as refusals
use Rattle.command_grammar.specs.declared.refusal.Pushed.{Pushed}
use Rattle.command_grammar.specs.declared.refusal.Pushed.TheVariants as pushed
use Rattle.command_grammar.specs.declared.refusal.Reason.{Reason}
use Rattle.command_grammar.specs.declared.refusal.Reason.TheVariants as reasons

-- the room, in bits, in which each command fits
abbrev pub command_room : ℕ
command_room = 4170

-- a field of a command: the reason for which a bit in it may be refused, where one may be, and its bits
pub record Part : Type 0 where
  pub name : Option Reason
  pub bits : List Bool

-- the bits that the characters 0 and 1 name
abbrev pub bits_of_text : List ℕ → List Bool
bits_of_text digits = map (λ digit. digit == 49) digits

-- one field: any bits of its width may stand in it
abbrev pub plain_field : List Bool → List Part
plain_field bits = record { name = None; bits = bits } ∷ []

-- one field, in which some bits may not stand
abbrev pub named_field : Reason → List Bool → List Part
named_field reason bits = record { name = Some reason; bits = bits } ∷ []

-- the bits of all fields, one behind the other
abbrev pub bits_of : List Part → List Bool
bits_of parts = flat_map (λ part. part.bits) parts

-- the bits of a command's field of one bit
abbrev pub digit : Bool → List Bool
digit bit = bit ∷ []

-- 6.3.2.11.2.1 Query: the two bits of M, by the line code that it asks for
abbrev pub bits_of_m : Code → List Bool
bits_of_m Fm0 = false ∷ false ∷ []
bits_of_m M2 = false ∷ true ∷ []
bits_of_m M4 = true ∷ false ∷ []
bits_of_m M8 = true ∷ true ∷ []

-- 6.3.2.11.2.1 Query: the two bits of Sel, by what it says of the selected flag
abbrev pub bits_of_sel : Sel → List Bool
bits_of_sel sels.All00 = false ∷ false ∷ []
bits_of_sel sels.All01 = false ∷ true ∷ []
bits_of_sel sels.NotSl = true ∷ false ∷ []
bits_of_sel sels.Sl = true ∷ true ∷ []

-- 6.3.2.11.2.1 Query: the bit of Target, by the value of the inventoried flag
abbrev pub bits_of_query_target : Side → List Bool
bits_of_query_target A = false ∷ []
bits_of_query_target B = true ∷ []

-- 6.3.2.11.2.2 QueryAdjust: the three bits of UpDn, by what becomes of Q
abbrev pub bits_of_updn : UpDn → List Bool
bits_of_updn Up = true ∷ true ∷ false ∷ []
bits_of_updn Same = false ∷ false ∷ false ∷ []
bits_of_updn Down = false ∷ true ∷ true ∷ []

-- 6.3.2.11.1.1 Select: the three bits of Target, by the flag that it names
abbrev pub bits_of_select_target : FlagName → List Bool
bits_of_select_target flags.S0 = false ∷ false ∷ false ∷ []
bits_of_select_target flags.S1 = false ∷ false ∷ true ∷ []
bits_of_select_target flags.S2 = false ∷ true ∷ false ∷ []
bits_of_select_target flags.S3 = false ∷ true ∷ true ∷ []
bits_of_select_target flags.Sl = true ∷ false ∷ false ∷ []

-- 6.3.2.11.1.1 Select, MemBank; profile: no mask is compared with the Reserved bank
abbrev pub bits_of_mask_bank : MaskBank → List Bool
bits_of_mask_bank mask_banks.Epc = false ∷ true ∷ []
bits_of_mask_bank mask_banks.Tid = true ∷ false ∷ []
bits_of_mask_bank mask_banks.User = true ∷ true ∷ []

-- 6.3.2.11.3.2 Read: the two bits of MemBank, by the bank
abbrev pub bits_of_bank : Bank → List Bool
bits_of_bank banks.Reserved = false ∷ false ∷ []
bits_of_bank banks.Epc = false ∷ true ∷ []
bits_of_bank banks.Tid = true ∷ false ∷ []
bits_of_bank banks.User = true ∷ true ∷ []

-- Annex F: the check number stands last and is computed over the bits before it: by the CRC-5
abbrev pub with_crc5 : List Part → List Part
with_crc5 parts = parts ++ named_field reasons.Crc5 (crc5_of (bits_of parts))

-- Annex F: the CRC-16 stands last and is computed over the bits before it
abbrev pub with_crc16 : List Part → List Part
with_crc16 parts = parts ++ named_field reasons.Crc16 (crc16_of (bits_of parts))

-- all kinds of commands, in the order of their codes
abbrev pub all_kinds : List CommandKind
all_kinds =
    kinds.QueryRep ∷ kinds.Ack ∷ kinds.Query ∷ kinds.QueryAdjust ∷ kinds.Select ∷ kinds.Nak ∷ kinds.ReqRn ∷ kinds.Read ∷ kinds.Write
    ∷ kinds.Kill ∷ kinds.Lock ∷ kinds.Access ∷ kinds.BlockWrite ∷ kinds.BlockErase ∷ []

-- 6.3.2.11 Table 6.18: the code of each command, written as its digits
abbrev pub code_of : CommandKind → List Bool
code_of kinds.QueryRep = bits_of_text (codes "00")
code_of kinds.Ack = bits_of_text (codes "01")
code_of kinds.Query = bits_of_text (codes "1000")
code_of kinds.QueryAdjust = bits_of_text (codes "1001")
code_of kinds.Select = bits_of_text (codes "1010")
code_of kinds.Nak = bits_of_text (codes "11000000")
code_of kinds.ReqRn = bits_of_text (codes "11000001")
code_of kinds.Read = bits_of_text (codes "11000010")
code_of kinds.Write = bits_of_text (codes "11000011")
code_of kinds.Kill = bits_of_text (codes "11000100")
code_of kinds.Lock = bits_of_text (codes "11000101")
code_of kinds.Access = bits_of_text (codes "11000110")
code_of kinds.BlockWrite = bits_of_text (codes "11000111")
code_of kinds.BlockErase = bits_of_text (codes "11001000")

-- the fields of each kind of command behind its code, in their order
abbrev pub command_fields_of : CommandKind → List Field
command_fields_of kinds.QueryRep = fields.Session ∷ []
command_fields_of kinds.Ack = fields.Rn ∷ []
command_fields_of kinds.Query = fields.Dr ∷ fields.M ∷ fields.TRext ∷ fields.Sel ∷ fields.Session ∷ fields.QueryTarget ∷ fields.Q ∷ fields.Crc5 ∷ []
command_fields_of kinds.QueryAdjust = fields.Session ∷ fields.UpDn ∷ []
command_fields_of kinds.Select = fields.SelectTarget ∷ fields.Action ∷ fields.MaskBank ∷ fields.Pointer ∷ fields.Mask ∷ fields.Truncate ∷ fields.Crc16 ∷ []
command_fields_of kinds.Nak = []
command_fields_of kinds.ReqRn = fields.Rn ∷ fields.Crc16 ∷ []
command_fields_of kinds.Read = fields.Bank ∷ fields.Pointer ∷ fields.Count ∷ fields.Rn ∷ fields.Crc16 ∷ []
command_fields_of kinds.Write = fields.Bank ∷ fields.Pointer ∷ fields.Covered ∷ fields.Rn ∷ fields.Crc16 ∷ []
command_fields_of kinds.Kill = fields.Covered ∷ fields.KillBits ∷ fields.Rn ∷ fields.Crc16 ∷ []
command_fields_of kinds.Lock = fields.Payload ∷ fields.Rn ∷ fields.Crc16 ∷ []
command_fields_of kinds.Access = fields.Covered ∷ fields.Rn ∷ fields.Crc16 ∷ []
command_fields_of kinds.BlockWrite = fields.Bank ∷ fields.Pointer ∷ fields.Words ∷ fields.Rn ∷ fields.Crc16 ∷ []
command_fields_of kinds.BlockErase = fields.Bank ∷ fields.Pointer ∷ fields.WordCount ∷ fields.Rn ∷ fields.Crc16 ∷ []

-- the command of this kind whose fields have these values
abbrev pub command_of : CommandKind → Fields → Command
command_of kinds.QueryRep v = QueryRep v.session
command_of kinds.Ack v = Ack v.rn
command_of kinds.Query v = Query v.dr v.m v.trext v.sel v.session v.query_target v.q
command_of kinds.QueryAdjust v = QueryAdjust v.session v.updn
command_of kinds.Select v = Select v.select_target v.action v.mask_bank v.pointer v.mask
command_of kinds.Nak v = Nak
command_of kinds.ReqRn v = ReqRn v.rn
command_of kinds.Read v = Read v.bank v.pointer v.count v.rn
command_of kinds.Write v = Write v.bank v.pointer v.covered v.rn
command_of kinds.Kill v = Kill v.covered v.rn
command_of kinds.Lock v = Lock v.payload v.rn
command_of kinds.Access v = Access v.covered v.rn
command_of kinds.BlockWrite v = BlockWrite v.bank v.pointer v.words v.rn
command_of kinds.BlockErase v = BlockErase v.bank v.pointer v.word_count v.rn

-- the code of a command as the first field of the command
abbrev pub code_field : CommandKind → List Part
code_field kind = named_field reasons.Code (code_of kind)

-- 6.3.2.11 Table 6.18 and the table of each command: its fields in order. Profile: Truncate is 0, and the three bits
-- of a Kill behind the half are 000.
abbrev pub parts_of : Command → List Part
parts_of (QueryRep session) = code_field kinds.QueryRep ++ plain_field (field_of session 2)
parts_of (Ack rn) = code_field kinds.Ack ++ plain_field (field_of rn 16)
parts_of (Query dr m trext sel session target q) =
    with_crc5 (code_field kinds.Query ++ plain_field (digit dr) ++ plain_field (bits_of_m m) ++ plain_field (digit trext) ++ plain_field (bits_of_sel sel)
    ++ plain_field (field_of session 2) ++ plain_field (bits_of_query_target target) ++ plain_field (field_of q 4))
parts_of (QueryAdjust session updn) = code_field kinds.QueryAdjust ++ plain_field (field_of session 2) ++ named_field reasons.UpDn (bits_of_updn updn)
parts_of (Select target action bank pointer mask) =
    with_crc16 (code_field kinds.Select ++ named_field reasons.Target (bits_of_select_target target) ++ plain_field (field_of action 3) ++ named_field reasons.Bank (bits_of_mask_bank bank)
    ++ named_field reasons.Ebv (ebv_of pointer) ++ plain_field (field_of (length mask) 8) ++ plain_field mask ++ named_field reasons.Truncate (false ∷ []))
parts_of Nak = code_field kinds.Nak
parts_of (ReqRn rn) = with_crc16 (code_field kinds.ReqRn ++ plain_field (field_of rn 16))
parts_of (Read bank pointer count rn) =
    with_crc16 (code_field kinds.Read ++ plain_field (bits_of_bank bank) ++ named_field reasons.Ebv (ebv_of pointer) ++ plain_field (field_of count 8) ++ plain_field (field_of rn 16))
parts_of (Write bank pointer covered rn) =
    with_crc16 (code_field kinds.Write ++ plain_field (bits_of_bank bank) ++ named_field reasons.Ebv (ebv_of pointer) ++ plain_field (field_of covered 16) ++ plain_field (field_of rn 16))
parts_of (Kill covered rn) =
    with_crc16 (code_field kinds.Kill ++ plain_field (field_of covered 16) ++ named_field reasons.KillBits (false ∷ false ∷ false ∷ []) ++ plain_field (field_of rn 16))
parts_of (Lock payload rn) = with_crc16 (code_field kinds.Lock ++ plain_field (field_of payload 20) ++ plain_field (field_of rn 16))
parts_of (Access covered rn) = with_crc16 (code_field kinds.Access ++ plain_field (field_of covered 16) ++ plain_field (field_of rn 16))
parts_of (BlockWrite bank pointer words rn) =
    with_crc16 (code_field kinds.BlockWrite ++ plain_field (bits_of_bank bank) ++ named_field reasons.Ebv (ebv_of pointer) ++ named_field reasons.Count (field_of (length words) 8)
    ++ plain_field (bits_of_words words) ++ plain_field (field_of rn 16))
parts_of (BlockErase bank pointer count rn) =
    with_crc16 (code_field kinds.BlockErase ++ plain_field (bits_of_bank bank) ++ named_field reasons.Ebv (ebv_of pointer) ++ named_field reasons.Count (field_of count 8) ++ plain_field (field_of rn 16))

-- the one spelling of a command
abbrev pub spelling_of : Command → List Bool
spelling_of command = bits_of (parts_of command)

-- a number of so many bits
abbrev pub IsWord : ℕ → Type 0
IsWord number = number < 2 ^ 16

-- Each number is within its field. A pointer is below 2 ^ 28, since an extensible bit vector has at most four blocks (profile).
abbrev pub IsLegalCommand : Command → Type 0
IsLegalCommand (QueryRep session) = session ≤ 3
IsLegalCommand (Ack rn) = IsWord rn
IsLegalCommand (Query dr m trext sel session target q) = (session ≤ 3) × (q ≤ 15)
IsLegalCommand (QueryAdjust session updn) = session ≤ 3
IsLegalCommand (Select target action bank pointer mask) = (action ≤ 7) × (pointer < 2 ^ 28) × (length mask ≤ 255)
IsLegalCommand Nak = Unit {0}
IsLegalCommand (ReqRn rn) = IsWord rn
IsLegalCommand (Read bank pointer count rn) = (pointer < 2 ^ 28) × (count ≤ 255) × IsWord rn
IsLegalCommand (Write bank pointer covered rn) = (pointer < 2 ^ 28) × IsWord covered × IsWord rn
IsLegalCommand (Kill covered rn) = IsWord covered × IsWord rn
IsLegalCommand (Lock payload rn) = (payload < 2 ^ 20) × IsWord rn
IsLegalCommand (Access covered rn) = IsWord covered × IsWord rn
IsLegalCommand (BlockWrite bank pointer words rn) = (pointer < 2 ^ 28) × (1 ≤ length words) × (length words ≤ 255) × AllByRecursion IsWord words × IsWord rn
IsLegalCommand (BlockErase bank pointer count rn) = (pointer < 2 ^ 28) × (1 ≤ count) × (count ≤ 255) × IsWord rn

-- the bits are the spelling of the command
pub record SpellsCommand (command : Command) (bits : List Bool) : Type 0 where
  pub legal : IsLegalCommand command
  pub spelled : bits ≡ spelling_of command

-- the family of all spellings
abbrev pub Spellings : List Bool → Type 0
Spellings bits = (command : Command) × SpellsCommand command bits

-- the bit at the place stands in a field that may be refused for the reason
pub record IsInField (parts : List Part) (place : ℕ) (reason : Reason) : Type 0 where
  pub before : List Part
  pub field : Part
  pub behind : List Part
  pub whole : parts ≡ (before ++ field ∷ []) ++ behind
  pub name : field.name ≡ Some reason
  pub from : length (bits_of before) ≤ place
  pub upto : place < length (bits_of before) + length field.bits

-- a command that begins with the bits before the place has the field at the place
pub record IsField (bits : List Bool) (place : ℕ) (reason : Reason) : Type 0 where
  pub command : Command
  pub legal : IsLegalCommand command
  pub more : List Bool
  pub begins : spelling_of command ≡ take place bits ++ more
  pub stands : IsInField (parts_of command) place reason

-- The bits are refused at the place, for the reason: it is Extra where the bits before are a whole command, and else the
-- field in which the bit there stands.
pub record IsCommandRefusedAt (bits : List Bool) (place : ℕ) (reason : Reason) : Type 0 where
  pub bad : IsBadAt Spellings bits place
  pub name : ((reason ≡ reasons.Extra) × Spellings (take place bits)) ⊎ IsField bits place reason

-- what is said of the bits that were pushed
abbrev pub Judges : Pushed → List Bool → Type 0
Judges pushed.Whole bits = Spellings bits
Judges (pushed.Bad place reason) bits = IsCommandRefusedAt bits place reason
Judges pushed.More bits = IsShortAt Spellings bits (length bits)

-- what is said of the bits that were pushed, in the end: the command that they spell, or why they spell none
abbrev pub IsFinishAnswer : Result Command CommandRefusal → List Bool → Type 0
IsFinishAnswer (Ok command) bits = SpellsCommand command bits
IsFinishAnswer (Err (refusals.At place reason)) bits = IsCommandRefusedAt bits place reason
IsFinishAnswer (Err (refusals.Short count)) bits = IsShortAt Spellings bits count
