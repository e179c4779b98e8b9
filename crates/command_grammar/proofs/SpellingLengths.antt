-- How many bits a command takes.
use Rattle.std.proofs.Common.{◌≡◌, ℕ, ◌+◌, ◌*◌, ◌^◌, ◌<◌, ◌≤◌, Bool, List, [], ◌∷◌, length, ap, arith, length-append}
use Rattle.std.specs.Prelude.{All}
use Rattle.std.proofs.lemmas.List.Elements.{All-head, All-tail}
use Rattle.bit_strings.specs.laws.NumbersInBits.{length-field_of}
use Rattle.bit_strings.specs.laws.Words.{length-bits_of_words}
use Rattle.bit_strings.specs.Ebv.{blocks_of, ebv_of}
use Rattle.bit_strings.specs.laws.Ebv.{IsEbv-ebv_of}
use Rattle.gen2_crc.specs.laws.CheckNumbers.{length-crc5_of, length-crc16_of}
use Rattle.bit_strings.specs.declared.code.Code.{Code}
use Rattle.bit_strings.specs.declared.code.Code.TheVariants.{Fm0}
use Rattle.command_fields.specs.declared.choices.Sel.{Sel}
use Rattle.command_fields.specs.declared.choices.Sel.TheVariants as sels
use Rattle.command_fields.specs.declared.choices.Side.{Side}
use Rattle.command_fields.specs.declared.choices.Side.TheVariants.{A}
use Rattle.command_fields.specs.declared.choices.UpDn.{UpDn}
use Rattle.command_fields.specs.declared.choices.UpDn.TheVariants.{Up}
use Rattle.command_fields.specs.declared.choices.Bank.{Bank}
use Rattle.command_fields.specs.declared.choices.Bank.TheVariants as banks
use Rattle.command_fields.specs.declared.choices.MaskBank.{MaskBank}
use Rattle.command_fields.specs.declared.choices.MaskBank.TheVariants as mask_banks
use Rattle.command_fields.specs.declared.choices.FlagName.{FlagName}
use Rattle.command_fields.specs.declared.choices.FlagName.TheVariants as flags
use Rattle.command_grammar.specs.Commands.{Part, bits_of_m, bits_of_sel, bits_of_query_target, bits_of_updn, bits_of_select_target, bits_of_mask_bank, bits_of_bank, bits_of, spelling_of, parts_of, IsLegalCommand, Spellings}
use Rattle.bit_strings.specs.Family.{Begins}
use Rattle.command_grammar.specs.declared.commands.Command.{Command}
use Rattle.command_grammar.specs.declared.commands.Command.TheVariants.{QueryRep}

length-blocks : (digits : List (List Bool)) → All (λ digit. length digit ≡ 7) digits → length (blocks_of digits) ≤ 8 * length digits
length-blocks [] sevens = omega arith
length-blocks (digit ∷ []) sevens = omega (arith, All-head (λ digit. length digit ≡ 7) digit [] sevens)
length-blocks (digit ∷ next ∷ digits) sevens =
    omega (arith, length-append digit (blocks_of (next ∷ digits)), All-head (λ digit. length digit ≡ 7) digit (next ∷ digits) sevens, length-blocks (next ∷ digits) (All-tail (λ digit. length digit ≡ 7) digit (next ∷ digits) sevens))

-- an extensible bit vector has at most four blocks
pub length-ebv_of : (number : ℕ) → number < 2 ^ 28 → length (ebv_of number) ≤ 32
length-ebv_of number small =
    let ebv = IsEbv-ebv_of number small in
    omega (arith, ap (λ (bits : List Bool). length bits) ebv.spelled, length-blocks ebv.digits ebv.sevens, ebv.few)

-- ---- the fields of a few bits

m_two : (c : Code) → length (bits_of_m c) ≡ 2
m_two Fm0 = omega arith
m_two m = omega arith

sel_two : (s : Sel) → length (bits_of_sel s) ≡ 2
sel_two sels.All00 = omega arith
sel_two sel = omega arith

query_target_one : (s : Side) → length (bits_of_query_target s) ≡ 1
query_target_one A = omega arith
query_target_one side = omega arith

updn_three : (u : UpDn) → length (bits_of_updn u) ≡ 3
updn_three Up = omega arith
updn_three updn = omega arith

select_target_three : (t : FlagName) → length (bits_of_select_target t) ≡ 3
select_target_three flags.S0 = omega arith
select_target_three flag = omega arith

mask_bank_two : (b : MaskBank) → length (bits_of_mask_bank b) ≡ 2
mask_bank_two mask_banks.Epc = omega arith
mask_bank_two bank = omega arith

bank_two : (b : Bank) → length (bits_of_bank b) ≡ 2
bank_two banks.Reserved = omega arith
bank_two bank = omega arith

-- ---- a command

-- the sum of the lengths of the parts
abbrev size_of : List Part → ℕ
size_of [] = 0
size_of (part ∷ parts) = length part.bits + size_of parts

length-bits_of : (parts : List Part) → length (bits_of parts) ≡ size_of parts
length-bits_of [] = omega arith
length-bits_of (part ∷ parts) = omega (arith, length-append part.bits (bits_of parts), length-bits_of parts)

-- ... is small for each command, whose fields are small
small_size : (command : Command) → IsLegalCommand command → size_of (parts_of command) ≤ 4162
small_size (QueryRep session) legal = omega (arith, length-field_of session 2)
small_size command legal =
    grind (arith, m_two, sel_two, query_target_one, updn_three, select_target_three, mask_bank_two, bank_two, length-field_of, length-ebv_of, length-bits_of_words, length-crc5_of, length-crc16_of)

-- a command has at most 4,162 bits
pub length-spelling_of : (command : Command) → IsLegalCommand command → length (spelling_of command) ≤ 4162
length-spelling_of command legal = omega (arith, length-bits_of (parts_of command), small_size command legal)

-- ... and so has what begins one
pub length-begins : (bits : List Bool) → Begins Spellings bits → length bits ≤ 4162
length-begins bits member =
    let spells = member.1.1 in
    omega (arith, length-spelling_of member.1.0 spells.legal, ap (λ (l : List Bool). length l) spells.spelled, length-append bits member.0)
