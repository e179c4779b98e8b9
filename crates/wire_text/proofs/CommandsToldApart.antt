-- Two values of a command's field are not spelled alike, nor are two commands.
use Rattle.std.proofs.Common.{◌≡◌, ◌<◌, ◌≤◌, ◌/◌, ◌%◌, ℕ, Bool, true, false, List, [], ◌∷◌, length, arith, refl}
use Rattle.std.specs.List.{AllByRecursion}
use Rattle.std.proofs.lemmas.Bool.Decides.{nat_tests}
use Rattle.std.proofs.lemmas.List.Elements.{All-from_recursion, recursion_from_All}
use Rattle.bit_strings.specs.declared.code.Code.{Code}
use Rattle.text_fields.specs.Binary.{binary_digit}
use Rattle.text_fields.specs.Hexadecimal.{hex_digit, hex_word}
use Rattle.text_fields.specs.CodeNames.{code_word}
use Rattle.text_fields.specs.WordLists.{IsWordList}
use Rattle.text_fields.proofs.ToldApart.{hex_word_told}
use Rattle.command_fields.specs.declared.choices.Sel.{Sel}
use Rattle.command_fields.specs.declared.choices.Side.{Side}
use Rattle.command_fields.specs.declared.choices.UpDn.{UpDn}
use Rattle.command_fields.specs.declared.choices.Bank.{Bank}
use Rattle.command_fields.specs.declared.choices.MaskBank.{MaskBank}
use Rattle.command_fields.specs.declared.choices.FlagName.{FlagName}
use Rattle.command_grammar.specs.Commands.{IsWord, all_kinds}
use Rattle.command_grammar.specs.declared.kinds.CommandKind.{CommandKind}
use Rattle.wire_text.specs.FieldNames.{all_banks, all_codes, all_flags, all_mask_banks, all_sels, all_sides, all_updns, bank_found, code_found, flag_found, mask_bank_found, sel_found, side_found, updn_found}
use Rattle.wire_text.specs.NameLists.{command_found}
use Rattle.wire_text.proofs.NameLists.{told}
use Rattle.wire_text.specs.CommandText.{bank_word, command_name, flag_word, mask_bank_word, payload_digits, sel_word, side_word, updn_word}

-- the words of a field, of which no two are alike
pub flag_told : (one other : FlagName) → flag_word one ≡ flag_word other → one ≡ other
flag_told = told flag_word all_flags flag_found

pub mask_bank_told : (one other : MaskBank) → mask_bank_word one ≡ mask_bank_word other → one ≡ other
mask_bank_told = told mask_bank_word all_mask_banks mask_bank_found

pub bank_told : (one other : Bank) → bank_word one ≡ bank_word other → one ≡ other
bank_told = told bank_word all_banks bank_found

pub side_told : (one other : Side) → side_word one ≡ side_word other → one ≡ other
side_told = told side_word all_sides side_found

pub sel_told : (one other : Sel) → sel_word one ≡ sel_word other → one ≡ other
sel_told = told sel_word all_sels sel_found

pub updn_told : (one other : UpDn) → updn_word one ≡ updn_word other → one ≡ other
updn_told = told updn_word all_updns updn_found

pub code_told : (one other : Code) → code_word one ≡ code_word other → one ≡ other
code_told = told code_word all_codes code_found

pub digit_told : (one other : Bool) → binary_digit one ≡ binary_digit other → one ≡ other
digit_told false false same = refl
digit_told true true same = refl
digit_told one other same = absurd (omega arith)

pub bit_told : (one other : Bool) → binary_digit one ∷ [] ≡ binary_digit other ∷ [] → one ≡ other
bit_told one other same =
    let digits : binary_digit one ≡ binary_digit other = cc in
    digit_told one other digits

pub hex_digit_told : (m n : ℕ) → m < 16 → n < 16 → hex_digit m ≡ hex_digit n → m ≡ n
hex_digit_told m n small small' same = grind (arith, nat_tests)

-- the two parts of a payload
pub payload_told : (one other : ℕ) → one ≤ 1048575 → other ≤ 1048575 → payload_digits one ≡ payload_digits other → one ≡ other
payload_told one other small small' same =
    let first : hex_digit (one / 65536) ≡ hex_digit (other / 65536) = cc in
    let rest : hex_word (one % 65536) ≡ hex_word (other % 65536) = cc in
    let upper = hex_digit_told (one / 65536) (other / 65536) (omega arith) (omega arith) first in
    let lower = hex_word_told (one % 65536) (other % 65536) (omega arith) (omega arith) rest in
    omega arith

-- the words of a BlockWrite: as a field counts them, and as the command does
abbrev pub AreBlock : List ℕ → Type 0
AreBlock words = (1 ≤ length words) × (length words ≤ 255) × AllByRecursion IsWord words

pub block_of_list : (words : List ℕ) → IsWordList 1 255 words → AreBlock words
block_of_list words is = (is.some, is.room, recursion_from_All IsWord words is.small)

pub list_of_block : (words : List ℕ) → AreBlock words → IsWordList 1 255 words
list_of_block words is = record { some = is.0; room = is.1; small = All-from_recursion IsWord words is.2 }

pub command_name_told : (one other : CommandKind) → command_name one ≡ command_name other → one ≡ other
command_name_told = told command_name all_kinds command_found
