-- The fields of commands may stand as fields.
use Rattle.std.proofs.Common.{◌<◌, ◌/◌, ◌%◌, ℕ, Bool, true, false, List, [], ◌∷◌, arith, inl, inr, le-ltb, lt-ltb}
use Rattle.std.specs.Prelude.{All}
use Rattle.std.proofs.lemmas.Bool.{cases_lt}
use Rattle.std.proofs.lemmas.List.Elements.{All-cons, All-nil}
use Rattle.bit_strings.specs.declared.code.Code.{Code}
use Rattle.bit_strings.specs.declared.code.Code.TheVariants as line_codes
use Rattle.text_fields.specs.Lines.{IsFieldText, space}
use Rattle.text_fields.specs.Binary.{binary_digit}
use Rattle.text_fields.specs.Hexadecimal.{hex_digit, hex_word}
use Rattle.text_fields.specs.CodeNames.{code_word}
use Rattle.text_fields.proofs.FieldTextLaws.{IsFieldText-cons as before, IsFieldText-hex_word, IsFieldText-one}
use Rattle.command_fields.specs.declared.choices.Sel.{Sel}
use Rattle.command_fields.specs.declared.choices.Sel.TheVariants as sels
use Rattle.command_fields.specs.declared.choices.Side.{Side}
use Rattle.command_fields.specs.declared.choices.Side.TheVariants as sides
use Rattle.command_fields.specs.declared.choices.UpDn.{UpDn}
use Rattle.command_fields.specs.declared.choices.UpDn.TheVariants as updns
use Rattle.command_fields.specs.declared.choices.Bank.{Bank}
use Rattle.command_fields.specs.declared.choices.Bank.TheVariants as banks
use Rattle.command_fields.specs.declared.choices.MaskBank.{MaskBank}
use Rattle.command_fields.specs.declared.choices.MaskBank.TheVariants as mask_banks
use Rattle.command_fields.specs.declared.choices.FlagName.{FlagName}
use Rattle.command_fields.specs.declared.choices.FlagName.TheVariants as flags
use Rattle.wire_text.specs.CommandText.{bank_word, flag_word, mask_bank_word, payload_digits, sel_word, side_word, updn_word}

pub bit_is : (bit : Bool) → IsFieldText (binary_digit bit ∷ [])
bit_is false = IsFieldText-one 48 (omega arith)
bit_is true = IsFieldText-one 49 (omega arith)

pub code_is : (code : Code) → IsFieldText (code_word code)
code_is line_codes.Fm0 = search (arith, before, IsFieldText-one) depth 12
code_is code = search (arith, before, IsFieldText-one) depth 12

pub flag_is : (flag : FlagName) → IsFieldText (flag_word flag)
flag_is flags.S0 = search (arith, before, IsFieldText-one) depth 12
flag_is flag = search (arith, before, IsFieldText-one) depth 12

pub mask_bank_is : (bank : MaskBank) → IsFieldText (mask_bank_word bank)
mask_bank_is mask_banks.Epc = search (arith, before, IsFieldText-one) depth 12
mask_bank_is bank = search (arith, before, IsFieldText-one) depth 12

pub bank_is : (bank : Bank) → IsFieldText (bank_word bank)
bank_is banks.Reserved = search (arith, before, IsFieldText-one) depth 12
bank_is bank = search (arith, before, IsFieldText-one) depth 12

pub side_is : (side : Side) → IsFieldText (side_word side)
side_is sides.A = IsFieldText-one 97 (omega arith)
side_is sides.B = IsFieldText-one 98 (omega arith)

pub sel_is : (sel : Sel) → IsFieldText (sel_word sel)
sel_is sels.All00 = search (arith, before, IsFieldText-one) depth 12
sel_is sel = search (arith, before, IsFieldText-one) depth 12

pub updn_is : (updn : UpDn) → IsFieldText (updn_word updn)
updn_is updns.Up = search (arith, before, IsFieldText-one) depth 12
updn_is updn = search (arith, before, IsFieldText-one) depth 12

hex_visible : (n : ℕ) → space < hex_digit n
hex_visible n = elim (cases_lt n 10) [
  | inl less ↦ rw (lt-ltb n 10 less) (omega arith)
  | inr more ↦ rw (le-ltb n 10 more) (omega arith)
]

pub payload_is : (payload : ℕ) → IsFieldText (payload_digits payload)
payload_is payload =
    before (hex_digit (payload / 65536)) (hex_word (payload % 65536)) (hex_visible (payload / 65536)) (IsFieldText-hex_word (payload % 65536))

-- each of the fields may stand as a field
pub record Texts (fields : List (List ℕ)) : Type 0 where
  pub are : All IsFieldText fields

pub no_more : Texts []
no_more = record { are = All-nil IsFieldText }

pub with : (field : List ℕ) (fields : List (List ℕ)) → IsFieldText field → Texts fields → Texts (field ∷ fields)
with field fields is texts = record { are = All-cons IsFieldText field fields is texts.are }

pub only : (field : List ℕ) → IsFieldText field → Texts (field ∷ [])
only field is = with field [] is no_more
