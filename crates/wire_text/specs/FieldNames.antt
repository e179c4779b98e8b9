-- The values of the fields of a command or a reply that have names, and the kinds of replies, each of which is found by its name.
use Rattle.std.specs.Prelude.{List, [], ◌∷◌, refl}
use Rattle.bit_strings.specs.declared.code.Code.{Code}
use Rattle.bit_strings.specs.declared.code.Code.TheVariants as line_codes
use Rattle.text_fields.specs.CodeNames.{code_word}
use Rattle.command_fields.specs.declared.choices.Bank.{Bank}
use Rattle.command_fields.specs.declared.choices.Bank.TheVariants as banks
use Rattle.command_fields.specs.declared.choices.FlagName.{FlagName}
use Rattle.command_fields.specs.declared.choices.FlagName.TheVariants as flags
use Rattle.command_fields.specs.declared.choices.MaskBank.{MaskBank}
use Rattle.command_fields.specs.declared.choices.MaskBank.TheVariants as mask_banks
use Rattle.command_fields.specs.declared.choices.Sel.{Sel}
use Rattle.command_fields.specs.declared.choices.Sel.TheVariants as sels
use Rattle.command_fields.specs.declared.choices.Side.{Side}
use Rattle.command_fields.specs.declared.choices.Side.TheVariants as sides
use Rattle.command_fields.specs.declared.choices.UpDn.{UpDn}
use Rattle.command_fields.specs.declared.choices.UpDn.TheVariants as updns
use Rattle.wire_text.specs.CommandText.{bank_word, flag_word, mask_bank_word, sel_word, side_word, updn_word}
use Rattle.wire_text.specs.NameLists.{EachFound}
use Rattle.wire_text.specs.ReplyText.{reply_name}
use Rattle.wire_text.specs.declared.reply_kinds.ReplyKind.{ReplyKind}
use Rattle.wire_text.specs.declared.reply_kinds.ReplyKind.TheVariants as reply_kinds

abbrev pub all_flags : List FlagName
all_flags = flags.S0 ∷ flags.S1 ∷ flags.S2 ∷ flags.S3 ∷ flags.Sl ∷ []

pub flag_found : EachFound flag_word all_flags
flag_found flags.S0 = refl
flag_found flag = refl

abbrev pub all_mask_banks : List MaskBank
all_mask_banks = mask_banks.Epc ∷ mask_banks.Tid ∷ mask_banks.User ∷ []

pub mask_bank_found : EachFound mask_bank_word all_mask_banks
mask_bank_found mask_banks.Epc = refl
mask_bank_found bank = refl

abbrev pub all_banks : List Bank
all_banks = banks.Reserved ∷ banks.Epc ∷ banks.Tid ∷ banks.User ∷ []

pub bank_found : EachFound bank_word all_banks
bank_found banks.Reserved = refl
bank_found bank = refl

abbrev pub all_sides : List Side
all_sides = sides.A ∷ sides.B ∷ []

pub side_found : EachFound side_word all_sides
side_found sides.A = refl
side_found side = refl

abbrev pub all_sels : List Sel
all_sels = sels.All00 ∷ sels.All01 ∷ sels.NotSl ∷ sels.Sl ∷ []

pub sel_found : EachFound sel_word all_sels
sel_found sels.All00 = refl
sel_found sel = refl

abbrev pub all_updns : List UpDn
all_updns = updns.Up ∷ updns.Same ∷ updns.Down ∷ []

pub updn_found : EachFound updn_word all_updns
updn_found updns.Up = refl
updn_found updn = refl

abbrev pub all_codes : List Code
all_codes = line_codes.Fm0 ∷ line_codes.M2 ∷ line_codes.M4 ∷ line_codes.M8 ∷ []

pub code_found : EachFound code_word all_codes
code_found line_codes.Fm0 = refl
code_found code = refl

abbrev pub all_reply_kinds : List ReplyKind
all_reply_kinds =
    reply_kinds.Rn16 ∷ reply_kinds.Epc ∷ reply_kinds.Handle ∷ reply_kinds.Words ∷ reply_kinds.Header ∷ reply_kinds.Error ∷ []

pub reply_found : EachFound reply_name all_reply_kinds
reply_found reply_kinds.Rn16 = refl
reply_found kind = refl
