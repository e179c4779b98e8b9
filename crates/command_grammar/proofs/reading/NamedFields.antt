-- The fields of a few bits, and the codes, are read as their tables say.
use Rattle.std.proofs.Common.{refl}
use Rattle.bit_strings.specs.declared.code.Code.{Code}
use Rattle.bit_strings.specs.declared.code.Code.TheVariants as lines_of
use Rattle.command_grammar.specs.declared.kinds.CommandKind.{CommandKind}
use Rattle.command_grammar.specs.declared.kinds.CommandKind.TheVariants as kinds
use Rattle.command_fields.specs.declared.choices.Sel.{Sel}
use Rattle.command_fields.specs.declared.choices.Sel.TheVariants as sels
use Rattle.command_fields.specs.declared.choices.Side.{Side}
use Rattle.command_fields.specs.declared.choices.Side.TheVariants as side
use Rattle.command_fields.specs.declared.choices.UpDn.{UpDn}
use Rattle.command_fields.specs.declared.choices.UpDn.TheVariants as updns
use Rattle.command_fields.specs.declared.choices.Bank.{Bank}
use Rattle.command_fields.specs.declared.choices.Bank.TheVariants as banks
use Rattle.command_fields.specs.declared.choices.MaskBank.{MaskBank}
use Rattle.command_fields.specs.declared.choices.MaskBank.TheVariants as mask_banks
use Rattle.command_fields.specs.declared.choices.FlagName.{FlagName}
use Rattle.command_fields.specs.declared.choices.FlagName.TheVariants as flags
use Rattle.command_grammar.specs.declared.refusal.Reason.TheVariants as reasons
use Rattle.command_grammar.specs.Commands.{code_of, bits_of_m, bits_of_sel, bits_of_query_target, bits_of_updn, bits_of_select_target, bits_of_mask_bank, bits_of_bank}
use Rattle.command_grammar.specs.reading.Readers.{m_values, sel_values, query_target_values, updn_values, select_target_values, mask_bank_values, bank_values, kind_values}
use Rattle.command_grammar.proofs.reading.Readers.{SpelledField}
use Rattle.command_grammar.proofs.reading.ChoiceTables.{ReadsEach, choice_field, full_field}

pub kind_again : ReadsEach code_of reasons.Code kind_values
kind_again kinds.QueryRep rest = refl
kind_again kind rest = refl

abbrev pub kind_field : SpelledField CommandKind
kind_field = choice_field code_of reasons.Code kind_values refl kind_again

pub m_again : ReadsEach bits_of_m reasons.Code m_values
m_again lines_of.Fm0 rest = refl
m_again m rest = refl

abbrev pub m_field : SpelledField Code
m_field = full_field bits_of_m reasons.Code m_values refl m_again

pub sel_again : ReadsEach bits_of_sel reasons.Code sel_values
sel_again sels.All00 rest = refl
sel_again sel rest = refl

abbrev pub sel_field : SpelledField Sel
sel_field = full_field bits_of_sel reasons.Code sel_values refl sel_again

pub query_target_again : ReadsEach bits_of_query_target reasons.Code query_target_values
query_target_again side.A rest = refl
query_target_again query_target rest = refl

abbrev pub query_target_field : SpelledField Side
query_target_field = full_field bits_of_query_target reasons.Code query_target_values refl query_target_again

pub updn_again : ReadsEach bits_of_updn reasons.UpDn updn_values
updn_again updns.Up rest = refl
updn_again updn rest = refl

abbrev pub updn_field : SpelledField UpDn
updn_field = choice_field bits_of_updn reasons.UpDn updn_values refl updn_again

pub select_target_again : ReadsEach bits_of_select_target reasons.Target select_target_values
select_target_again flags.S0 rest = refl
select_target_again select_target rest = refl

abbrev pub select_target_field : SpelledField FlagName
select_target_field = choice_field bits_of_select_target reasons.Target select_target_values refl select_target_again

pub mask_bank_again : ReadsEach bits_of_mask_bank reasons.Bank mask_bank_values
mask_bank_again mask_banks.Epc rest = refl
mask_bank_again mask_bank rest = refl

abbrev pub mask_bank_field : SpelledField MaskBank
mask_bank_field = choice_field bits_of_mask_bank reasons.Bank mask_bank_values refl mask_bank_again

pub bank_again : ReadsEach bits_of_bank reasons.Code bank_values
bank_again banks.Reserved rest = refl
bank_again bank rest = refl

abbrev pub bank_field : SpelledField Bank
bank_field = full_field bits_of_bank reasons.Code bank_values refl bank_again
