-- The fields of an operation.
use Rattle.std.proofs.Common.{ℕ, ◌<◌, ◌^◌, List, [], ◌∷◌, arith}
use Rattle.std.specs.Fmt.{decimal}
use Rattle.access_ops.specs.declared.Op.{Op}
use Rattle.access_ops.specs.declared.Op.TheVariants as ops
use Rattle.access_ops.specs.laws.OperationLaws.{IsLegalOp}
use Rattle.command_fields.specs.declared.choices.Bank.{Bank}
use Rattle.wire_text.specs.CommandText.{bank_word, payload_digits}
use Rattle.text_fields.specs.Hexadecimal.{hex_word, hex_words}
use Rattle.scenario_lines.specs.Names.{op_field_count, op_kind}
use Rattle.wire_text.specs.PasswordsAndLocks.{password_text}
use Rattle.scenario_lines.specs.Spelling.{op_fields}
use Rattle.text_fields.specs.NamedFields.{AreFilled}
use Rattle.text_fields.proofs.FilledFields.{Filled, none_filled, one_more}
use Rattle.wire_text.proofs.CommandFieldTexts.{bank_is, payload_is}
use Rattle.scenario_lines.proofs.Filled.{number_text, one_word_is, password_is, words_is}

one_field_filled : (field : List ℕ) → Filled field → AreFilled 1 (field ∷ [])
one_field_filled field filled = one_more 0 field [] filled none_filled

place_filled : (bank : Bank) (pointer : ℕ) (last : List ℕ) → pointer < 2 ^ 28 → Filled last → AreFilled 3 (bank_word bank ∷ decimal pointer ∷ last ∷ [])
place_filled bank pointer last is filled =
    one_more 2 (bank_word bank) (decimal pointer ∷ last ∷ []) (bank_is bank).filled
    (one_more 1 (decimal pointer) (last ∷ []) (number_text pointer (omega (arith, is))).filled (one_field_filled last filled))

-- an operation has its fields
pub op_filled : (op : Op) → IsLegalOp op → AreFilled (op_field_count (op_kind op)) (op_fields op)
op_filled (ops.Read bank pointer count) is = place_filled bank pointer (decimal count) is.0 (number_text count (omega (arith, is.1))).filled
op_filled (ops.Write bank pointer word) is = place_filled bank pointer (hex_word word) is.0 (one_word_is word).filled
op_filled (ops.BlockWrite bank pointer words) is = place_filled bank pointer (hex_words words) is.0 (words_is words).filled
op_filled (ops.BlockErase bank pointer count) is = place_filled bank pointer (decimal count) is.0 (number_text count (omega (arith, is.2))).filled
op_filled (ops.Lock payload) is = one_field_filled (payload_digits payload) (payload_is payload).filled
op_filled (ops.Access password) is = one_field_filled (password_text password) (password_is password).filled
op_filled (ops.Kill password) is = one_field_filled (password_text password) (password_is password).filled
