-- What is said of one command alone, a row for each: its name and its fields may stand as fields, and no other command is spelled so.
use Rattle.std.proofs.Common.{◌<◌, ◌^◌, ℕ, List, [], ◌∷◌, arith, ◌≡◌, get_or, ap, refl}
use Rattle.std.specs.Fmt.{decimal}
use Rattle.text_fields.specs.Lines.{IsFieldText}
use Rattle.text_fields.specs.Hexadecimal.{hex_word}
use Rattle.text_fields.proofs.FieldTextLaws.{IsFieldText-binary, IsFieldText-cons as before, IsFieldText-decimal, IsFieldText-hex_word, IsFieldText-hex_words, IsFieldText-one}
use Rattle.command_fields.specs.declared.choices.Bank.{Bank}
use Rattle.command_grammar.specs.Commands.{IsLegalCommand}
use Rattle.command_grammar.specs.declared.kinds.CommandKind.{CommandKind}
use Rattle.command_grammar.specs.declared.kinds.CommandKind.TheVariants as kinds
use Rattle.command_grammar.specs.declared.commands.Command.{Command}
use Rattle.command_grammar.specs.declared.commands.Command.TheVariants.{QueryRep, Ack, Query, QueryAdjust, Select, Nak, ReqRn, Read, Write, Kill, Lock, Access, BlockWrite, BlockErase}
use Rattle.wire_text.specs.CommandText.{bank_word, command_kind, command_name, other_command_fields}
use Rattle.text_fields.proofs.ToldApart.{binary_told, decimal_told, hex_word_told, hex_words_told}
use Rattle.text_fields.proofs.NamedFieldLaws.{same_behind}
use Rattle.wire_text.proofs.CommandFieldTexts.{Texts, bank_is, bit_is, code_is, flag_is, mask_bank_is, no_more, only, payload_is, sel_is, side_is, updn_is, with}
use Rattle.wire_text.proofs.CommandsToldApart.{bank_told, bit_told, code_told, flag_told, list_of_block, mask_bank_told, payload_told, sel_told, side_told, updn_told}

pub command_name_is : (kind : CommandKind) → IsFieldText (command_name kind)
command_name_is kinds.QueryRep = search (arith, before, IsFieldText-one) depth 24
command_name_is kinds.QueryAdjust = search (arith, before, IsFieldText-one) depth 32
command_name_is kinds.Select = search (arith, before, IsFieldText-one) depth 16
command_name_is kinds.ReqRn = search (arith, before, IsFieldText-one) depth 16
command_name_is kinds.Access = search (arith, before, IsFieldText-one) depth 16
command_name_is kinds.BlockWrite = search (arith, before, IsFieldText-one) depth 24
command_name_is kinds.BlockErase = search (arith, before, IsFieldText-one) depth 24
command_name_is kind = search (arith, before, IsFieldText-one) depth 12

-- the place of words in a bank, and two more fields
placed : (bank : Bank) (pointer : ℕ) (third last : List ℕ) → pointer < 2 ^ 28 → IsFieldText third → IsFieldText last
    → Texts (bank_word bank ∷ decimal pointer ∷ third ∷ last ∷ [])
placed bank pointer third last small is is' =
    with _ _ (bank_is bank) (with _ _ (IsFieldText-decimal pointer (omega arith)) (with _ _ is (only _ is')))

pub other_texts : (command : Command) → IsLegalCommand command → Texts (other_command_fields command)
other_texts (QueryRep session) is = only _ (IsFieldText-decimal session (omega arith))
other_texts (Ack rn) is = only _ (IsFieldText-hex_word rn)
other_texts (Query dr code trext sel session target q) is =
    with _ _ (bit_is dr) (with _ _ (code_is code) (with _ _ (bit_is trext) (with _ _ (sel_is sel)
    (with _ _ (IsFieldText-decimal session (omega (arith, is.0))) (with _ _ (side_is target) (only _ (IsFieldText-decimal q (omega (arith, is.1)))))))))
other_texts (QueryAdjust session updn) is = with _ _ (IsFieldText-decimal session (omega arith)) (only _ (updn_is updn))
other_texts (Select target action bank pointer mask) is =
    with _ _ (flag_is target) (with _ _ (IsFieldText-decimal action (omega (arith, is.0))) (with _ _ (mask_bank_is bank)
    (with _ _ (IsFieldText-decimal pointer (omega (arith, is.1))) (only _ (IsFieldText-binary mask)))))
other_texts Nak is = no_more
other_texts (ReqRn rn) is = only _ (IsFieldText-hex_word rn)
other_texts (Read bank pointer count rn) is =
    placed bank pointer (decimal count) (hex_word rn) is.0 (IsFieldText-decimal count (omega (arith, is.1))) (IsFieldText-hex_word rn)
other_texts (Write bank pointer covered rn) is =
    placed bank pointer (hex_word covered) (hex_word rn) is.0 (IsFieldText-hex_word covered) (IsFieldText-hex_word rn)
other_texts (Kill covered rn) is = with _ _ (IsFieldText-hex_word covered) (only _ (IsFieldText-hex_word rn))
other_texts (Lock payload rn) is = with _ _ (payload_is payload) (only _ (IsFieldText-hex_word rn))
other_texts (Access covered rn) is = with _ _ (IsFieldText-hex_word covered) (only _ (IsFieldText-hex_word rn))
other_texts (BlockWrite bank pointer words rn) is =
    placed bank pointer _ (hex_word rn) is.0 (IsFieldText-hex_words words) (IsFieldText-hex_word rn)
other_texts (BlockErase bank pointer count rn) is =
    placed bank pointer (decimal count) (hex_word rn) is.0 (IsFieldText-decimal count (omega (arith, is.2))) (IsFieldText-hex_word rn)

-- the field at a place of two equal lists of fields
field : (place : ℕ) (one other : List (List ℕ)) → one ≡ other → get_or one place [] ≡ get_or other place []
field place one other same = ap (λ (fields : List (List ℕ)). get_or fields place []) same

-- two commands of one name with the same fields
pub others_told : (one other : Command) → IsLegalCommand one → IsLegalCommand other → command_kind one ≡ command_kind other
    → other_command_fields one ≡ other_command_fields other → one ≡ other
others_told (QueryRep session) (QueryRep session') is is' kind same =
    ap QueryRep (decimal_told session session' (omega arith) (omega arith) (same_behind (decimal session) (decimal session') [] [] same).0)
others_told (Ack rn) (Ack rn') is is' kind same = ap Ack (hex_word_told rn rn' is is' (same_behind (hex_word rn) (hex_word rn') [] [] same).0)
others_told (Query dr code trext sel session target q) (Query dr' code' trext' sel' session' target' q') is is' kind same =
    let drs = bit_told dr dr' (field 0 _ _ same) in
    let codes_same = code_told code code' (field 1 _ _ same) in
    let trexts = bit_told trext trext' (field 2 _ _ same) in
    let sels_same = sel_told sel sel' (field 3 _ _ same) in
    let sessions = decimal_told session session' (omega (arith, is.0)) (omega (arith, is'.0)) (field 4 _ _ same) in
    let targets = side_told target target' (field 5 _ _ same) in
    let qs = decimal_told q q' (omega (arith, is.1)) (omega (arith, is'.1)) (field 6 _ _ same) in
    cc
others_told (QueryAdjust session updn) (QueryAdjust session' updn') is is' kind same =
    let sessions = decimal_told session session' (omega arith) (omega arith) (field 0 _ _ same) in
    let updns_same = updn_told updn updn' (field 1 _ _ same) in
    cc
others_told (Select target action bank pointer mask) (Select target' action' bank' pointer' mask') is is' kind same =
    let targets = flag_told target target' (field 0 _ _ same) in
    let actions = decimal_told action action' (omega (arith, is.0)) (omega (arith, is'.0)) (field 1 _ _ same) in
    let banks_same = mask_bank_told bank bank' (field 2 _ _ same) in
    let pointers = decimal_told pointer pointer' (omega (arith, is.1)) (omega (arith, is'.1)) (field 3 _ _ same) in
    let masks = binary_told mask mask' (field 4 _ _ same) in
    cc
others_told Nak Nak is is' kind same = refl
others_told (ReqRn rn) (ReqRn rn') is is' kind same =
    ap ReqRn (hex_word_told rn rn' is is' (same_behind (hex_word rn) (hex_word rn') [] [] same).0)
others_told (Read bank pointer count rn) (Read bank' pointer' count' rn') is is' kind same =
    let banks_same = bank_told bank bank' (field 0 _ _ same) in
    let pointers = decimal_told pointer pointer' (omega (arith, is.0)) (omega (arith, is'.0)) (field 1 _ _ same) in
    let counts = decimal_told count count' (omega (arith, is.1)) (omega (arith, is'.1)) (field 2 _ _ same) in
    let rns = hex_word_told rn rn' is.2 is'.2 (field 3 _ _ same) in
    cc
others_told (Write bank pointer covered rn) (Write bank' pointer' covered' rn') is is' kind same =
    let banks_same = bank_told bank bank' (field 0 _ _ same) in
    let pointers = decimal_told pointer pointer' (omega (arith, is.0)) (omega (arith, is'.0)) (field 1 _ _ same) in
    let words_same = hex_word_told covered covered' is.1 is'.1 (field 2 _ _ same) in
    let rns = hex_word_told rn rn' is.2 is'.2 (field 3 _ _ same) in
    cc
others_told (Kill covered rn) (Kill covered' rn') is is' kind same =
    let halves = hex_word_told covered covered' is.0 is'.0 (field 0 _ _ same) in
    let rns = hex_word_told rn rn' is.1 is'.1 (field 1 _ _ same) in
    cc
others_told (Lock payload rn) (Lock payload' rn') is is' kind same =
    let payloads = payload_told payload payload' (omega (arith, is.0)) (omega (arith, is'.0)) (field 0 _ _ same) in
    let rns = hex_word_told rn rn' is.1 is'.1 (field 1 _ _ same) in
    cc
others_told (Access covered rn) (Access covered' rn') is is' kind same =
    let halves = hex_word_told covered covered' is.0 is'.0 (field 0 _ _ same) in
    let rns = hex_word_told rn rn' is.1 is'.1 (field 1 _ _ same) in
    cc
others_told (BlockWrite bank pointer words rn) (BlockWrite bank' pointer' words' rn') is is' kind same =
    let banks_same = bank_told bank bank' (field 0 _ _ same) in
    let pointers = decimal_told pointer pointer' (omega (arith, is.0)) (omega (arith, is'.0)) (field 1 _ _ same) in
    let blocks = hex_words_told words words' (list_of_block words (is.1, is.2, is.3)).small (list_of_block words' (is'.1, is'.2, is'.3)).small (field 2 _ _ same) in
    let rns = hex_word_told rn rn' is.4 is'.4 (field 3 _ _ same) in
    cc
others_told (BlockErase bank pointer count rn) (BlockErase bank' pointer' count' rn') is is' kind same =
    let banks_same = bank_told bank bank' (field 0 _ _ same) in
    let pointers = decimal_told pointer pointer' (omega (arith, is.0)) (omega (arith, is'.0)) (field 1 _ _ same) in
    let counts = decimal_told count count' (omega (arith, is.2)) (omega (arith, is'.2)) (field 2 _ _ same) in
    let rns = hex_word_told rn rn' is.3 is'.3 (field 3 _ _ same) in
    cc
others_told one other is is' kind same = cc
