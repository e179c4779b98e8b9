-- What is said of one command alone, a row for each: its fields are read in order, and it is read again from its spelling.
use Rattle.std.proofs.Common.{◌≡◌, ℕ, ◌≤◌, Bool, false, List, [], ◌∷◌, ◌++◌, length, refl, ap, arith}
use Rattle.std.specs.Prelude.{Some, None, ◌==◌}
use Rattle.std.proofs.lemmas.Bool.Decides.{nat_tests}
use Rattle.bit_strings.specs.NumbersInBits.{field_of}
use Rattle.bit_strings.specs.laws.NumbersInBits.{length-field_of}
use Rattle.bit_strings.specs.Ebv.{ebv_of}
use Rattle.bit_strings.specs.Words.{bits_of_words}
use Rattle.command_grammar.specs.declared.commands.Command.{Command}
use Rattle.command_grammar.specs.declared.commands.Command.TheVariants as commands
use Rattle.command_grammar.specs.declared.kinds.CommandKind.{CommandKind}
use Rattle.command_grammar.specs.declared.kinds.CommandKind.TheVariants as kinds
use Rattle.command_grammar.specs.declared.refusal.Reason.TheVariants as reasons
use Rattle.command_fields.specs.declared.choices.UpDn.TheVariants as updns
use Rattle.command_fields.specs.declared.choices.Sel.TheVariants as sels
use Rattle.command_fields.specs.declared.choices.Side.TheVariants as side
use Rattle.command_fields.specs.declared.choices.Bank.TheVariants as banks
use Rattle.command_fields.specs.declared.choices.MaskBank.TheVariants as mask_banks
use Rattle.command_fields.specs.declared.choices.FlagName.TheVariants as flags
use Rattle.bit_strings.specs.declared.code.Code.TheVariants as lines_of
use Rattle.command_grammar.specs.Commands.{Part, code_field, plain_field, named_field, with_crc16, bits_of_select_target, bits_of_mask_bank, bits_of_bank, code_of, parts_of, IsLegalCommand}
use Rattle.command_grammar.specs.reading.Readers.{Reading, ◌>>=◌, choice_at, kind_values}
use Rattle.command_grammar.specs.reading.CommandFields.{fields_at}
use Rattle.command_grammar.proofs.reading.ExactFields.{exact_field}
use Rattle.command_grammar.proofs.reading.NumberFields.{bit_field, bits_field}
use Rattle.command_grammar.proofs.reading.WordFields.{words_field}
use Rattle.command_grammar.proofs.reading.NamedFields.{kind_field, m_field, sel_field, query_target_field, updn_field, select_target_field, mask_bank_field, bank_field}
use Rattle.command_grammar.proofs.reading.FieldsInOrder.{part, ReadsOn, reads_whole, same_then, reads_crc5_then, reads_crc16_then, Goes, goes_whole, goes_then, goes_same, goes_crc5, goes_crc16}
use Rattle.command_grammar.proofs.reading.EachField.{number_then, pointer_then, count_then, mask_then, words_then, goes_number, goes_pointer, goes_count}

-- ---- the fields of each command

some_of : (n : ℕ) → (n == 0) ≡ false → 1 ≤ n
some_of n e = grind (arith, nat_tests)

each_reads : (kind : CommandKind) → ReadsOn (code_field kind) (λ whole bits. fields_at kind whole bits)
each_reads kinds.QueryRep = number_then 2 _ _ (λ session small. reads_whole _ (commands.QueryRep session) (omega arith) refl)
each_reads kinds.Ack = number_then 16 _ _ (λ rn small. reads_whole _ (commands.Ack rn) small refl)
each_reads kinds.Query =
    same_then _ bit_field _ false (λ dr.
    same_then _ m_field _ lines_of.Fm0 (λ m.
    same_then _ bit_field _ false (λ trext.
    same_then _ sel_field _ sels.Sl (λ sel.
    number_then 2 _ _ (λ session small.
    same_then _ query_target_field _ side.A (λ target.
    number_then 4 _ _ (λ q small_q.
    reads_crc5_then _ _ (reads_whole _ (commands.Query dr m trext sel session target q) (omega arith, omega arith) refl))))))))
each_reads kinds.QueryAdjust =
    number_then 2 _ _ (λ session small.
    same_then _ updn_field _ updns.Up (λ updn.
    reads_whole _ (commands.QueryAdjust session updn) (omega arith) refl))
each_reads kinds.Select =
    same_then _ select_target_field _ flags.Sl (λ target.
    number_then 3 _ _ (λ action small.
    same_then _ mask_bank_field _ mask_banks.Epc (λ bank.
    pointer_then _ _ (λ pointer small_pointer.
    number_then 8 _ _ (λ width small_width.
    mask_then width _ _ (λ mask wide.
    same_then _ (exact_field reasons.Truncate (false ∷ [])) _ tt (λ truncate.
    reads_crc16_then _ _ (reads_whole _ (commands.Select target action bank pointer mask) (omega arith, small_pointer, omega arith)
    (ap (λ n. with_crc16 (code_field kinds.Select ++ named_field reasons.Target (bits_of_select_target target) ++ plain_field (field_of action 3) ++ named_field reasons.Bank (bits_of_mask_bank bank)
    ++ named_field reasons.Ebv (ebv_of pointer) ++ plain_field (field_of n 8) ++ plain_field mask ++ named_field reasons.Truncate (false ∷ []))) wide))))
    (field_of 0 width) (length-field_of 0 width))))))
each_reads kinds.Nak = reads_whole _ commands.Nak tt refl
each_reads kinds.ReqRn = number_then 16 _ _ (λ rn small. reads_crc16_then _ _ (reads_whole _ (commands.ReqRn rn) small refl))
each_reads kinds.Read =
    same_then _ bank_field _ banks.Epc (λ bank.
    pointer_then _ _ (λ pointer small_pointer.
    number_then 8 _ _ (λ count small.
    number_then 16 _ _ (λ rn small_rn.
    reads_crc16_then _ _ (reads_whole _ (commands.Read bank pointer count rn) (small_pointer, omega arith, small_rn) refl)))))
each_reads kinds.Write =
    same_then _ bank_field _ banks.Epc (λ bank.
    pointer_then _ _ (λ pointer small_pointer.
    number_then 16 _ _ (λ covered small.
    number_then 16 _ _ (λ rn small_rn.
    reads_crc16_then _ _ (reads_whole _ (commands.Write bank pointer covered rn) (small_pointer, small, small_rn) refl)))))
each_reads kinds.Kill =
    number_then 16 _ _ (λ covered small.
    same_then _ (exact_field reasons.KillBits (false ∷ false ∷ false ∷ [])) _ tt (λ zeros.
    number_then 16 _ _ (λ rn small_rn.
    reads_crc16_then _ _ (reads_whole _ (commands.Kill covered rn) (small, small_rn) refl))))
each_reads kinds.Lock =
    number_then 20 _ _ (λ payload small.
    number_then 16 _ _ (λ rn small_rn.
    reads_crc16_then _ _ (reads_whole _ (commands.Lock payload rn) (small, small_rn) refl)))
each_reads kinds.Access =
    number_then 16 _ _ (λ covered small.
    number_then 16 _ _ (λ rn small_rn.
    reads_crc16_then _ _ (reads_whole _ (commands.Access covered rn) (small, small_rn) refl)))
each_reads kinds.BlockWrite =
    same_then _ bank_field _ banks.Epc (λ bank.
    pointer_then _ _ (λ pointer small_pointer.
    count_then _ _ (λ count small some.
    words_then count _ _ (λ words many all.
    number_then 16 _ _ (λ rn small_rn.
    let low : 1 ≤ count = some_of count some in
    reads_crc16_then _ _ (reads_whole _ (commands.BlockWrite bank pointer words rn) (small_pointer, omega arith, omega arith, all, small_rn)
    (ap (λ n. with_crc16 (code_field kinds.BlockWrite ++ plain_field (bits_of_bank bank) ++ named_field reasons.Ebv (ebv_of pointer) ++ named_field reasons.Count (field_of n 8)
    ++ plain_field (bits_of_words words) ++ plain_field (field_of rn 16))) many)))))))
each_reads kinds.BlockErase =
    same_then _ bank_field _ banks.Epc (λ bank.
    pointer_then _ _ (λ pointer small_pointer.
    count_then _ _ (λ count small some.
    number_then 16 _ _ (λ rn small_rn.
    let low : 1 ≤ count = some_of count some in
    reads_crc16_then _ _ (reads_whole _ (commands.BlockErase bank pointer count rn) (small_pointer, low, omega arith, small_rn) refl)))))

-- a command, code and fields
abbrev pub reading : List Bool → List Bool → Reading Command
reading whole bits = choice_at kind_values reasons.Code bits >>= λ kind. fields_at kind.0 whole kind.1

pub reads_command : ReadsOn [] reading
reads_command = same_then [] kind_field (λ kind whole. fields_at kind.0 whole kind.1) kinds.Nak each_reads

-- ---- each command

with_code : (kind : CommandKind) (command : Command) (more : List Part) → Goes (part (Some reasons.Code) (code_of kind) ∷ []) more (λ whole bits. fields_at kind whole bits) command
    → Goes [] (part (Some reasons.Code) (code_of kind) ∷ more) reading command
with_code kind command more goes = goes_same [] more kind_field (λ kind whole. fields_at kind.0 whole kind.1) command kind goes

pub goes_command : (command : Command) → IsLegalCommand command → Goes [] (parts_of command) reading command
goes_command (commands.QueryRep session) legal = with_code kinds.QueryRep _ _ (goes_number 2 _ _ _ _ session (omega arith) (goes_whole _ _))
goes_command (commands.Ack rn) legal = with_code kinds.Ack _ _ (goes_number 16 _ _ _ _ rn legal (goes_whole _ _))
goes_command (commands.Query dr m trext sel session target q) legal =
    with_code kinds.Query _ _ (
    goes_same _ _ bit_field _ _ dr (
    goes_same _ _ m_field _ _ m (
    goes_same _ _ bit_field _ _ trext (
    goes_same _ _ sel_field _ _ sel (
    goes_number 2 _ _ _ _ session (omega arith) (
    goes_same _ _ query_target_field _ _ target (
    goes_number 4 _ _ _ _ q (omega arith) (
    goes_crc5 _ _ _ _ (goes_whole _ _)))))))))
goes_command (commands.QueryAdjust session updn) legal =
    with_code kinds.QueryAdjust _ _ (goes_number 2 _ _ _ _ session (omega arith) (
    goes_same _ _ updn_field _ _ updn (goes_whole _ _)))
goes_command (commands.Select target action bank pointer mask) legal =
    with_code kinds.Select _ _ (
    goes_same _ _ select_target_field _ _ target (
    goes_number 3 _ _ _ _ action (omega arith) (
    goes_same _ _ mask_bank_field _ _ bank (
    goes_pointer _ _ _ _ pointer legal.1 (
    goes_number 8 _ _ _ _ (length mask) (omega arith) (
    goes_then _ _ (bits_field (length mask) None) _ _ (record { value = mask; bits = mask; spelled = (refl, refl) }) (
    goes_same _ _ (exact_field reasons.Truncate (false ∷ [])) _ _ tt (
    goes_crc16 _ _ _ _ (goes_whole _ _)))))))))
goes_command commands.Nak legal = with_code kinds.Nak _ _ (goes_whole _ _)
goes_command (commands.ReqRn rn) legal = with_code kinds.ReqRn _ _ (goes_number 16 _ _ _ _ rn legal (goes_crc16 _ _ _ _ (goes_whole _ _)))
goes_command (commands.Read bank pointer count rn) legal =
    with_code kinds.Read _ _ (
    goes_same _ _ bank_field _ _ bank (
    goes_pointer _ _ _ _ pointer legal.0 (
    goes_number 8 _ _ _ _ count (omega arith) (
    goes_number 16 _ _ _ _ rn legal.2 (goes_crc16 _ _ _ _ (goes_whole _ _))))))
goes_command (commands.Write bank pointer covered rn) legal =
    with_code kinds.Write _ _ (
    goes_same _ _ bank_field _ _ bank (
    goes_pointer _ _ _ _ pointer legal.0 (
    goes_number 16 _ _ _ _ covered legal.1 (
    goes_number 16 _ _ _ _ rn legal.2 (goes_crc16 _ _ _ _ (goes_whole _ _))))))
goes_command (commands.Kill covered rn) legal =
    with_code kinds.Kill _ _ (
    goes_number 16 _ _ _ _ covered legal.0 (
    goes_same _ _ (exact_field reasons.KillBits (false ∷ false ∷ false ∷ [])) _ _ tt (
    goes_number 16 _ _ _ _ rn legal.1 (goes_crc16 _ _ _ _ (goes_whole _ _)))))
goes_command (commands.Lock payload rn) legal =
    with_code kinds.Lock _ _ (goes_number 20 _ _ _ _ payload legal.0 (goes_number 16 _ _ _ _ rn legal.1 (goes_crc16 _ _ _ _ (goes_whole _ _))))
goes_command (commands.Access covered rn) legal =
    with_code kinds.Access _ _ (goes_number 16 _ _ _ _ covered legal.0 (goes_number 16 _ _ _ _ rn legal.1 (goes_crc16 _ _ _ _ (goes_whole _ _))))
goes_command (commands.BlockWrite bank pointer words rn) legal =
    with_code kinds.BlockWrite _ _ (
    goes_same _ _ bank_field _ _ bank (
    goes_pointer _ _ _ _ pointer legal.0 (
    goes_count _ _ _ _ (length words) legal.1 legal.2 (
    goes_then _ _ (words_field (length words)) _ _ (record { value = words; bits = bits_of_words words; spelled = (refl, legal.3, refl) }) (
    goes_number 16 _ _ _ _ rn legal.4 (goes_crc16 _ _ _ _ (goes_whole _ _)))))))
goes_command (commands.BlockErase bank pointer count rn) legal =
    with_code kinds.BlockErase _ _ (
    goes_same _ _ bank_field _ _ bank (
    goes_pointer _ _ _ _ pointer legal.0 (
    goes_count _ _ _ _ count legal.1 legal.2 (
    goes_number 16 _ _ _ _ rn legal.3 (goes_crc16 _ _ _ _ (goes_whole _ _))))))
