-- Fields spell a command, or there is a reason for which they spell none.
use Rattle.std.proofs.Common.{◌≡◌, ◌<◌, ◌≤◌, ◌^◌, ℕ, List, length, refl, arith}
use Rattle.std.specs.Fmt.{decimal}
use Rattle.command_fields.specs.declared.choices.Bank.{Bank}
use Rattle.command_grammar.specs.Commands.{IsLegalCommand, IsWord, all_kinds}
use Rattle.command_grammar.specs.declared.commands.Command.{Command}
use Rattle.command_grammar.specs.declared.commands.Command.TheVariants.{QueryRep, Ack, Query, QueryAdjust, Select, Nak, ReqRn, Read, Write, Kill, Lock, Access, BlockWrite, BlockErase}
use Rattle.command_grammar.specs.declared.kinds.CommandKind.{CommandKind}
use Rattle.command_grammar.specs.declared.kinds.CommandKind.TheVariants as kinds
use Rattle.wire_text.specs.CommandText.{IsCommandBehind, bank_word, command_name, commands, flag_word, mask_bank_word, payload_digits, sel_word, side_word, updn_word}
use Rattle.wire_text.specs.NameLists.{command_found}
use Rattle.wire_text.specs.FieldNames.{all_sels, all_updns, sel_found, updn_found}
use Rattle.wire_text.proofs.CommandTexts.{commands_are}
use Rattle.wire_text.proofs.CommandsToldApart.{block_of_list, list_of_block}
use Rattle.scenario_lines.specs.Spelling.{flag_text}
use Rattle.scenario_lines.proofs.Decisions.{Any, Decided, EachDecided, Spelled, behind_decided as then, nothing_decided as end, same_answer}
use Rattle.scenario_lines.proofs.KindsDecided.{Both, by_kind, nothing, with}
use Rattle.scenario_lines.proofs.FieldsDecided.{IsWithin, any_bank_decided, bank_decided, bit_decided, bits_decided, code_decided, decimal_decided as number, flag_decided, named_decided, payload_decided, side_decided, word_decided, words_decided}
use Rattle.text_fields.specs.Binary.{binary}
use Rattle.text_fields.specs.CodeNames.{code_word}
use Rattle.text_fields.specs.Hexadecimal.{hex_word, hex_words}
use Rattle.text_fields.specs.WordLists.{IsWordList}
use Rattle.bench_lines.proofs.VocabularyDecided.{AreDecided}

-- behind the name of this command, the fields spell one
abbrev HasCommand : CommandKind → List (List ℕ) → Type 0
HasCommand kind fields = (command : Command) × IsCommandBehind kind fields command

-- the fields of a command at a place in a bank, of which the last but one is spelled so
abbrev placed : {V : Type 0} → (V → List ℕ) → Bank × (ℕ × (V × (ℕ × Unit {0}))) → List (List ℕ)
placed third = with bank_word (with decimal (with third (with hex_word nothing)))

abbrev IsPlaced : {V : Type 0} → (V → Type 0) → Bank × (ℕ × (V × (ℕ × Unit {0}))) → Type 0
IsPlaced May = Both Any (Both (IsWithin 0 268435455) (Both May (Both IsWord Any)))

at_place : {V : Type 0} {third : V → List ℕ} {May : V → Type 0} → EachDecided third May → EachDecided (placed third) (IsPlaced May)
at_place decided = then any_bank_decided (then (number 0 268435455) (then decided (then word_decided end)))

-- behind the name of each command its fields are these
abbrev Forms : CommandKind → List (List ℕ) → Type 0
Forms kinds.QueryRep = Spelled (with decimal nothing) (Both (IsWithin 0 3) Any)
Forms kinds.Ack = Spelled (with hex_word nothing) (Both IsWord Any)
Forms kinds.Query =
    Spelled (with flag_text (with code_word (with flag_text (with sel_word (with decimal (with side_word (with decimal nothing)))))))
    (Both Any (Both Any (Both Any (Both Any (Both (IsWithin 0 3) (Both Any (Both (IsWithin 0 15) Any)))))))
Forms kinds.QueryAdjust = Spelled (with decimal (with updn_word nothing)) (Both (IsWithin 0 3) (Both Any Any))
Forms kinds.Select =
    Spelled (with flag_word (with decimal (with mask_bank_word (with decimal (with binary nothing)))))
    (Both Any (Both (IsWithin 0 7) (Both Any (Both (IsWithin 0 268435455) (Both (λ mask. (0 ≤ length mask) × (length mask ≤ 255)) Any)))))
Forms kinds.Nak = Spelled nothing Any
Forms kinds.ReqRn = Spelled (with hex_word nothing) (Both IsWord Any)
Forms kinds.Read = Spelled (placed decimal) (IsPlaced (IsWithin 0 255))
Forms kinds.Write = Spelled (placed hex_word) (IsPlaced IsWord)
Forms kinds.Kill = Spelled (with hex_word (with hex_word nothing)) (Both IsWord (Both IsWord Any))
Forms kinds.Lock = Spelled (with payload_digits (with hex_word nothing)) (Both (λ payload. payload < 1048576) (Both IsWord Any))
Forms kinds.Access = Spelled (with hex_word (with hex_word nothing)) (Both IsWord (Both IsWord Any))
Forms kinds.BlockWrite = Spelled (placed hex_words) (IsPlaced (IsWordList 1 255))
Forms kinds.BlockErase = Spelled (placed decimal) (IsPlaced (IsWithin 1 255))

formed : (command : Command) (fields : List (List ℕ)) → IsLegalCommand command → fields ≡ commands.others command → Forms (commands.kind command) fields
formed (QueryRep session) fields legal is = ((session, tt), ((omega arith, legal), tt), is)
formed (Ack rn) fields legal is = ((rn, tt), (legal, tt), is)
formed (Query dr code trext sel session target q) fields legal is = (
  (dr, (code, (trext, (sel, (session, (target, (q, tt))))))),
  (tt, (tt, (tt, (tt, ((omega arith, legal.0), (tt, ((omega arith, legal.1), tt))))))),
  is,
)
formed (QueryAdjust session updn) fields legal is = ((session, (updn, tt)), ((omega arith, legal), (tt, tt)), is)
formed (Select target action bank pointer mask) fields legal is =
    let pointer_small = legal.1 in (
      (target, (action, (bank, (pointer, (mask, tt))))),
      (tt, ((omega arith, legal.0), (tt, ((omega arith, omega arith), ((omega arith, legal.2), tt))))),
      is,
    )
formed Nak fields legal is = (tt, tt, is)
formed (ReqRn rn) fields legal is = ((rn, tt), (legal, tt), is)
formed (Read bank pointer count rn) fields legal is =
    let pointer_small = legal.0 in
    ((bank, (pointer, (count, (rn, tt)))), (tt, ((omega arith, omega arith), ((omega arith, legal.1), (legal.2, tt)))), is)
formed (Write bank pointer covered rn) fields legal is =
    let pointer_small = legal.0 in
    ((bank, (pointer, (covered, (rn, tt)))), (tt, ((omega arith, omega arith), (legal.1, (legal.2, tt)))), is)
formed (Kill covered rn) fields legal is = ((covered, (rn, tt)), (legal.0, (legal.1, tt)), is)
formed (Lock payload rn) fields legal is =
    let payload_small = legal.0 in
    ((payload, (rn, tt)), (omega arith, (legal.1, tt)), is)
formed (Access covered rn) fields legal is = ((covered, (rn, tt)), (legal.0, (legal.1, tt)), is)
formed (BlockWrite bank pointer words rn) fields legal is =
    let pointer_small = legal.0 in (
      (bank, (pointer, (words, (rn, tt)))),
      (tt, ((omega arith, omega arith), (list_of_block words (legal.1, legal.2, legal.3), (legal.4, tt)))),
      is,
    )
formed (BlockErase bank pointer count rn) fields legal is =
    let pointer_small = legal.0 in
    ((bank, (pointer, (count, (rn, tt)))), (tt, ((omega arith, omega arith), ((legal.1, legal.2), (legal.3, tt)))), is)

there_of : (kind : CommandKind) (fields : List (List ℕ)) → HasCommand kind fields → Forms kind fields
there_of = by_kind commands IsLegalCommand Forms formed

-- a number below 2 ^ 28
below_28 : (n : ℕ) → n ≤ 268435455 → n < 2 ^ 28
below_28 n le = omega arith

below_20 : (n : ℕ) → n < 1048576 → n < 2 ^ 20
below_20 n less = omega arith

command_behind : (kind : CommandKind) (fields : List (List ℕ)) → Decided (HasCommand kind fields)
command_behind kinds.QueryRep fields =
    same_answer (λ found. (QueryRep found.0.0, record { same_kind = refl; in_range = found.1.0.1; spelling = found.2 })) (there_of kinds.QueryRep fields) (then (number 0 3) end fields)
command_behind kinds.Ack fields =
    same_answer (λ found. (Ack found.0.0, record { same_kind = refl; in_range = found.1.0; spelling = found.2 })) (there_of kinds.Ack fields) (then word_decided end fields)
command_behind kinds.Query fields =
    same_answer (λ found. let v = found.0 in let may = found.1 in (
      Query v.0 v.1.0 v.1.1.0 v.1.1.1.0 v.1.1.1.1.0 v.1.1.1.1.1.0 v.1.1.1.1.1.1.0,
      record { same_kind = refl; in_range = (may.1.1.1.1.0.1, may.1.1.1.1.1.1.0.1); spelling = found.2 },
    )) (there_of kinds.Query fields)
    (then bit_decided (then code_decided (then bit_decided (then (named_decided sel_word all_sels sel_found) (then (number 0 3) (then side_decided (then (number 0 15) end)))))) fields)
command_behind kinds.QueryAdjust fields =
    same_answer (λ found. (QueryAdjust found.0.0 found.0.1.0, record { same_kind = refl; in_range = found.1.0.1; spelling = found.2 })) (there_of kinds.QueryAdjust fields)
    (then (number 0 3) (then (named_decided updn_word all_updns updn_found) end) fields)
command_behind kinds.Select fields =
    same_answer (λ found. let v = found.0 in let may = found.1 in (
      Select v.0 v.1.0 v.1.1.0 v.1.1.1.0 v.1.1.1.1.0,
      record { same_kind = refl; in_range = (may.1.0.1, below_28 v.1.1.1.0 may.1.1.1.0.1, may.1.1.1.1.0.1); spelling = found.2 },
    )) (there_of kinds.Select fields)
    (then flag_decided (then (number 0 7) (then bank_decided (then (number 0 268435455) (then (bits_decided 0 255) end)))) fields)
command_behind kinds.Nak fields =
    same_answer (λ found. (Nak, record { same_kind = refl; in_range = tt; spelling = found.2 })) (there_of kinds.Nak fields) (end fields)
command_behind kinds.ReqRn fields =
    same_answer (λ found. (ReqRn found.0.0, record { same_kind = refl; in_range = found.1.0; spelling = found.2 })) (there_of kinds.ReqRn fields) (then word_decided end fields)
command_behind kinds.Read fields =
    same_answer (λ found. let v = found.0 in let may = found.1 in (
      Read v.0 v.1.0 v.1.1.0 v.1.1.1.0,
      record { same_kind = refl; in_range = (below_28 v.1.0 may.1.0.1, may.1.1.0.1, may.1.1.1.0); spelling = found.2 },
    )) (there_of kinds.Read fields) (at_place (number 0 255) fields)
command_behind kinds.Write fields =
    same_answer (λ found. let v = found.0 in let may = found.1 in (
      Write v.0 v.1.0 v.1.1.0 v.1.1.1.0,
      record { same_kind = refl; in_range = (below_28 v.1.0 may.1.0.1, may.1.1.0, may.1.1.1.0); spelling = found.2 },
    )) (there_of kinds.Write fields) (at_place word_decided fields)
command_behind kinds.Kill fields =
    same_answer (λ found. (Kill found.0.0 found.0.1.0, record { same_kind = refl; in_range = (found.1.0, found.1.1.0); spelling = found.2 })) (there_of kinds.Kill fields)
    (then word_decided (then word_decided end) fields)
command_behind kinds.Lock fields =
    same_answer (λ found. (
      Lock found.0.0 found.0.1.0,
      record { same_kind = refl; in_range = (below_20 found.0.0 found.1.0, found.1.1.0); spelling = found.2 },
    )) (there_of kinds.Lock fields) (then payload_decided (then word_decided end) fields)
command_behind kinds.Access fields =
    same_answer (λ found. (Access found.0.0 found.0.1.0, record { same_kind = refl; in_range = (found.1.0, found.1.1.0); spelling = found.2 })) (there_of kinds.Access fields)
    (then word_decided (then word_decided end) fields)
command_behind kinds.BlockWrite fields =
    same_answer (λ found. let v = found.0 in let may = found.1 in let block = block_of_list v.1.1.0 may.1.1.0 in (
      BlockWrite v.0 v.1.0 v.1.1.0 v.1.1.1.0,
      record { same_kind = refl; in_range = (below_28 v.1.0 may.1.0.1, block.0, block.1, block.2, may.1.1.1.0); spelling = found.2 },
    )) (there_of kinds.BlockWrite fields) (at_place (words_decided 1 255) fields)
command_behind kinds.BlockErase fields =
    same_answer (λ found. let v = found.0 in let may = found.1 in (
      BlockErase v.0 v.1.0 v.1.1.0 v.1.1.1.0,
      record { same_kind = refl; in_range = (below_28 v.1.0 may.1.0.1, may.1.1.0.0, may.1.1.0.1, may.1.1.1.0); spelling = found.2 },
    )) (there_of kinds.BlockErase fields) (at_place (number 1 255) fields)

pub commands_decided : AreDecided commands IsLegalCommand
commands_decided = record { is = commands_are; names = named_decided command_name all_kinds command_found; behind = command_behind }
