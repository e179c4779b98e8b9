-- Fields spell a reply, or there is a reason for which they spell none.
use Rattle.std.proofs.Common.{◌≡◌, ◌<◌, ◌^◌, ℕ, List, refl}
use Rattle.wire_text.specs.FieldNames.{all_reply_kinds, reply_found}
use Rattle.reply_grammar.specs.declared.expected.Reply.{Reply}
use Rattle.reply_grammar.specs.declared.expected.Reply.TheVariants.{Rn16, Epc, Handle, Words, Header, Error}
use Rattle.wire_text.specs.ReplyText.{IsReplyBehind, IsReplyForm, replies, reply_name}
use Rattle.wire_text.specs.declared.reply_kinds.ReplyKind.{ReplyKind}
use Rattle.wire_text.specs.declared.reply_kinds.ReplyKind.TheVariants as kinds
use Rattle.wire_text.proofs.ReplyTexts.{replies_are}
use Rattle.scenario_lines.proofs.Decisions.{Any, Decided, Spelled, behind_decided as then, below_decided, nothing_decided as end, same_answer, text_decided}
use Rattle.scenario_lines.proofs.FieldsDecided.{named_decided, word_decided, words_decided}
use Rattle.scenario_lines.proofs.KindsDecided.{Both, by_kind, nothing, with}
use Rattle.text_fields.specs.Hexadecimal.{hex_byte, hex_word, hex_words}
use Rattle.text_fields.specs.WordLists.{IsWordList}
use Rattle.command_grammar.specs.Commands.{IsWord}
use Rattle.bench_lines.proofs.VocabularyDecided.{AreDecided}

abbrev IsByte : ℕ → Type 0
IsByte number = number < 2 ^ 8

byte_decided : (field : List ℕ) → Decided (Spelled hex_byte IsByte field)
byte_decided field = below_decided (λ n. field ≡ hex_byte n) (λ n. text_decided field (hex_byte n)) (2 ^ 8)

-- behind the name of this reply, the fields spell one
abbrev HasReply : ReplyKind → List (List ℕ) → Type 0
HasReply kind fields = (reply : Reply) × IsReplyBehind kind fields reply

-- behind the name of each reply its fields are these
abbrev Forms : ReplyKind → List (List ℕ) → Type 0
Forms kinds.Rn16 = Spelled (with hex_word nothing) (Both IsWord Any)
Forms kinds.Epc = Spelled (with hex_word (with hex_words nothing)) (Both IsWord (Both (IsWordList 0 31) Any))
Forms kinds.Handle = Spelled (with hex_word nothing) (Both IsWord Any)
Forms kinds.Words = Spelled (with hex_words nothing) (Both (IsWordList 1 512) Any)
Forms kinds.Header = Spelled nothing Any
Forms kinds.Error = Spelled (with hex_byte nothing) (Both IsByte Any)

formed : (reply : Reply) (fields : List (List ℕ)) → IsReplyForm reply → fields ≡ replies.others reply → Forms (replies.kind reply) fields
formed (Rn16 rn) fields form is = ((rn, tt), (form, tt), is)
formed (Epc pc epc) fields form is = ((pc, (epc, tt)), (form.0, (form.1, tt)), is)
formed (Handle rn) fields form is = ((rn, tt), (form, tt), is)
formed (Words words) fields form is = ((words, tt), (form, tt), is)
formed Header fields form is = (tt, tt, is)
formed (Error code) fields form is = ((code, tt), (form, tt), is)

there_of : (kind : ReplyKind) (fields : List (List ℕ)) → HasReply kind fields → Forms kind fields
there_of = by_kind replies IsReplyForm Forms formed

reply_behind : (kind : ReplyKind) (fields : List (List ℕ)) → Decided (HasReply kind fields)
reply_behind kinds.Rn16 fields =
    same_answer (λ found. (Rn16 found.0.0, record { same_kind = refl; in_range = found.1.0; spelling = found.2 })) (there_of kinds.Rn16 fields) (then word_decided end fields)
reply_behind kinds.Epc fields =
    same_answer (λ found. (Epc found.0.0 found.0.1.0, record { same_kind = refl; in_range = (found.1.0, found.1.1.0); spelling = found.2 })) (there_of kinds.Epc fields)
    (then word_decided (then (words_decided 0 31) end) fields)
reply_behind kinds.Handle fields =
    same_answer (λ found. (Handle found.0.0, record { same_kind = refl; in_range = found.1.0; spelling = found.2 })) (there_of kinds.Handle fields) (then word_decided end fields)
reply_behind kinds.Words fields =
    same_answer (λ found. (Words found.0.0, record { same_kind = refl; in_range = found.1.0; spelling = found.2 })) (there_of kinds.Words fields)
    (then (words_decided 1 512) end fields)
reply_behind kinds.Header fields =
    same_answer (λ found. (Header, record { same_kind = refl; in_range = tt; spelling = found.2 })) (there_of kinds.Header fields) (end fields)
reply_behind kinds.Error fields =
    same_answer (λ found. (Error found.0.0, record { same_kind = refl; in_range = found.1.0; spelling = found.2 })) (there_of kinds.Error fields) (then byte_decided end fields)

pub replies_decided : AreDecided replies IsReplyForm
replies_decided = record { is = replies_are; names = named_decided reply_name all_reply_kinds reply_found; behind = reply_behind }
