-- Fields spell one reply, or are faulty for one reason.
use Rattle.std.proofs.Common.{◌≡◌, ◌<◌, ◌^◌, ◌/◌, ◌%◌, ℕ, List, [], ◌∷◌, length, ap, arith, refl, sym, ◌∙◌}
use Rattle.std.specs.Prelude.{All}
use Rattle.std.proofs.lemmas.List.Elements.{All-cons, All-nil}
use Rattle.text_fields.specs.Lines.{IsFieldText, fields_of}
use Rattle.text_fields.specs.Hexadecimal.{hex_byte, hex_word, hex_words}
use Rattle.text_fields.specs.NamedFields.{AreFilled}
use Rattle.text_fields.proofs.FieldTextLaws.{IsFieldText-cons as before, IsFieldText-hex_byte, IsFieldText-hex_word, IsFieldText-hex_words, IsFieldText-one}
use Rattle.text_fields.proofs.ToldApart.{hex_word_told, hex_words_told}
use Rattle.text_fields.proofs.NamedFieldLaws.{IsVocabulary, one_fault, same_behind, spelling_is_not_faulty, texts_come_back, texts_filled}
use Rattle.text_fields.specs.declared.fields_fault.FieldsFault.{FieldsFault}
use Rattle.reply_grammar.specs.declared.expected.Reply.{Reply}
use Rattle.reply_grammar.specs.declared.expected.Reply.TheVariants.{Rn16, Epc, Handle, Words, Header, Error}
use Rattle.wire_text.specs.declared.reply_kinds.ReplyKind.{ReplyKind}
use Rattle.wire_text.specs.declared.reply_kinds.ReplyKind.TheVariants as kinds
use Rattle.wire_text.specs.FieldNames.{all_reply_kinds, reply_found}
use Rattle.wire_text.proofs.NameLists.{told}
use Rattle.wire_text.proofs.CommandsToldApart.{hex_digit_told}
use Rattle.wire_text.proofs.Cuts.{letter}
use Rattle.wire_text.specs.ReplyText.{IsFaultyReply, IsReplyForm, IsReplyText, other_reply_fields, replies, reply_field_count, reply_fields, reply_kind, reply_line, reply_name}

name_is : (kind : ReplyKind) → IsFieldText (reply_name kind)
name_is kinds.Handle = search (arith, before, IsFieldText-one) depth 16
name_is kinds.Header = search (arith, before, IsFieldText-one) depth 16
name_is kind = search (arith, before, IsFieldText-one) depth 12

one_text : (field : List ℕ) → IsFieldText field → All IsFieldText (field ∷ [])
one_text field is = All-cons IsFieldText field [] is (All-nil IsFieldText)

other_texts : (reply : Reply) → All IsFieldText (other_reply_fields reply)
other_texts (Rn16 rn) = one_text (hex_word rn) (IsFieldText-hex_word rn)
other_texts (Epc pc epc) =
    All-cons IsFieldText (hex_word pc) (hex_words epc ∷ []) (IsFieldText-hex_word pc) (one_text (hex_words epc) (IsFieldText-hex_words epc))
other_texts (Handle rn) = one_text (hex_word rn) (IsFieldText-hex_word rn)
other_texts (Words words) = one_text (hex_words words) (IsFieldText-hex_words words)
other_texts Header = All-nil IsFieldText
other_texts (Error code) = one_text (hex_byte code) (IsFieldText-hex_byte code)

pub reply_texts : (reply : Reply) → All IsFieldText (reply_fields reply)
reply_texts reply = All-cons IsFieldText (reply_name (reply_kind reply)) (other_reply_fields reply) (name_is (reply_kind reply)) (other_texts reply)

-- a reply has as many fields as its name says
counted : (reply : Reply) → reply_field_count (reply_kind reply) ≡ length (other_reply_fields reply)
counted (Rn16 rn) = refl
counted reply = refl

filled : (reply : Reply) → IsReplyForm reply → AreFilled (reply_field_count (reply_kind reply)) (other_reply_fields reply)
filled reply is = texts_filled (other_reply_fields reply) (reply_field_count (reply_kind reply)) (other_texts reply) (counted reply)

name_told : (one other : ReplyKind) → reply_name one ≡ reply_name other → one ≡ other
name_told = told reply_name all_reply_kinds reply_found

hex_byte_told : (m n : ℕ) → m < 2 ^ 8 → n < 2 ^ 8 → hex_byte m ≡ hex_byte n → m ≡ n
hex_byte_told m n small small' same =
    let high = hex_digit_told (m / 16) (n / 16) (omega arith) (omega arith) (letter 0 (hex_byte m) (hex_byte n) same) in
    let low = hex_digit_told (m % 16) (n % 16) (omega arith) (omega arith) (letter 1 (hex_byte m) (hex_byte n) same) in
    omega arith

same_2 : (a b a' b' : List ℕ) → a ∷ b ∷ [] ≡ a' ∷ b' ∷ [] → (a ≡ a') × (b ≡ b')
same_2 a b a' b' same = (cc, cc)

-- two replies of one name with the same fields
others_told : (one other : Reply) → IsReplyForm one → IsReplyForm other → reply_kind one ≡ reply_kind other
    → other_reply_fields one ≡ other_reply_fields other → one ≡ other
others_told (Rn16 rn) (Rn16 rn') is is' kind same = ap Rn16 (hex_word_told rn rn' is is' (same_behind (hex_word rn) (hex_word rn') [] [] same).0)
others_told (Epc pc epc) (Epc pc' epc') is is' kind same =
    let fields = same_2 _ _ _ _ same in
    let pcs = hex_word_told pc pc' is.0 is'.0 fields.0 in
    let epcs = hex_words_told epc epc' is.1.small is'.1.small fields.1 in
    cc
others_told (Handle rn) (Handle rn') is is' kind same =
    ap Handle (hex_word_told rn rn' is is' (same_behind (hex_word rn) (hex_word rn') [] [] same).0)
others_told (Words words) (Words words') is is' kind same =
    ap Words (hex_words_told words words' is.small is'.small (same_behind (hex_words words) (hex_words words') [] [] same).0)
others_told Header Header is is' kind same = refl
others_told (Error code) (Error code') is is' kind same =
    ap Error (hex_byte_told code code' is is' (same_behind (hex_byte code) (hex_byte code') [] [] same).0)
others_told one other is is' kind same = cc

pub replies_are : IsVocabulary replies IsReplyForm
replies_are = record { told = name_told; filled = filled }

pub reply_told : (fields : List (List ℕ)) (one other : Reply) → IsReplyText fields one → IsReplyText fields other → one ≡ other
reply_told fields one other is is' =
    let same = same_behind (reply_name (reply_kind one)) (reply_name (reply_kind other)) (other_reply_fields one) (other_reply_fields other)
    (sym is.spelling ∙ is'.spelling) in
    others_told one other is.in_range is'.in_range (name_told (reply_kind one) (reply_kind other) same.0) same.1

pub reply_comes_back : (reply : Reply) → fields_of (reply_line reply) ≡ reply_fields reply
reply_comes_back reply = texts_come_back (reply_name (reply_kind reply)) (other_reply_fields reply) (reply_texts reply)

pub reply_is_not_faulty : (fields : List (List ℕ)) (reply : Reply) (fault : FieldsFault) → IsReplyText fields reply → IsFaultyReply fields fault → ⊥
reply_is_not_faulty fields reply fault = spelling_is_not_faulty replies IsReplyForm replies_are fields reply fault

pub one_reply_fault : (fields : List (List ℕ)) (one other : FieldsFault) → IsFaultyReply fields one → IsFaultyReply fields other → one ≡ other
one_reply_fault fields one other = one_fault replies IsReplyForm fields one other
