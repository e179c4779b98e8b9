-- Profile: how what an interrogator expects, and what it heard, stand in a text.
use Rattle.std.specs.Prelude.{◌≤◌, ◌<◌, ◌^◌, ℕ, List, [], ◌∷◌, ◌++◌, codes}
use Rattle.std.specs.Fmt.{decimal}
use Rattle.text_fields.specs.Lines.{line_with}
use Rattle.text_fields.specs.Hexadecimal.{hex_byte, hex_word, hex_words}
use Rattle.text_fields.specs.WordLists.{IsWordList}
use Rattle.text_fields.specs.NamedFields.{AreFaulty, AreSpelling, SpellBehind, Vocabulary}
use Rattle.text_fields.specs.declared.fields_fault.FieldsFault.{FieldsFault}
use Rattle.wire_text.specs.declared.reply_kinds.ReplyKind.{ReplyKind}
use Rattle.wire_text.specs.declared.reply_kinds.ReplyKind.TheVariants as kinds
use Rattle.reply_grammar.specs.declared.expected.Expect.{Expect}
use Rattle.reply_grammar.specs.declared.expected.Expect.TheVariants.{Rn16 as OneRn16, Epc as OneEpc, Handle as OneHandle, Same, Words as SomeWords, AnyWords, Header as OneHeader}
use Rattle.reply_grammar.specs.declared.expected.Reply.{Reply}
use Rattle.reply_grammar.specs.declared.expected.Reply.TheVariants.{Rn16, Epc, Handle, Words, Header, Error}
use Rattle.reply_grammar.specs.declared.expected.ReplyRefusal.{ReplyRefusal}
use Rattle.reply_grammar.specs.declared.expected.ReplyRefusal.TheVariants.{Length, Crc, Header as HeaderBit, Number}

-- the one spelling of an expectation, as a field
abbrev pub expect_word : Expect → List ℕ
expect_word OneRn16 = codes "rn16"
expect_word OneEpc = codes "epc"
expect_word OneHandle = codes "handle"
expect_word (Same handle) = codes "same-" ++ hex_word handle
expect_word (SomeWords count handle) = codes "words-" ++ (decimal count ++ (codes "-" ++ hex_word handle))
expect_word (AnyWords handle) = codes "any-" ++ hex_word handle
expect_word (OneHeader handle) = codes "header-" ++ hex_word handle

-- the numbers of an expectation are in their ranges: a handle is a word, and a Read asks for 1 to 255 words
abbrev pub IsExpect : Expect → Type 0
IsExpect OneRn16 = Unit {0}
IsExpect OneEpc = Unit {0}
IsExpect OneHandle = Unit {0}
IsExpect (Same handle) = handle < 2 ^ 16
IsExpect (SomeWords count handle) = (1 ≤ count) × (count ≤ 255) × (handle < 2 ^ 16)
IsExpect (AnyWords handle) = handle < 2 ^ 16
IsExpect (OneHeader handle) = handle < 2 ^ 16

-- the name of a reply
abbrev pub reply_name : ReplyKind → List ℕ
reply_name kinds.Rn16 = codes "rn16"
reply_name kinds.Epc = codes "epc"
reply_name kinds.Handle = codes "handle"
reply_name kinds.Words = codes "words"
reply_name kinds.Header = codes "header"
reply_name kinds.Error = codes "error"

-- how many fields stand behind the name
abbrev pub reply_field_count : ReplyKind → ℕ
reply_field_count kinds.Rn16 = 1
reply_field_count kinds.Epc = 2
reply_field_count kinds.Handle = 1
reply_field_count kinds.Words = 1
reply_field_count kinds.Header = 0
reply_field_count kinds.Error = 1

-- which reply it is
abbrev pub reply_kind : Reply → ReplyKind
reply_kind (Rn16 rn) = kinds.Rn16
reply_kind (Epc pc epc) = kinds.Epc
reply_kind (Handle rn) = kinds.Handle
reply_kind (Words words) = kinds.Words
reply_kind Header = kinds.Header
reply_kind (Error code) = kinds.Error

-- the fields behind the name
abbrev pub other_reply_fields : Reply → List (List ℕ)
other_reply_fields (Rn16 rn) = hex_word rn ∷ []
other_reply_fields (Epc pc epc) = hex_word pc ∷ hex_words epc ∷ []
other_reply_fields (Handle rn) = hex_word rn ∷ []
other_reply_fields (Words words) = hex_words words ∷ []
other_reply_fields Header = []
other_reply_fields (Error code) = hex_byte code ∷ []

-- the replies as what may be spelled
abbrev pub replies : Vocabulary ReplyKind Reply
replies = record { name = reply_name; count = reply_field_count; kind = reply_kind; others = other_reply_fields }

-- the fields of a reply: its name, and those behind that
abbrev pub reply_fields : Reply → List (List ℕ)
reply_fields reply = reply_name (reply_kind reply) ∷ other_reply_fields reply

-- a reply as a line, without its line feed
abbrev pub reply_line : Reply → List ℕ
reply_line reply = line_with (reply_fields reply)

-- Each number of a reply is in the range of its field: an EPC has at most the 31 words that a PC can count, and a Read
-- brings 1 to 512 words (profile). Whether the PC counts the words of its EPC, the fields don't say.
abbrev pub IsReplyForm : Reply → Type 0
IsReplyForm (Rn16 rn) = rn < 2 ^ 16
IsReplyForm (Epc pc epc) = (pc < 2 ^ 16) × IsWordList 0 31 epc
IsReplyForm (Handle rn) = rn < 2 ^ 16
IsReplyForm (Words words) = IsWordList 1 512 words
IsReplyForm Header = Unit {0}
IsReplyForm (Error code) = code < 2 ^ 8

-- the fields spell the reply, each of whose numbers is in the range of its field
abbrev pub IsReplyText : List (List ℕ) → Reply → Type 0
IsReplyText fields reply = AreSpelling replies IsReplyForm fields reply

-- behind the name of this reply, the fields spell the reply
abbrev pub IsReplyBehind : ReplyKind → List (List ℕ) → Reply → Type 0
IsReplyBehind kind fields reply = SpellBehind replies IsReplyForm kind fields reply

-- the first reason for which fields spell no reply
abbrev pub IsFaultyReply : List (List ℕ) → FieldsFault → Type 0
IsFaultyReply fields fault = AreFaulty replies IsReplyForm fields fault

-- why bits are no reply that is expected, as a line without its line feed
abbrev pub refusal_line : ReplyRefusal → List ℕ
refusal_line Length = codes "refused length"
refusal_line Crc = codes "refused crc"
refusal_line HeaderBit = codes "refused header"
refusal_line Number = codes "refused number"
