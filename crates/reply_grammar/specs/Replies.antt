-- The replies of tags as bits (6.3.2.11 Interrogator commands and Tag replies).
use Rattle.std.specs.Prelude.{◌≡◌, ℕ, ◌/◌, ◌^◌, ◌<◌, ◌≤◌, ◌==◌, ◌&&◌, nat_le, Bool, true, false, List, ◌∷◌, ◌++◌, length, All}
use Rattle.bit_strings.specs.NumbersInBits.{field_of}
use Rattle.bit_strings.specs.Words.{bits_of_words}
use Rattle.gen2_crc.specs.Crc.{crc16_of}
use Rattle.reply_grammar.specs.declared.expected.Expect.{Expect}
use Rattle.reply_grammar.specs.declared.expected.Expect.TheVariants.{Rn16 as OneRn16, Epc as OneEpc, Handle as OneHandle, Same, Words as SomeWords, AnyWords, Header as OneHeader}
use Rattle.reply_grammar.specs.declared.expected.Reply.{Reply}
use Rattle.reply_grammar.specs.declared.expected.Reply.TheVariants.{Rn16, Epc, Handle, Words, Header, Error}

-- how many bits the longest reply has: 512 words with their header, the handle and the CRC-16
abbrev pub longest_reply : ℕ
longest_reply = 8225

-- the room, in bits, in which each reply fits
abbrev pub reply_room : ℕ
reply_room = 8240

-- each number is a word
abbrev pub AreWords : List ℕ → Type 0
AreWords words = All (λ word. word < 2 ^ 16) words

-- bits and their CRC-16 behind them
abbrev pub with_check : List Bool → List Bool
with_check bits = bits ++ crc16_of bits

-- the bits of a reply; a header bit 0 says success, a 1 says that an error code follows
unfoldable pub spelling : Reply → ℕ → List Bool
spelling (Rn16 rn) handle = field_of rn 16
spelling (Epc pc epc) handle = with_check (field_of pc 16 ++ bits_of_words epc)
spelling (Handle rn) handle = with_check (field_of rn 16)
spelling (Words words) handle = with_check (false ∷ (bits_of_words words ++ field_of handle 16))
spelling Header handle = with_check (false ∷ field_of handle 16)
spelling (Error code) handle = with_check (true ∷ (field_of code 8 ++ field_of handle 16))

-- the numbers of a reply are in their ranges, and a PC counts the words of its EPC in its first five bits
abbrev pub IsReply : Reply → Type 0
IsReply (Rn16 rn) = rn < 2 ^ 16
IsReply (Epc pc epc) = (pc < 2 ^ 16) × AreWords epc × (length epc ≡ pc / 2 ^ 11)
IsReply (Handle rn) = rn < 2 ^ 16
IsReply (Words words) = AreWords words
IsReply Header = Unit {0}
IsReply (Error code) = code < 2 ^ 8

-- a Read brings at most the 512 words of a bank (profile)
abbrev pub FitsBank : Reply → Type 0
FitsBank (Rn16 rn) = Unit {0}
FitsBank (Epc pc epc) = Unit {0}
FitsBank (Handle rn) = Unit {0}
FitsBank (Words words) = length words ≤ 512
FitsBank Header = Unit {0}
FitsBank (Error code) = Unit {0}

-- the handle that an expectation names
abbrev pub handle_of : Expect → ℕ
handle_of OneRn16 = 0
handle_of OneEpc = 0
handle_of OneHandle = 0
handle_of (Same handle) = handle
handle_of (SomeWords count handle) = handle
handle_of (AnyWords handle) = handle
handle_of (OneHeader handle) = handle

-- which replies answer what is expected, row by row
abbrev pub Suits : Reply → Expect → Type 0
Suits (Rn16 rn) OneRn16 = Unit {0}
Suits (Epc pc epc) OneEpc = Unit {0}
Suits (Handle rn) OneHandle = Unit {0}
Suits (Handle rn) (Same handle) = rn ≡ handle
Suits (Words words) (SomeWords count handle) = length words ≡ count
Suits (Words words) (AnyWords handle) = (1 ≤ length words) × (length words ≤ 512)
Suits Header (OneHeader handle) = Unit {0}
Suits (Error code) (SomeWords count handle) = Unit {0}
Suits (Error code) (AnyWords handle) = Unit {0}
Suits (Error code) (OneHeader handle) = Unit {0}
Suits reply expect = ⊥

-- whether a reply answers what is expected: `Suits`, decided
abbrev pub suits : Reply → Expect → Bool
suits (Rn16 rn) OneRn16 = true
suits (Epc pc epc) OneEpc = true
suits (Handle rn) OneHandle = true
suits (Handle rn) (Same handle) = rn == handle
suits (Words words) (SomeWords count handle) = length words == count
suits (Words words) (AnyWords handle) = nat_le 1 (length words) && nat_le (length words) 512
suits Header (OneHeader handle) = true
suits (Error code) (SomeWords count handle) = true
suits (Error code) (AnyWords handle) = true
suits (Error code) (OneHeader handle) = true
suits reply expect = false

-- the bits are the reply, and it is one that is expected
pub record AnswersExpected (reply : Reply) (expect : Expect) (bits : List Bool) : Type 0 where
  pub suits : Suits reply expect
  pub in_range : IsReply reply
  pub handle_in_range : handle_of expect < 2 ^ 16
  pub spelled : bits ≡ spelling reply (handle_of expect)

-- what an encoder asks of a reply: a PC that counts its EPC, and a word at least
abbrev pub CanBeSent : Reply → Type 0
CanBeSent (Rn16 rn) = Unit {0}
CanBeSent (Epc pc epc) = length epc ≡ pc / 2 ^ 11
CanBeSent (Handle rn) = Unit {0}
CanBeSent (Words words) = 1 ≤ length words
CanBeSent Header = Unit {0}
CanBeSent (Error code) = Unit {0}

-- the reply carries the handle that an expectation names, where it names one
abbrev pub Carries : Expect → ℕ → Type 0
Carries OneRn16 handle = Unit {0}
Carries OneEpc handle = Unit {0}
Carries OneHandle handle = Unit {0}
Carries (Same named) handle = named ≡ handle
Carries (SomeWords count named) handle = named ≡ handle
Carries (AnyWords named) handle = named ≡ handle
Carries (OneHeader named) handle = named ≡ handle
