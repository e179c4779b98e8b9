-- Why bits are no reply that is expected: four things are asked in order, and the first that fails is the answer.
use Rattle.std.specs.Prelude.{◌≡◌, ℕ, ◌-◌, ◌*◌, ◌+◌, ◌≤◌, ◌⊎◌, ◌==◌, Bool, List, ◌++◌, length, take, Some, slice_get}
use Rattle.bit_strings.specs.NumbersInBits.{value_of, part_of}
use Rattle.gen2_crc.specs.Crc.{crc16_of}
use Rattle.reply_grammar.specs.declared.expected.Expect.{Expect}
use Rattle.reply_grammar.specs.declared.expected.Expect.TheVariants.{Rn16, Epc, Handle, Same, Words, AnyWords, Header}
use Rattle.reply_grammar.specs.declared.expected.ReplyRefusal.{ReplyRefusal}
use Rattle.reply_grammar.specs.declared.expected.ReplyRefusal.TheVariants.{Length, Crc, Header as HeaderBit, Number}

-- the length of an error: header, code, handle and CRC-16
abbrev pub error_length : ℕ
error_length = 41

-- the number of bits is one that is allowed; that of an EPC goes by the first five bits of its PC
abbrev pub FitsLength : Expect → List Bool → Type 0
FitsLength Rn16 bits = length bits ≡ 16
FitsLength Epc bits = length bits ≡ 32 + 16 * value_of (take 5 bits)
FitsLength Handle bits = length bits ≡ 32
FitsLength (Same handle) bits = length bits ≡ 32
FitsLength (Words count handle) bits = (length bits ≡ 33 + 16 * count) ⊎ (length bits ≡ error_length)
FitsLength (AnyWords handle) bits = ((count : ℕ) × (1 ≤ count) × (count ≤ 512) × (length bits ≡ 33 + 16 * count)) ⊎ (length bits ≡ error_length)
FitsLength (Header handle) bits = (length bits ≡ 33) ⊎ (length bits ≡ error_length)

-- the last 16 bits are the CRC-16 of the rest
pub record EndsWithCheck (bits : List Bool) : Type 0 where
  pub front : List Bool
  pub split : bits ≡ front ++ crc16_of front

-- an RN16 alone has no CRC-16
abbrev pub PassesCheck : Expect → List Bool → Type 0
PassesCheck Rn16 bits = Unit {0}
PassesCheck Epc bits = EndsWithCheck bits
PassesCheck Handle bits = EndsWithCheck bits
PassesCheck (Same handle) bits = EndsWithCheck bits
PassesCheck (Words count handle) bits = EndsWithCheck bits
PassesCheck (AnyWords handle) bits = EndsWithCheck bits
PassesCheck (Header handle) bits = EndsWithCheck bits

-- the first bit says error exactly at the length of an error
abbrev pub HasHeader : List Bool → Type 0
HasHeader bits = slice_get bits 0 ≡ Some (length bits == error_length)

-- the header bit is as it is expected, where a header is expected
abbrev pub PassesHeader : Expect → List Bool → Type 0
PassesHeader Rn16 bits = Unit {0}
PassesHeader Epc bits = Unit {0}
PassesHeader Handle bits = Unit {0}
PassesHeader (Same handle) bits = Unit {0}
PassesHeader (Words count handle) bits = HasHeader bits
PassesHeader (AnyWords handle) bits = HasHeader bits
PassesHeader (Header handle) bits = HasHeader bits

-- the 16 bits before the CRC-16 are the handle
abbrev pub HasHandle : ℕ → List Bool → Type 0
HasHandle handle bits = value_of (part_of bits (length bits - 32) 16) ≡ handle

-- the handle is the one that is expected, where one is
abbrev pub PassesNumber : Expect → List Bool → Type 0
PassesNumber Rn16 bits = Unit {0}
PassesNumber Epc bits = Unit {0}
PassesNumber Handle bits = Unit {0}
PassesNumber (Same handle) bits = HasHandle handle bits
PassesNumber (Words count handle) bits = HasHandle handle bits
PassesNumber (AnyWords handle) bits = HasHandle handle bits
PassesNumber (Header handle) bits = HasHandle handle bits

-- the bits pass all four things that are asked of an expected reply
pub record Passes (expect : Expect) (bits : List Bool) : Type 0 where
  pub length_fits : FitsLength expect bits
  pub check : PassesCheck expect bits
  pub header : PassesHeader expect bits
  pub number : PassesNumber expect bits

-- the bits are no reply that is expected, for this reason, the first of the four that applies
abbrev pub RefusesReply : ReplyRefusal → Expect → List Bool → Type 0
RefusesReply Length expect bits = ¬ FitsLength expect bits
RefusesReply Crc expect bits = FitsLength expect bits × (¬ PassesCheck expect bits)
RefusesReply HeaderBit expect bits = FitsLength expect bits × PassesCheck expect bits × (¬ PassesHeader expect bits)
RefusesReply Number expect bits = FitsLength expect bits × PassesCheck expect bits × PassesHeader expect bits × (¬ PassesNumber expect bits)
