-- 6.3.2.1 Tag memory: what a tag's four banks hold. A bank is the list of its words, so that a memory is a finite map
-- from a bank and a word's number to that word, with the sizes of the banks.
use Rattle.std.specs.Prelude.{◌≡◌, ℕ, ◌+◌, ◌*◌, ◌/◌, ◌^◌, ◌≤◌, List, ◌∷◌, length, take, drop, slice_index}
use Rattle.bit_strings.specs.NumbersInBits.{value_of}
use Rattle.bit_strings.specs.Words.{bits_of_words}
use Rattle.gen2_crc.specs.Crc.{crc16_of}
use Rattle.reply_grammar.specs.Replies.{AreWords}
use Rattle.command_fields.specs.declared.choices.Bank.{Bank}
use Rattle.command_fields.specs.declared.choices.Bank.TheVariants.{Reserved, Epc, Tid, User}
use Rattle.command_fields.specs.declared.choices.MaskBank.{MaskBank}
use Rattle.command_fields.specs.declared.choices.MaskBank.TheVariants.{Epc as EpcMask, Tid as TidMask, User as UserMask}

-- the words of each bank
pub record Banks : Type 0 where
  -- kill password and access password, the upper half of each first (6.3.2.1.1)
  pub reserved : List ℕ
  -- StoredCRC, PC and the EPC (6.3.2.1.2)
  pub epc : List ℕ
  pub tid : List ℕ
  pub user : List ℕ

-- the words of the bank that is named
abbrev pub bank_of : Banks → Bank → List ℕ
bank_of banks Reserved = banks.reserved
bank_of banks Epc = banks.epc
bank_of banks Tid = banks.tid
bank_of banks User = banks.user

-- the bank that a Select names
abbrev pub bank_named : MaskBank → Bank
bank_named EpcMask = Epc
bank_named TidMask = Tid
bank_named UserMask = User

-- the memory with these words in the bank that is named
abbrev pub with_bank : Banks → Bank → List ℕ → Banks
with_bank banks Reserved words = record banks { reserved = words }
with_bank banks Epc words = record banks { epc = words }
with_bank banks Tid words = record banks { tid = words }
with_bank banks User words = record banks { user = words }

-- the passwords, 32 bits each
abbrev pub kill_word_of : Banks → ℕ
kill_word_of banks = slice_index banks.reserved 0 * 2 ^ 16 + slice_index banks.reserved 1

abbrev pub access_word_of : Banks → ℕ
access_word_of banks = slice_index banks.reserved 2 * 2 ^ 16 + slice_index banks.reserved 3

-- 6.3.2.1.2.2 Protocol-control bits: the first five bits of PC are the number of EPC words
abbrev pub pc_of : Banks → ℕ
pc_of banks = slice_index banks.epc 1

-- how many words of EPC a PC announces
abbrev pub length_in : ℕ → ℕ
length_in pc = pc / 2 ^ 11

-- the EPC: as many words as PC announces, behind StoredCRC and PC
abbrev pub epc_of : Banks → List ℕ
epc_of banks = take (length_in (pc_of banks)) (drop 2 banks.epc)

-- 6.3.2.1.2.1: StoredCRC is the CRC-16 of PC and of the words of the EPC
abbrev pub stored_crc_of : Banks → ℕ
stored_crc_of banks = value_of (crc16_of (bits_of_words (pc_of banks ∷ epc_of banks)))

-- the memory with StoredCRC computed again, as at power-on, and all else as it was
abbrev pub with_stored_crc : Banks → Banks
with_stored_crc banks = record banks { epc = stored_crc_of banks ∷ drop 1 banks.epc }

-- the sizes that a bank may have (profile), and that the EPC which PC announces lies inside its bank
pub record IsLegalMemory (banks : Banks) : Type 0 where
  pub reserved_size : length banks.reserved ≡ 4
  pub epc_least : 2 ≤ length banks.epc
  pub epc_most : length banks.epc ≤ 33
  pub tid_least : 2 ≤ length banks.tid
  pub tid_most : length banks.tid ≤ 16
  pub user_most : length banks.user ≤ 512
  pub length_fits : 2 + length_in (pc_of banks) ≤ length banks.epc

-- each word of the banks is a number of 16 bits
pub record AreBanksOfWords (banks : Banks) : Type 0 where
  pub reserved : AreWords banks.reserved
  pub epc : AreWords banks.epc
  pub tid : AreWords banks.tid
  pub user : AreWords banks.user

-- legal banks whose words are numbers of 16 bits
pub record AreSound (banks : Banks) : Type 0 where
  pub legal : IsLegalMemory banks
  pub words : AreBanksOfWords banks
