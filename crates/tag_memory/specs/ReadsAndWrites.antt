-- 6.3.2.11.3.2 Read, 6.3.2.11.3.3 Write, 6.3.2.11.3.7 BlockWrite, 6.3.2.11.3.8 BlockErase: what they do with a memory.
-- Which code a refusal has, and that Overrun comes before Locked, is profile.
use Rattle.std.specs.Prelude.{ℕ, zero, suc, ◌+◌, ◌-◌, nat_lt, nat_le, ◌==◌, Bool, true, false, not, ◌&&◌, ◌||◌, List, ◌++◌, length, take, drop, replicate, if◌then◌else◌, Result, Ok, Err}
use Rattle.command_fields.specs.declared.choices.Bank.{Bank}
use Rattle.command_fields.specs.declared.choices.Bank.TheVariants.{Reserved, Epc, Tid, User}
use Rattle.lock_rules.specs.declared.fields_and_levels.Field.{Field}
use Rattle.lock_rules.specs.declared.fields_and_levels.Field.TheVariants.{KillWord, AccessWord, Epc as EpcField, Tid as TidField, User as UserField}
use Rattle.lock_rules.specs.declared.fields_and_levels.Level.{Level}
use Rattle.lock_rules.specs.declared.fields_and_levels.ErrorCode.{ErrorCode}
use Rattle.lock_rules.specs.declared.fields_and_levels.ErrorCode.TheVariants.{Overrun, Locked}
use Rattle.lock_rules.specs.declared.locks.Locks.{Locks}
use Rattle.lock_rules.specs.Permissions.{may, Reading, Writing}
use Rattle.tag_memory.specs.Memory.{Banks, bank_of, with_bank, pc_of, length_in}
use Rattle.tag_memory.specs.Image.{epc_fits}

-- the field whose pair of lock bits a word goes by
abbrev pub lock_field_at : Bank → ℕ → Field
lock_field_at Reserved place = (if nat_lt place 2 then KillWord else AccessWord)
lock_field_at Epc place = EpcField
lock_field_at Tid place = TidField
lock_field_at User place = UserField

-- a word may be read, by the lock bits of its field
abbrev pub may_read_word : Locks → Level → Bank → ℕ → Bool
may_read_word locks level bank place = may locks (lock_field_at bank place) level Reading

-- StoredCRC is never written
abbrev pub is_stored_crc : Bank → ℕ → Bool
is_stored_crc Reserved place = false
is_stored_crc Epc place = place == 0
is_stored_crc Tid place = false
is_stored_crc User place = false

abbrev pub may_write_word : Locks → Level → Bank → ℕ → Bool
may_write_word locks level bank place = not (is_stored_crc bank place) && may locks (lock_field_at bank place) level Writing

-- as many words as said pass a test, from a place on
abbrev pub all_words : (ℕ → Bool) → ℕ → ℕ → Bool
all_words passes place zero = true
all_words passes place (suc more) = passes place && all_words passes (place + 1) more

-- the place behind the last word that a Read of no given number takes: the end of the EPC where it begins before that,
-- else the end of the bank
abbrev pub open_end : Banks → Bank → ℕ → ℕ
open_end banks Reserved pointer = length banks.reserved
open_end banks Epc pointer =
    (if nat_lt pointer (2 + length_in (pc_of banks)) then 2 + length_in (pc_of banks) else length banks.epc)
open_end banks Tid pointer = length banks.tid
open_end banks User pointer = length banks.user

-- the place behind the last word that a Read takes
abbrev pub read_end : Banks → Bank → ℕ → ℕ → ℕ
read_end banks bank pointer count = (if count == 0 then open_end banks bank pointer else pointer + count)

-- what a Read answers: the words, Overrun where there is none or they pass the bank, or Locked where one of them may not
-- be read
abbrev pub words_read : Banks → Locks → Level → Bank → ℕ → ℕ → Result (List ℕ) ErrorCode
words_read banks locks level bank pointer count =
    let end = read_end banks bank pointer count in
    (if nat_le end pointer || nat_lt (length (bank_of banks bank)) end then Err Overrun
    else (if all_words (may_read_word locks level bank) pointer (end - pointer)
    then Ok (take (end - pointer) (drop pointer (bank_of banks bank)))
    else Err Locked))

-- a list with these words from a place on, in place of those that stood there
abbrev pub with_words_at : List ℕ → ℕ → List ℕ → List ℕ
with_words_at old pointer words = take pointer old ++ words ++ drop (pointer + length words) old

-- the memory with these words in a bank, from a place on
abbrev pub banks_with_words_at : Banks → Bank → ℕ → List ℕ → Banks
banks_with_words_at banks bank pointer words = with_bank banks bank (with_words_at (bank_of banks bank) pointer words)

-- the EPC that PC announces lies inside its bank. It does so in each memory of a tag, so that only a new PC can break it.
abbrev pub length_fits : Banks → Bool
length_fits banks = epc_fits (pc_of banks) (length banks.epc)

-- what a write of these words leaves: all of them written (profile), or Overrun where they pass the bank or a new PC
-- announces more than the bank has, or Locked where one of them may not be written
abbrev pub banks_after_write : Banks → Locks → Level → Bank → ℕ → List ℕ → Result Banks ErrorCode
banks_after_write banks locks level bank pointer words =
    let after = banks_with_words_at banks bank pointer words in
    (if nat_lt (length (bank_of banks bank)) (pointer + length words) || not (length_fits after) then Err Overrun
    else (if all_words (may_write_word locks level bank) pointer (length words) then Ok after else Err Locked))

-- an erased word is 0000h (profile)
abbrev pub banks_after_erase : Banks → Locks → Level → Bank → ℕ → ℕ → Result Banks ErrorCode
banks_after_erase banks locks level bank pointer count = banks_after_write banks locks level bank pointer (replicate count 0)
