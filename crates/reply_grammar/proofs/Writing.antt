-- How a reply is written part by part.
use Rattle.std.proofs.Common.{◌≡◌, ℕ, ◌+◌, ◌≤◌, Bool, List, ◌++◌, length, ◌∙◌, ap, arith}
use Rattle.bit_strings.specs.BitString.{BitString}
use Rattle.bit_strings.specs.NumbersInBits.{value_of, field_of}
use Rattle.bit_strings.specs.Words.{bits_of_words}
use Rattle.gen2_crc.specs.Crc.{crc16_of}
use Rattle.gen2_crc.specs.laws.CheckNumbers.{field_of-crc16}
use Rattle.reply_grammar.specs.Replies.{with_check}

-- a part more behind what was written
pub wrote : (a b : BitString) (front more : List Bool) (capacity : ℕ) → a ≡ record { items = front; capacity = capacity } → b ≡ record { items = a.items ++ more; capacity = a.capacity } → b ≡ record { items = front ++ more; capacity = capacity }
wrote a b front more capacity before after = after ∙ ap (λ (s : BitString). record { items = s.items ++ more; capacity = s.capacity }) before

pub checked : (a b : BitString) (front : List Bool) (capacity : ℕ) → a ≡ record { items = front; capacity = capacity } → b ≡ record { items = with_check a.items; capacity = a.capacity } → b ≡ record { items = with_check front; capacity = capacity }
checked a b front capacity before after = after ∙ ap (λ (s : BitString). record { items = with_check s.items; capacity = s.capacity }) before

pub room_left : (a : BitString) (front : List Bool) (capacity n : ℕ) → a ≡ record { items = front; capacity = capacity } → length front + n ≤ capacity → length a.items + n ≤ a.capacity
room_left a front capacity n before room = omega (arith, ap (λ (s : BitString). length s.items) before, ap (λ (s : BitString). s.capacity) before)

-- the check number as a field
pub check_written : (a b : BitString) (check : ℕ) → check ≡ value_of (crc16_of a.items) → b ≡ record { items = a.items ++ field_of check 16; capacity = a.capacity } → b ≡ record { items = with_check a.items; capacity = a.capacity }
check_written a b check value after =
    after ∙ ap (λ (bits : List Bool). record { items = a.items ++ bits; capacity = a.capacity }) (ap (λ n. field_of n 16) value ∙ field_of-crc16 a.items)

-- a list is the words that were lent
pub words_lent : (capacity : ℕ) (front : List Bool) (lent words : List ℕ) → lent ≡ words → ◌≡◌ {A = BitString} (record { items = front ++ bits_of_words lent; capacity = capacity }) (record { items = front ++ bits_of_words words; capacity = capacity })
words_lent capacity front lent words same = ap (λ (ws : List ℕ). record { items = front ++ bits_of_words ws; capacity = capacity }) same
