-- 6.3.2.11.3.5 Lock: how a payload of ten mask bits and ten action bits changes the pairs of a tag's fields.
use Rattle.std.specs.Prelude.{ℕ, ◌+◌, ◌*◌, ◌/◌, ◌%◌, ◌^◌, ◌==◌, Bool, not, ◌&&◌, ◌||◌, List, [], ◌∷◌, if◌then◌else◌, Result, Ok, Err}
use Rattle.std.specs.List.{list_any}
use Rattle.bit_strings.specs.NumbersInBits.{digit_of}
use Rattle.lock_rules.specs.declared.fields_and_levels.ErrorCode.{ErrorCode}
use Rattle.lock_rules.specs.declared.fields_and_levels.ErrorCode.TheVariants.{Overrun, Locked}
use Rattle.lock_rules.specs.declared.fields_and_levels.Field.{Field}
use Rattle.lock_rules.specs.declared.fields_and_levels.Field.TheVariants.{KillWord, AccessWord, Epc, Tid, User}
use Rattle.lock_rules.specs.declared.locks.Pair.{Pair}
use Rattle.lock_rules.specs.declared.locks.Locks.{Locks}
use Rattle.lock_rules.specs.Permissions.{lock_pair_of}

-- the bit of a number at a place, counted from its last bit as 0
abbrev pub bit_at_place : ℕ → ℕ → Bool
bit_at_place number place = number / 2 ^ place % 2 == 1

-- the place of a field's permalock bit among ten bits; its write bit stands before it
abbrev pub permalock_place_of : Field → ℕ
permalock_place_of KillWord = 8
permalock_place_of AccessWord = 6
permalock_place_of Epc = 4
permalock_place_of Tid = 2
permalock_place_of User = 0

-- the pair of a field among ten bits
abbrev pub pair_at : ℕ → Field → Pair
pair_at bits field = record { write_bit = bit_at_place bits (permalock_place_of field + 1); permalock = bit_at_place bits (permalock_place_of field) }

-- the pairs of all fields, from ten bits
abbrev pub locks_of : ℕ → Locks
locks_of bits = record {
  kill_word = pair_at bits KillWord;
  access_word = pair_at bits AccessWord;
  epc = pair_at bits Epc;
  tid = pair_at bits Tid;
  user = pair_at bits User;
}

-- a pair as a number from 0 to 3, and all pairs as a number below 1,024
abbrev pub pair_number : Pair → ℕ
pair_number pair = 2 * digit_of pair.write_bit + digit_of pair.permalock

abbrev pub locks_number : Locks → ℕ
locks_number locks =
    256 * pair_number locks.kill_word + 64 * pair_number locks.access_word + 16 * pair_number locks.epc
    + 4 * pair_number locks.tid + pair_number locks.user

-- the mask is the first ten bits of a payload of twenty, and the action the last ten
abbrev pub lock_mask_of : ℕ → Field → Pair
lock_mask_of payload field = pair_at (payload / 2 ^ 10) field

-- the two action bits of a field, the write bit first
abbrev pub action_of : ℕ → Field → Pair
action_of payload field = pair_at payload field

-- a payload that asks to take a permalock off
abbrev pub takes_permalock_off : Locks → ℕ → Field → Bool
takes_permalock_off locks payload field =
    (lock_mask_of payload field).permalock && not (action_of payload field).permalock && (lock_pair_of locks field).permalock

-- a pair after a payload: one that is permalocked stays (profile, but for a payload that asserts the permalock again), and
-- in another each masked bit becomes its action bit
abbrev pub pair_after : Pair → Pair → Pair → Pair
pair_after pair mask action =
    (if pair.permalock then pair else record {
      write_bit = (if mask.write_bit then action.write_bit else pair.write_bit);
      permalock = (if mask.permalock then action.permalock else pair.permalock);
    })

-- the pair of a field after a Lock with this payload
abbrev pub pair_after_lock : Locks → ℕ → Field → Pair
pair_after_lock locks payload field = pair_after (lock_pair_of locks field) (lock_mask_of payload field) (action_of payload field)

-- the fields in the order in which their pairs stand in a payload
abbrev pub fields : List Field
fields = KillWord ∷ AccessWord ∷ Epc ∷ Tid ∷ User ∷ []

-- the payload names the User bank
abbrev pub masks_user : ℕ → Bool
masks_user payload = (lock_mask_of payload User).write_bit || (lock_mask_of payload User).permalock

-- a payload that asks to take the permalock of some field off
abbrev pub takes_any_permalock_off : Locks → ℕ → Bool
takes_any_permalock_off locks payload = list_any (takes_permalock_off locks payload) fields

-- the three rules, the first that applies: the codes are profile
abbrev pub locks_after : Locks → ℕ → Bool → Result Locks ErrorCode
locks_after locks payload has_user =
    (if not has_user && masks_user payload then Err Overrun
    else (if takes_any_permalock_off locks payload then Err Locked
    else Ok (record {
      kill_word = pair_after_lock locks payload KillWord;
      access_word = pair_after_lock locks payload AccessWord;
      epc = pair_after_lock locks payload Epc;
      tid = pair_after_lock locks payload Tid;
      user = pair_after_lock locks payload User;
    })))
