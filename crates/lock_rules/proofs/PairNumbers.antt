-- A pair of lock bits as a number from 0 to 3, and the number that five of them make.
use Rattle.std.proofs.Common.{◌≡◌, ℕ, ◌+◌, ◌*◌, ◌/◌, ◌%◌, ◌<◌, ◌==◌, Bool, true, false, refl, arith, zero, suc}
use Rattle.std.proofs.lemmas.Nat.{div-mul-add}
use Rattle.bit_strings.specs.NumbersInBits.{digit_of}
use Rattle.lock_rules.specs.declared.locks.Pair.{Pair}
use Rattle.lock_rules.specs.declared.locks.Locks.{Locks}
use Rattle.lock_rules.specs.Lock.{pair_number, locks_number, locks_of}

-- the bit whose digit is the last of a number
last_digit : (half : ℕ) (bit : Bool) → ((half * 2 + digit_of bit) % 2 == 1) ≡ bit
last_digit half true =
    let one : (half * 2 + 1) % 2 ≡ 1 = omega arith in
    rw one refl
last_digit half false =
    let none : (half * 2 + 0) % 2 ≡ 0 = omega arith in
    rw none refl

-- a digit of a number whose parts before and behind it are given
digit_at : (bit : Bool) (high unit low n : ℕ) → low < unit → n ≡ (high * 2 + digit_of bit) * unit + low → (n / unit % 2 == 1) ≡ bit
digit_at bit high unit low n small parts =
    let whole : n / unit ≡ high * 2 + digit_of bit = rw parts (div-mul-add (high * 2 + digit_of bit) unit low small) in
    rw whole (last_digit high bit)

digit_small : (bit : Bool) → digit_of bit < 2
digit_small true = omega arith
digit_small false = omega arith

low_part : (bit : Bool) (unit low : ℕ) → low < unit → digit_of bit * unit + low < 2 * unit
low_part true unit low small = omega arith
low_part false unit low small = omega arith

pub pair_number_small : (pair : Pair) → pair_number pair < 4
pair_number_small pair = omega (arith, digit_small pair.write_bit, digit_small pair.permalock)

-- what is below two is the digit of its own bit
digit_value : (m : ℕ) → m < 2 → digit_of (m == 1) ≡ m
digit_value zero small = refl
digit_value (suc zero) small = refl
digit_value (suc (suc m)) small = absurd (omega arith)

last_bit : (n : ℕ) → digit_of (n % 2 == 1) ≡ n % 2
last_bit n = digit_value (n % 2) (omega arith)

pub number_of-locks_of : (n : ℕ) → n < 1024 → locks_number (locks_of n) ≡ n
number_of-locks_of n small =
    rw (last_bit (n / 512), last_bit (n / 256), last_bit (n / 128), last_bit (n / 64), last_bit (n / 32), last_bit (n / 16), last_bit (n / 8), last_bit (n / 4), last_bit (n / 2), last_bit (n / 1)) (omega arith)

-- the two bits at a place are the pair whose number stands there
pair_back : (pair : Pair) (high unit low n : ℕ) → low < unit → n ≡ (high * 4 + pair_number pair) * unit + low → record { write_bit = n / (2 * unit) % 2 == 1; permalock = n / unit % 2 == 1 } ≡ pair
pair_back pair high unit low n small parts =
    let bit : Bool = pair.permalock in
    let write : (n / (2 * unit) % 2 == 1) ≡ pair.write_bit =
    digit_at pair.write_bit high (2 * unit) (digit_of bit * unit + low) n (low_part bit unit low small) (omega arith) in
    let last : (n / unit % 2 == 1) ≡ pair.permalock =
    digit_at bit (high * 2 + digit_of pair.write_bit) unit low n small (omega arith) in
    rw (write, last) refl

pub locks_of-number_of : (locks : Locks) → locks_of (locks_number locks) ≡ locks
locks_of-number_of locks =
    let k = pair_number locks.kill_word in
    let a = pair_number locks.access_word in
    let e = pair_number locks.epc in
    let t = pair_number locks.tid in
    let u = pair_number locks.user in
    let n = locks_number locks in
    let small_a = pair_number_small locks.access_word in
    let small_e = pair_number_small locks.epc in
    let small_t = pair_number_small locks.tid in
    let small_u = pair_number_small locks.user in
    let kill = pair_back locks.kill_word 0 256 (64 * a + 16 * e + 4 * t + u) n (omega arith) (omega arith) in
    let access = pair_back locks.access_word k 64 (16 * e + 4 * t + u) n (omega arith) (omega arith) in
    let epc = pair_back locks.epc (4 * k + a) 16 (4 * t + u) n (omega arith) (omega arith) in
    let tid = pair_back locks.tid (16 * k + 4 * a + e) 4 u n (omega arith) (omega arith) in
    let user = pair_back locks.user (64 * k + 16 * a + 4 * e + t) 1 0 n (omega arith) (omega arith) in
    rw (kill, access, epc, tid, user) refl
