-- Two fields are not spelled alike.
use Rattle.std.proofs.Common.{◌≡◌, ◌<◌, ◌^◌, ◌/◌, ◌%◌, ℕ, List, [], ◌++◌, take, drop, ap, arith, refl}
use Rattle.text_fields.proofs.ToldApart.{hex_word_told}
use Rattle.text_fields.specs.Binary.{binary_digit}
use Rattle.lock_rules.specs.declared.locks.Pair.{Pair}
use Rattle.lock_rules.specs.declared.locks.Locks.{Locks}
use Rattle.wire_text.specs.PasswordsAndLocks.{locks_text, pair_text, password_text}
use Rattle.wire_text.proofs.CommandsToldApart.{digit_told}

pub password_told : (one other : ℕ) → one < 2 ^ 32 → other < 2 ^ 32 → password_text one ≡ password_text other → one ≡ other
password_told one other small small' same =
    let upper = hex_word_told (one / 2 ^ 16) (other / 2 ^ 16) (omega arith) (omega arith) (ap (λ (text : List ℕ). take 4 text) same) in
    let lower = hex_word_told (one % 2 ^ 16) (other % 2 ^ 16) (omega arith) (omega arith) (ap (λ (text : List ℕ). drop 4 text) same) in
    omega arith

-- two pairs of lock bits, and what stands behind each
pair_told : (one other : Pair) (behind behind' : List ℕ) → pair_text one ++ behind ≡ pair_text other ++ behind' → (one ≡ other) × (behind ≡ behind')
pair_told one other behind behind' same =
    let first : binary_digit one.write_bit ≡ binary_digit other.write_bit = cc in
    let second : binary_digit one.permalock ≡ binary_digit other.permalock = cc in
    let writes = digit_told one.write_bit other.write_bit first in
    let permalocks = digit_told one.permalock other.permalock second in
    let pairs : ◌≡◌ {A = Pair} (record { write_bit = one.write_bit; permalock = one.permalock }) other = rw (writes, permalocks) refl in
    (pairs, cc)

pub locks_told : (one other : Locks) → locks_text one ≡ locks_text other → one ≡ other
locks_told one other same =
    let kill = pair_told one.kill_word other.kill_word
    (pair_text one.access_word ++ pair_text one.epc ++ pair_text one.tid ++ pair_text one.user)
    (pair_text other.access_word ++ pair_text other.epc ++ pair_text other.tid ++ pair_text other.user) same in
    let access = pair_told one.access_word other.access_word (pair_text one.epc ++ pair_text one.tid ++ pair_text one.user)
    (pair_text other.epc ++ pair_text other.tid ++ pair_text other.user) kill.1 in
    let epc = pair_told one.epc other.epc (pair_text one.tid ++ pair_text one.user) (pair_text other.tid ++ pair_text other.user) access.1 in
    let tid = pair_told one.tid other.tid (pair_text one.user) (pair_text other.user) epc.1 in
    let user = pair_told one.user other.user [] [] tid.1 in
    let all : ◌≡◌ {A = Locks} (record {
      kill_word = one.kill_word;
      access_word = one.access_word;
      epc = one.epc;
      tid = one.tid;
      user = one.user;
    }) other = rw (kill.0, access.0, epc.0, tid.0, user.0) refl in
    all
