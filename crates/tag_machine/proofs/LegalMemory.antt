-- What changes the memory of a tag leaves legal banks of words.
use Rattle.std.proofs.Common.{◌≡◌, ℕ, ◌+◌, ◌^◌, ◌<◌, ◌≤◌, nat_lt, Bool, true, false, not, ◌||◌, List, ◌∷◌, ◌++◌, length, take, drop, replicate, if◌then◌else◌, Ok, Err, IfOk, refl, ◌∙◌, arith, length-append, length-drop}
use Rattle.std.proofs.lemmas.Bool.{ltb-false, leb-true}
use Rattle.std.proofs.lemmas.List.{length-take-le, get_or-drop}
use Rattle.std.proofs.lemmas.List.Elements.{All-cons, All-append, All-take, All-drop, All-replicate}
use Rattle.bit_strings.specs.laws.NumbersInBits.{value_of-within}
use Rattle.gen2_crc.specs.Crc.{crc16_of}
use Rattle.gen2_crc.specs.laws.CheckNumbers.{length-crc16_of}
use Rattle.command_fields.specs.declared.choices.Bank.{Bank}
use Rattle.command_fields.specs.declared.choices.Bank.TheVariants.{Reserved, Epc, Tid, User}
use Rattle.lock_rules.specs.declared.locks.Locks.{Locks}
use Rattle.lock_rules.specs.declared.fields_and_levels.ErrorCode.TheVariants.{Overrun, Locked}
use Rattle.lock_rules.specs.declared.fields_and_levels.Level.{Level}
use Rattle.bit_strings.specs.Words.{bits_of_words}
use Rattle.reply_grammar.specs.Replies.{AreWords}
use Rattle.tag_memory.specs.Memory.{Banks, IsLegalMemory, AreBanksOfWords, AreSound, bank_of, pc_of, epc_of, length_in, stored_crc_of, with_stored_crc}
use Rattle.tag_memory.specs.ReadsAndWrites.{may_write_word, all_words, with_words_at, banks_with_words_at, length_fits, banks_after_write, banks_after_erase}

abbrev IsWord : ℕ → Type 0
IsWord word = word < 2 ^ 16

-- words in place of others
length_replaced : (old words : List ℕ) (pointer : ℕ) → pointer + length words ≤ length old → length (with_words_at old pointer words) ≡ length old
length_replaced old words pointer inside =
    let front : length (take pointer old) ≡ pointer = length-take-le pointer old (omega arith) in
    omega (arith, front, length-append (take pointer old ++ words) (drop (pointer + length words) old), length-append (take pointer old) words, length-drop (pointer + length words) old)

words_replaced : (old words : List ℕ) (pointer : ℕ) → AreWords old → AreWords words → AreWords (with_words_at old pointer words)
words_replaced old words pointer small new =
    All-append IsWord (take pointer old ++ words) (drop (pointer + length words) old)
    (All-append IsWord (take pointer old) words (All-take IsWord pointer old small) new) (All-drop IsWord (pointer + length words) old small)

banks_of_words : (banks : Banks) (bank : Bank) (pointer : ℕ) (words : List ℕ) → AreBanksOfWords banks → AreWords words → AreBanksOfWords (banks_with_words_at banks bank pointer words)
banks_of_words banks Reserved pointer words small new = record { reserved = words_replaced banks.reserved words pointer small.reserved new; epc = small.epc; tid = small.tid; user = small.user }
banks_of_words banks Epc pointer words small new = record { reserved = small.reserved; epc = words_replaced banks.epc words pointer small.epc new; tid = small.tid; user = small.user }
banks_of_words banks Tid pointer words small new = record { reserved = small.reserved; epc = small.epc; tid = words_replaced banks.tid words pointer small.tid new; user = small.user }
banks_of_words banks User pointer words small new = record { reserved = small.reserved; epc = small.epc; tid = small.tid; user = words_replaced banks.user words pointer small.user new }

legal_banks : (banks : Banks) (bank : Bank) (pointer : ℕ) (words : List ℕ) → IsLegalMemory banks → pointer + length words ≤ length (bank_of banks bank) → 2 + length_in (pc_of (banks_with_words_at banks bank pointer words)) ≤ length (banks_with_words_at banks bank pointer words).epc → IsLegalMemory (banks_with_words_at banks bank pointer words)
legal_banks banks Reserved pointer words legal inside fits =
    let same = length_replaced banks.reserved words pointer inside in
    record { reserved_size = same ∙ legal.reserved_size; epc_least = legal.epc_least; epc_most = legal.epc_most; tid_least = legal.tid_least; tid_most = legal.tid_most; user_most = legal.user_most; length_fits = fits }
legal_banks banks Epc pointer words legal inside fits =
    let same = length_replaced banks.epc words pointer inside in
    record { reserved_size = legal.reserved_size; epc_least = rw same legal.epc_least; epc_most = rw same legal.epc_most; tid_least = legal.tid_least; tid_most = legal.tid_most; user_most = legal.user_most; length_fits = fits }
legal_banks banks Tid pointer words legal inside fits =
    let same = length_replaced banks.tid words pointer inside in
    record { reserved_size = legal.reserved_size; epc_least = legal.epc_least; epc_most = legal.epc_most; tid_least = rw same legal.tid_least; tid_most = rw same legal.tid_most; user_most = legal.user_most; length_fits = fits }
legal_banks banks User pointer words legal inside fits =
    let same = length_replaced banks.user words pointer inside in
    record { reserved_size = legal.reserved_size; epc_least = legal.epc_least; epc_most = legal.epc_most; tid_least = legal.tid_least; tid_most = legal.tid_most; user_most = rw same legal.user_most; length_fits = fits }

neither : (a b : Bool) → a || not b ≡ false → (a ≡ false) × (b ≡ true)
neither false true same = (refl, refl)
neither false false same = absurd (cc)
neither true b same = absurd (cc)

where_ok : (refused permitted : Bool) (after : Banks) → (refused ≡ false → AreSound after) → IfOk (if refused then Err Overrun else (if permitted then Ok after else Err Locked)) AreSound
where_ok true permitted after sound = tt
where_ok false true after sound = sound refl
where_ok false false after sound = tt

pub written_sound : (banks : Banks) (locks : Locks) (level : Level) (bank : Bank) (pointer : ℕ) (words : List ℕ) → AreSound banks → AreWords words → IfOk (banks_after_write banks locks level bank pointer words) AreSound
written_sound banks locks level bank pointer words sound new =
    let after = banks_with_words_at banks bank pointer words in
    let past = nat_lt (length (bank_of banks bank)) (pointer + length words) in
    where_ok (past || not (length_fits after)) (all_words (may_write_word locks level bank) pointer (length words)) after
    (λ kept.
    let found = neither past (length_fits after) kept in
    record {
      legal = legal_banks banks bank pointer words sound.legal (ltb-false (length (bank_of banks bank)) (pointer + length words) found.0) (leb-true (2 + length_in (pc_of after)) (length after.epc) found.1);
      words = banks_of_words banks bank pointer words sound.words new;
    })

pub erased_sound : (banks : Banks) (locks : Locks) (level : Level) (bank : Bank) (pointer count : ℕ) → AreSound banks → IfOk (banks_after_erase banks locks level bank pointer count) AreSound
erased_sound banks locks level bank pointer count sound =
    written_sound banks locks level bank pointer (replicate count 0) sound (All-replicate IsWord count 0 (omega arith))

-- StoredCRC computed again
pub stored_crc_sound : (banks : Banks) → AreSound banks → AreSound (with_stored_crc banks)
stored_crc_sound banks sound =
    let legal = sound.legal in
    let small = sound.words in
    let check = crc16_of (bits_of_words (pc_of banks ∷ epc_of banks)) in
    let behind = length-drop 1 banks.epc in
    let same : pc_of (with_stored_crc banks) ≡ pc_of banks = get_or-drop 1 banks.epc 0 0 in
    record {
      legal = record {
        reserved_size = legal.reserved_size;
        epc_least = omega arith;
        epc_most = omega arith;
        tid_least = legal.tid_least;
        tid_most = legal.tid_most;
        user_most = legal.user_most;
        length_fits = rw same (omega arith);
      };
      words = record {
        reserved = small.reserved;
        epc = All-cons IsWord (stored_crc_of banks) (drop 1 banks.epc) (value_of-within check 16 (omega (arith, length-crc16_of (bits_of_words (pc_of banks ∷ epc_of banks))))) (All-drop IsWord 1 banks.epc small.epc);
        tid = small.tid;
        user = small.user;
      };
    }
