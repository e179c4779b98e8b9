-- What a Read brings: as many words as it asks for, 1 to 512, each of 16 bits.
use Rattle.std.proofs.Common.{◌≡◌, ℕ, zero, suc, ◌+◌, ◌-◌, ◌^◌, ◌<◌, ◌≤◌, nat_lt, nat_le, Bool, true, false, ◌||◌, List, length, take, drop, Ok, Err, IfOk, if◌then◌else◌, refl, arith, inl, inr, length-drop}
use Rattle.std.proofs.lemmas.Bool.{ltb-false, leb-false}
use Rattle.std.proofs.lemmas.Bool.Decides.{eqb_tells}
use Rattle.std.proofs.lemmas.List.{length-take-le}
use Rattle.std.proofs.lemmas.List.Elements.{All-take, All-drop}
use Rattle.command_fields.specs.declared.choices.Bank.{Bank}
use Rattle.command_fields.specs.declared.choices.Bank.TheVariants.{Reserved, Epc as EpcBank, Tid, User}
use Rattle.lock_rules.specs.declared.fields_and_levels.ErrorCode.TheVariants as errors
use Rattle.lock_rules.specs.declared.fields_and_levels.Level.{Level}
use Rattle.reply_grammar.specs.declared.expected.Reply.TheVariants.{Words}
use Rattle.reply_grammar.specs.Replies.{AreWords}
use Rattle.tag_memory.specs.Memory.{Banks, bank_of}
use Rattle.tag_memory.specs.ReadsAndWrites.{words_read, read_end, all_words, may_read_word}
use Rattle.tag_machine.specs.TagValue.{BodyValue, IsLegalBody}
use Rattle.tag_machine.specs.laws.AnswersByCommand.{IsReadReply}

bank_sound : (body : BodyValue) (bank : Bank) → IsLegalBody body → AreWords (bank_of body.memory bank) × (length (bank_of body.memory bank) ≤ 512)
bank_sound body Reserved legal = (legal.memory_words.reserved, omega (arith, legal.memory.reserved_size))
bank_sound body EpcBank legal = (legal.memory_words.epc, omega (arith, legal.memory.epc_most))
bank_sound body Tid legal = (legal.memory_words.tid, omega (arith, legal.memory.tid_most))
bank_sound body User legal = (legal.memory_words.user, omega (arith, legal.memory.user_most))

neither : (a b : Bool) → a || b ≡ false → (a ≡ false) × (b ≡ false)
neither false false same = (refl, refl)
neither false true same = absurd (cc)
neither true b same = absurd (cc)

given_end : (banks : Banks) (bank : Bank) (pointer more : ℕ) → read_end banks bank pointer (suc more) ≡ pointer + suc more
given_end banks bank pointer more =
    elim (eqb_tells (suc more) 0) [
      | inl w ↦ absurd (omega (arith, w.1))
      | inr w ↦ rw w.0 refl
    ]

-- what a Read brings
pub record BringsWords (count : ℕ) (words : List ℕ) : Type 0 where
  pub fits : IsReadReply count (Words words)
  pub small : AreWords words
  pub some : 1 ≤ length words
  pub few : length words ≤ 512

as_many : (banks : Banks) (bank : Bank) (pointer count : ℕ) (words : List ℕ) → 1 ≤ length words → length words ≤ 512 → length words ≡ read_end banks bank pointer count - pointer → IsReadReply count (Words words)
as_many banks bank pointer zero words some few is = (some, few)
as_many banks bank pointer (suc more) words some few is = omega (arith, given_end banks bank pointer more)

where_read : (refused permitted : Bool) (words : List ℕ) (P : List ℕ → Type 0) → (refused ≡ false → P words) → IfOk (if refused then Err errors.Overrun else (if permitted then Ok words else Err errors.Locked)) P
where_read true permitted words P given = tt
where_read false true words P given = given refl
where_read false false words P given = tt

pub brought : (body : BodyValue) (level : Level) (bank : Bank) (pointer count : ℕ) → IsLegalBody body → IfOk (words_read body.memory body.locks level bank pointer count) (BringsWords count)
brought body level bank pointer count legal =
    let words_there = bank_of body.memory bank in
    let end = read_end body.memory bank pointer count in
    where_read (nat_le end pointer || nat_lt (length words_there) end) (all_words (may_read_word body.locks level bank) pointer (end - pointer)) (take (end - pointer) (drop pointer words_there)) (BringsWords count)
    (λ kept.
    let sound = bank_sound body bank legal in
    let found = neither (nat_le end pointer) (nat_lt (length words_there) end) kept in
    let behind : pointer < end = leb-false end pointer found.0 in
    let inside : end ≤ length words_there = ltb-false (length words_there) end found.1 in
    let enough : end - pointer ≤ length (drop pointer words_there) = omega (arith, length-drop pointer words_there) in
    let counted : length (take (end - pointer) (drop pointer words_there)) ≡ end - pointer = length-take-le (end - pointer) (drop pointer words_there) enough in
    let most : length words_there ≤ 512 = sound.1 in
    record {
      fits = as_many body.memory bank pointer count (take (end - pointer) (drop pointer words_there)) (omega arith) (omega arith) counted;
      small = All-take (λ (word : ℕ). word < 2 ^ 16) (end - pointer) (drop pointer words_there) (All-drop (λ (word : ℕ). word < 2 ^ 16) pointer words_there sound.0);
      some = omega arith;
      few = omega arith;
    })
