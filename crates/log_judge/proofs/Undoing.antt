-- A BlockWrite or BlockErase is undone by a BlockWrite of what stood there.
use Rattle.std.proofs.Common.{◌≡◌, ℕ, ◌+◌, ◌≤◌, nat_lt, Bool, true, false, not, ◌||◌, List, ◌++◌, length, take, drop, Result, Ok, Err, if◌then◌else◌, refl, sym, ◌∙◌, ap, arith, append_assoc, length-append}
use Rattle.std.proofs.lemmas.Bool.{ltb-false, le-ltb}
use Rattle.std.proofs.lemmas.List.{drop-drop, length-drop, length-take-le, take-append-drop}
use Rattle.std.proofs.Math.Seq.{drop-append_seam, take-append_seam}
use Rattle.log_judge.proofs.Tests.{so_not}
use Rattle.command_fields.specs.declared.choices.Bank.{Bank}
use Rattle.command_fields.specs.declared.choices.Bank.TheVariants.{Reserved}
use Rattle.lock_rules.specs.declared.locks.Locks.{Locks}
use Rattle.lock_rules.specs.declared.fields_and_levels.Level.{Level}
use Rattle.lock_rules.specs.declared.fields_and_levels.ErrorCode.{ErrorCode}
use Rattle.lock_rules.specs.declared.fields_and_levels.ErrorCode.TheVariants.{Overrun, Locked}
use Rattle.tag_memory.specs.Memory.{Banks, bank_of, with_bank}
use Rattle.tag_memory.specs.ReadsAndWrites.{all_words, banks_after_write, banks_with_words_at, length_fits, may_write_word, with_words_at}

-- what stood in a list, written back
module _ (old new : List ℕ) (at : ℕ) (inside : at + length new ≤ length old) where
  abbrev there : List ℕ
  there = take (length new) (drop at old)

  abbrev written : List ℕ
  written = with_words_at old at new

  front_is : length (take at old) ≡ at
  front_is = length-take-le at old (omega (arith, inside))

  kept_front : take at written ≡ take at old
  kept_front =
      ap (λ (l : List ℕ). take at l) (append_assoc (take at old) new (drop (at + length new) old))
      ∙ ap (λ (n : ℕ). take n (take at old ++ (new ++ drop (at + length new) old))) (sym front_is)
      ∙ take-append_seam (take at old) (new ++ drop (at + length new) old)

  kept_rest : (count : ℕ) → count ≡ length new → drop (at + count) written ≡ drop (at + length new) old
  kept_rest count is =
      let whole : at + count ≡ length (take at old ++ new) = omega (arith, is, front_is, length-append (take at old) new) in
      ap (λ (n : ℕ). drop n written) whole ∙ drop-append_seam (take at old ++ new) (drop (at + length new) old)

  pub count_there : length there ≡ length new
  count_there = length-take-le (length new) (drop at old) (omega (arith, inside, length-drop at old))

  pub put_back : with_words_at written at there ≡ old
  put_back =
      ap (λ (front : List ℕ). front ++ there ++ drop (at + length there) written) kept_front
      ∙ ap (λ (rest : List ℕ). take at old ++ there ++ rest) (kept_rest (length there) count_there)
      ∙ append_assoc (take at old) there (drop (at + length new) old)
      ∙ ap (λ (rest : List ℕ). take at old ++ (there ++ rest)) (sym (drop-drop (length new) at old))
      ∙ ap (λ (rest : List ℕ). take at old ++ rest) (take-append-drop (length new) (drop at old))
      ∙ take-append-drop at old

  pub same_length : length written ≡ length old
  same_length =
      omega (arith, inside, front_is, length-append (take at old ++ new) (drop (at + length new) old), length-append (take at old) new, length-drop (at + length new) old)

-- ... of banks
bank_with : (banks : Banks) (bank : Bank) (words : List ℕ) → bank_of (with_bank banks bank words) bank ≡ words
bank_with banks Reserved words = refl
bank_with banks bank words = refl

bank_again : (banks : Banks) (bank : Bank) (words : List ℕ) → with_bank (with_bank banks bank words) bank (bank_of banks bank) ≡ banks
bank_again banks Reserved words = refl
bank_again banks bank words = refl

-- what a write that was not refused says
pub record IsWritten (banks : Banks) (locks : Locks) (level : Level) (bank : Bank) (pointer : ℕ) (words : List ℕ) (after : Banks) : Type 0 where
  pub inside : pointer + length words ≤ length (bank_of banks bank)
  pub may : all_words (may_write_word locks level bank) pointer (length words) ≡ true
  pub is : after ≡ banks_with_words_at banks bank pointer words

no_err : {code : ErrorCode} {after : Banks} → Err code ≡ Ok after → ⊥
no_err same = absurd (cc)

module _ (banks : Banks) (locks : Locks) (level : Level) (bank : Bank) (pointer : ℕ) (words : List ℕ) where
  abbrev wrote : Banks
  wrote = banks_with_words_at banks bank pointer words

  abbrev passes : Bool
  passes = nat_lt (length (bank_of banks bank)) (pointer + length words) || not (length_fits wrote)

  abbrev may_all : Bool
  may_all = all_words (may_write_word locks level bank) pointer (length words)

  pub is_written : (after : Banks) → banks_after_write banks locks level bank pointer words ≡ Ok after → IsWritten banks locks level bank pointer words after
  is_written after ok = by passes refl may_all refl ok
    where
      by : (test : Bool) → passes ≡ test → (may : Bool) → may_all ≡ may → (if test then Err Overrun else (if may then Ok wrote else Err Locked)) ≡ Ok after
          → IsWritten banks locks level bank pointer words after
      by true passed may may_is same = absurd (no_err same)
      by false passed false may_is same = absurd (no_err same)
      by false passed true may_is same = record {
        inside = within (nat_lt (length (bank_of banks bank)) (pointer + length words)) refl passed;
        may = may_is;
        is = cc;
      }
        where
          within : (test : Bool) → nat_lt (length (bank_of banks bank)) (pointer + length words) ≡ test → (test || not (length_fits wrote)) ≡ false → pointer + length words ≤ length (bank_of banks bank)
          within true is other = absurd (so_not other)
          within false is other = ltb-false (length (bank_of banks bank)) (pointer + length words) is

-- a write that passes each test
pub writes : (banks : Banks) (locks : Locks) (level : Level) (bank : Bank) (pointer : ℕ) (words : List ℕ) → pointer + length words ≤ length (bank_of banks bank)
    → length_fits (banks_with_words_at banks bank pointer words) ≡ true → all_words (may_write_word locks level bank) pointer (length words) ≡ true
    → banks_after_write banks locks level bank pointer words ≡ Ok (banks_with_words_at banks bank pointer words)
writes banks locks level bank pointer words inside fits may =
    rw (le-ltb (length (bank_of banks bank)) (pointer + length words) inside) (rw fits (rw may refl))

-- the memory is as before
pub undone : (banks : Banks) (locks : Locks) (level : Level) (bank : Bank) (pointer : ℕ) (words old : List ℕ) (after : Banks) → length_fits banks ≡ true
    → banks_after_write banks locks level bank pointer words ≡ Ok after → old ≡ take (length words) (drop pointer (bank_of banks bank)) → banks_after_write after locks level bank pointer old ≡ Ok banks
undone banks locks level bank pointer words old after fits ok old_is =
    let it = is_written banks locks level bank pointer words after ok in
    let w = with_words_at (bank_of banks bank) pointer words in
    let here : bank_of after bank ≡ w = ap (λ (b : Banks). bank_of b bank) it.is ∙ bank_with banks bank w in
    let count : length old ≡ length words = ap (λ (l : List ℕ). length l) old_is ∙ count_there (bank_of banks bank) words pointer it.inside in
    let back : banks_with_words_at after bank pointer old ≡ banks =
    ap (λ (l : List ℕ). with_bank after bank (with_words_at l pointer old)) here
    ∙ ap (λ (l : List ℕ). with_bank after bank (with_words_at w pointer l)) old_is
    ∙ ap (λ (l : List ℕ). with_bank after bank l) (put_back (bank_of banks bank) words pointer it.inside)
    ∙ ap (λ (b : Banks). with_bank b bank (bank_of banks bank)) it.is
    ∙ bank_again banks bank w in
    let size : length (bank_of after bank) ≡ length (bank_of banks bank) = ap (λ (l : List ℕ). length l) here ∙ same_length (bank_of banks bank) words pointer it.inside in
    let inside : pointer + length old ≤ length (bank_of after bank) = omega (arith, count, size, it.inside) in
    writes after locks level bank pointer old inside (ap length_fits back ∙ fits) (ap (λ (n : ℕ). all_words (may_write_word locks level bank) pointer n) count ∙ it.may)
    ∙ ap (λ (b : Banks). let ok_with : Result Banks ErrorCode = Ok b in ok_with) back
