-- Bits that pass answer.
use Rattle.std.proofs.Common.{◌≡◌, ◌≢◌, ℕ, ◌+◌, ◌-◌, ◌*◌, ◌/◌, ◌^◌, ◌<◌, ◌≤◌, Bool, true, false, List, [], ◌∷◌, ◌++◌, length, take, drop, refl, sym, ◌∙◌, ap, subst, inl, inr, arith, length-take, length-drop, eq-eqb, Some}
use Rattle.std.specs.Prelude.{slice_get}
use Rattle.std.proofs.Math.Seq.{take-add}
use Rattle.std.proofs.lemmas.Bool.{ne_eqb}
use Rattle.std.proofs.lemmas.List.{take_all, take-take, take-append-le, drop-append-le}
use Rattle.bit_strings.specs.NumbersInBits.{value_of, field_of, part_of}
use Rattle.bit_strings.specs.Words.{bits_of_words}
use Rattle.gen2_crc.specs.Crc.{crc16_of}
use Rattle.reply_grammar.specs.declared.expected.Expect.{Expect}
use Rattle.reply_grammar.specs.declared.expected.Expect.TheVariants.{Rn16 as OneRn16, Epc as OneEpc, Handle as OneHandle, Same, Words as SomeWords, AnyWords, Header as OneHeader}
use Rattle.reply_grammar.specs.declared.expected.Reply.TheVariants.{Rn16, Epc, Handle, Words, Header, Error}
use Rattle.reply_grammar.specs.Replies.{AnswersExpected, Suits, handle_of, spelling, with_check}
use Rattle.reply_grammar.specs.Refusals.{FitsLength, EndsWithCheck, HasHeader, HasHandle, Passes}
use Rattle.reply_grammar.specs.laws.Passing.{length-with_check, first-five}
use Rattle.reply_grammar.specs.laws.Reading.{ReadTo, part-field, value_of-part, part-add}

-- a part of the front of a list
part-front : (front back : List Bool) (at width : ℕ) → at + width ≤ length front → part_of (front ++ back) at width ≡ part_of front at width
part-front front back at width within =
    ap (λ (b : List Bool). take width b) (drop-append-le at front back (omega arith)) ∙ take-append-le width (drop at front) back (omega (arith, length-drop at front))

-- a part of bits is the part of what stands before their check number
part-split : (bits : List Bool) (at width : ℕ) (check : EndsWithCheck bits) → at + width ≤ length check.front → part_of bits at width ≡ part_of check.front at width
part-split bits at width check within = ap (λ (b : List Bool). part_of b at width) check.split ∙ part-front check.front (crc16_of check.front) at width within

length-front : (bits : List Bool) (check : EndsWithCheck bits) → length bits ≡ length check.front + 16
length-front bits check = ap length check.split ∙ length-with_check check.front

-- bits whose front is known
rejoin : (bits front : List Bool) (check : EndsWithCheck bits) → check.front ≡ front → bits ≡ with_check front
rejoin bits front check same = check.split ∙ ap with_check same

head-bit : (bits : List Bool) (bit : Bool) → slice_get bits 0 ≡ Some bit → take 1 bits ≡ bit ∷ []
head-bit [] bit here = cc
head-bit (x ∷ bits) bit here = let same : x ≡ bit = cc in ap (λ (b : Bool). b ∷ []) same

-- a header bit, so many bits, a handle and a check number
record HasRow (bits : List Bool) (bit : Bool) (m handle : ℕ) : Type 0 where
  long : length bits ≡ 33 + m
  check : EndsWithCheck bits
  header : slice_get bits 0 ≡ Some bit
  number : HasHandle handle bits

header_row : (bits middle : List Bool) (bit : Bool) (m handle : ℕ) → HasRow bits bit m handle → middle ≡ part_of bits 1 m → bits ≡ with_check (bit ∷ (middle ++ field_of handle 16))
header_row bits middle bit m handle row middle_is =
    let long = row.long in
    let check = row.check in
    let front : List Bool = check.front in
    let size : length front ≡ 1 + (m + 16) = omega (arith, length-front bits check) in
    let first : take 1 front ≡ bit ∷ [] =
    sym (part-split bits 0 1 check (omega arith)) ∙ head-bit bits bit row.header in
    let second : part_of front 1 m ≡ middle = sym (part-split bits 1 m check (omega arith)) ∙ sym middle_is in
    let place : length bits - 32 ≡ 1 + m = omega arith in
    let third : part_of front (1 + m) 16 ≡ field_of handle 16 =
    sym (part-split bits (1 + m) 16 check (omega arith))
    ∙ sym (part-field bits (1 + m) 16 handle (omega arith) (sym row.number ∙ ap (λ n. value_of (part_of bits n 16)) place)) in
    let whole : front ≡ take 1 front ++ (part_of front 1 m ++ part_of front (1 + m) 16) =
    sym (take_all (1 + (m + 16)) front (omega arith)) ∙ take-add 1 (m + 16) front ∙ ap (λ (b : List Bool). take 1 front ++ b) (part-add front 1 m 16) in
    rejoin bits (bit ∷ (middle ++ field_of handle 16)) check
    (whole ∙ ap (λ (b : List Bool). b ++ (part_of front 1 m ++ part_of front (1 + m) 16)) first
    ∙ ap (λ (b : List Bool). bit ∷ (b ++ part_of front (1 + m) 16)) second ∙ ap (λ (b : List Bool). bit ∷ (middle ++ b)) third)

handle-fits : (bits : List Bool) (handle : ℕ) → 32 ≤ length bits → HasHandle handle bits → handle < 2 ^ 16
handle-fits bits handle long number = omega (arith, value_of-part bits (length bits - 32) 16 (omega arith))

-- the 16 bits of one word alone are the reply with it, where one RN16 is expected
pub rn16_answers : (bits : List Bool) (rn : ℕ) → length bits ≡ 16 → rn ≡ value_of (part_of bits 0 16) → AnswersExpected (Rn16 rn) OneRn16 bits
unfolding spelling
rn16_answers bits rn long read = record {
  suits = tt;
  in_range = omega (arith, value_of-part bits 0 16 (omega arith));
  handle_in_range = omega arith;
  spelled = sym (part-field bits 0 16 rn (omega arith) read ∙ take_all 16 bits (omega arith));
}

one_word : (bits : List Bool) (rn : ℕ) → length bits ≡ 32 → EndsWithCheck bits → rn ≡ value_of (part_of bits 0 16) → bits ≡ with_check (field_of rn 16)
one_word bits rn long check read =
    let size : length check.front ≡ 16 = omega (arith, length-front bits check) in
    rejoin bits (field_of rn 16) check
    (sym (part-field bits 0 16 rn (omega arith) read ∙ part-split bits 0 16 check (omega arith) ∙ take_all 16 check.front (omega arith)))

pub handle_answers : (bits : List Bool) (rn : ℕ) → length bits ≡ 32 → EndsWithCheck bits → rn ≡ value_of (part_of bits 0 16) → AnswersExpected (Handle rn) OneHandle bits
unfolding spelling
handle_answers bits rn long check read = record {
  suits = tt;
  in_range = omega (arith, value_of-part bits 0 16 (omega arith));
  handle_in_range = omega arith;
  spelled = one_word bits rn long check read;
}

pub same_answers : (bits : List Bool) (rn handle : ℕ) → length bits ≡ 32 → EndsWithCheck bits → HasHandle handle bits → rn ≡ value_of (part_of bits 0 16) → AnswersExpected (Handle rn) (Same handle) bits
unfolding spelling
same_answers bits rn handle long check number read =
    let place : length bits - 32 ≡ 0 = omega arith in
    let same : rn ≡ handle = read ∙ ap (λ n. value_of (part_of bits n 16)) (sym place) ∙ number in
    record {
      suits = same;
      in_range = omega (arith, value_of-part bits 0 16 (omega arith));
      handle_in_range = handle-fits bits handle (omega arith) number;
      spelled = one_word bits rn long check read;
    }

pub epc_answers : (bits : List Bool) (pc : ℕ) (epc : List ℕ) → FitsLength OneEpc bits → EndsWithCheck bits → pc ≡ value_of (part_of bits 0 16) → ReadTo bits 16 (length bits - 16) epc → AnswersExpected (Epc pc epc) OneEpc bits
unfolding spelling
epc_answers bits pc epc length_fits check read words =
    let count : length epc ≡ value_of (take 5 bits) = omega (arith, length_fits, words.place) in
    let front : List Bool = check.front in
    let size : length front ≡ 16 + 16 * length epc = omega (arith, length-front bits check, length_fits, count) in
    let first : field_of pc 16 ≡ take 16 front = part-field bits 0 16 pc (omega (arith, length_fits)) read ∙ part-split bits 0 16 check (omega arith) in
    let second : bits_of_words epc ≡ part_of front 16 (16 * length epc) = words.words_are ∙ part-split bits 16 (16 * length epc) check (omega arith) in
    let whole : front ≡ take 16 front ++ part_of front 16 (16 * length epc) = sym (take_all (16 + 16 * length epc) front (omega arith)) ∙ take-add 16 (16 * length epc) front in
    let five : take 5 (take 16 bits) ≡ take 5 bits = take-take 5 16 bits (omega arith) in
    let word : length (take 16 bits) ≡ 16 = omega (arith, length-take 16 bits, length_fits) in
    record {
      suits = tt;
      in_range = (
        omega (arith, value_of-part bits 0 16 (omega (arith, length_fits))),
        words.range,
        count ∙ ap value_of (sym five) ∙ first-five (take 16 bits) word ∙ ap (λ n. n / 2 ^ 11) (sym read),
      );
      handle_in_range = omega arith;
      spelled = rejoin bits (field_of pc 16 ++ bits_of_words epc) check
          (whole ∙ ap (λ (b : List Bool). b ++ part_of front 16 (16 * length epc)) (sym first) ∙ ap (λ (b : List Bool). field_of pc 16 ++ b) (sym second));
    }

-- the header bit at a length
bit-at-length : (bits : List Bool) → HasHeader bits → length bits ≢ 41 → slice_get bits 0 ≡ Some false
bit-at-length bits header other = header ∙ ap (λ (b : Bool). Some b) (ne_eqb (length bits) 41 other)

bit-at-error : (bits : List Bool) → HasHeader bits → length bits ≡ 41 → slice_get bits 0 ≡ Some true
bit-at-error bits header same = header ∙ ap (λ (b : Bool). Some b) (eq-eqb (length bits) 41 same)

pub words_spelled : (bits : List Bool) (handle : ℕ) (words : List ℕ) → length bits ≡ 33 + 16 * length words → EndsWithCheck bits → HasHeader bits → HasHandle handle bits → bits_of_words words ≡ part_of bits 1 (16 * length words) → bits ≡ spelling (Words words) handle
unfolding spelling
words_spelled bits handle words long check header number words_are =
    header_row bits (bits_of_words words) false (16 * length words) handle (record { long = long; check = check; header = bit-at-length bits header (λ same. omega arith); number = number }) words_are

pub error_spelled : (bits : List Bool) (handle code : ℕ) → length bits ≡ 41 → EndsWithCheck bits → HasHeader bits → HasHandle handle bits → code ≡ value_of (part_of bits 1 8) → bits ≡ spelling (Error code) handle
unfolding spelling
error_spelled bits handle code long check header number read =
    header_row bits (field_of code 8) true 8 handle (record { long = long; check = check; header = bit-at-error bits header long; number = number }) (part-field bits 1 8 code (omega arith) read)

pub header_spelled : (bits : List Bool) (handle : ℕ) → length bits ≡ 33 → EndsWithCheck bits → HasHeader bits → HasHandle handle bits → bits ≡ spelling Header handle
unfolding spelling
header_spelled bits handle long check header number =
    header_row bits [] false 0 handle (record { long = long; check = check; header = bit-at-length bits header (λ same. omega arith); number = number }) refl

-- the same, from the expectation that was found
pub rn16_passed : (expect : Expect) (bits : List Bool) (rn : ℕ) → expect ≡ OneRn16 → Passes expect bits → rn ≡ value_of (part_of bits 0 16) → AnswersExpected (Rn16 rn) expect bits
rn16_passed expect bits rn found passes read =
    let here : Passes OneRn16 bits = subst (λ (e : Expect). Passes e bits) found passes in
    subst (λ (e : Expect). AnswersExpected (Rn16 rn) e bits) (sym found) (rn16_answers bits rn here.length_fits read)

pub handle_passed : (expect : Expect) (bits : List Bool) (rn : ℕ) → expect ≡ OneHandle → Passes expect bits → rn ≡ value_of (part_of bits 0 16) → AnswersExpected (Handle rn) expect bits
handle_passed expect bits rn found passes read =
    let here : Passes OneHandle bits = subst (λ (e : Expect). Passes e bits) found passes in
    subst (λ (e : Expect). AnswersExpected (Handle rn) e bits) (sym found) (handle_answers bits rn here.length_fits here.check read)

pub same_passed : (expect : Expect) (bits : List Bool) (rn handle : ℕ) → expect ≡ Same handle → Passes expect bits → rn ≡ value_of (part_of bits 0 16) → AnswersExpected (Handle rn) expect bits
same_passed expect bits rn handle found passes read =
    let here : Passes (Same handle) bits = subst (λ (e : Expect). Passes e bits) found passes in
    subst (λ (e : Expect). AnswersExpected (Handle rn) e bits) (sym found) (same_answers bits rn handle here.length_fits here.check here.number read)

pub epc_passed : (expect : Expect) (bits : List Bool) (pc : ℕ) (epc : List ℕ) → expect ≡ OneEpc → Passes expect bits → pc ≡ value_of (part_of bits 0 16) → ReadTo bits 16 (length bits - 16) epc → AnswersExpected (Epc pc epc) expect bits
epc_passed expect bits pc epc found passes read words =
    let here : Passes OneEpc bits = subst (λ (e : Expect). Passes e bits) found passes in
    subst (λ (e : Expect). AnswersExpected (Epc pc epc) e bits) (sym found) (epc_answers bits pc epc here.length_fits here.check read words)

pub words_passed : (expect : Expect) (bits : List Bool) (count handle : ℕ) (words : List ℕ) → expect ≡ SomeWords count handle → Passes expect bits → length bits ≢ 41 → ReadTo bits 1 (length bits - 32) words → AnswersExpected (Words words) expect bits
words_passed expect bits count handle words found passes other read =
    let here : Passes (SomeWords count handle) bits = subst (λ (e : Expect). Passes e bits) found passes in
    let long : length bits ≡ 33 + 16 * count = elim here.length_fits [ inl whole ↦ whole | inr error ↦ absurd (other error) ] in
    let number : length words ≡ count = omega (arith, read.place) in
    let answers : AnswersExpected (Words words) (SomeWords count handle) bits = record {
      suits = number;
      in_range = read.range;
      handle_in_range = handle-fits bits handle (omega arith) here.number;
      spelled = words_spelled bits handle words (omega arith) here.check here.header here.number read.words_are;
    } in
    subst (λ (e : Expect). AnswersExpected (Words words) e bits) (sym found) answers

pub any_words_passed : (expect : Expect) (bits : List Bool) (handle : ℕ) (words : List ℕ) → expect ≡ AnyWords handle → Passes expect bits → length bits ≢ 41 → ReadTo bits 1 (length bits - 32) words → AnswersExpected (Words words) expect bits
any_words_passed expect bits handle words found passes other read =
    let here : Passes (AnyWords handle) bits = subst (λ (e : Expect). Passes e bits) found passes in
    let long : (1 ≤ length words) × (length words ≤ 512) × (length bits ≡ 33 + 16 * length words) =
    elim here.length_fits [ inl whole ↦ let place = read.place in (omega (arith, whole.1, whole.3), omega (arith, whole.2, whole.3), omega (arith, whole.1, whole.3)) | inr error ↦ absurd (other error) ] in
    let answers : AnswersExpected (Words words) (AnyWords handle) bits = record {
      suits = (long.0, long.1);
      in_range = read.range;
      handle_in_range = handle-fits bits handle (omega (arith, long.2)) here.number;
      spelled = words_spelled bits handle words long.2 here.check here.header here.number read.words_are;
    } in
    subst (λ (e : Expect). AnswersExpected (Words words) e bits) (sym found) answers

pub header_passed : (expect : Expect) (bits : List Bool) (handle : ℕ) → expect ≡ OneHeader handle → Passes expect bits → length bits ≢ 41 → AnswersExpected Header expect bits
header_passed expect bits handle found passes other =
    let here : Passes (OneHeader handle) bits = subst (λ (e : Expect). Passes e bits) found passes in
    let long : length bits ≡ 33 = elim here.length_fits [ inl short ↦ short | inr error ↦ absurd (other error) ] in
    let answers : AnswersExpected Header (OneHeader handle) bits = record {
      suits = tt;
      in_range = tt;
      handle_in_range = handle-fits bits handle (omega arith) here.number;
      spelled = header_spelled bits handle long here.check here.header here.number;
    } in
    subst (λ (e : Expect). AnswersExpected Header e bits) (sym found) answers

-- an error, by the row
error_row : (expect : Expect) (bits : List Bool) (code : ℕ) → length bits ≡ 41 → EndsWithCheck bits → HasHeader bits → HasHandle (handle_of expect) bits → code ≡ value_of (part_of bits 1 8) → Suits (Error code) expect → AnswersExpected (Error code) expect bits
error_row expect bits code long check header number read suits = record {
  suits = suits;
  in_range = omega (arith, value_of-part bits 1 8 (omega arith));
  handle_in_range = handle-fits bits (handle_of expect) (omega arith) number;
  spelled = error_spelled bits (handle_of expect) code long check header number read;
}

pub words_error : (expect : Expect) (bits : List Bool) (count handle code : ℕ) → expect ≡ SomeWords count handle → Passes expect bits → length bits ≡ 41 → code ≡ value_of (part_of bits 1 8) → AnswersExpected (Error code) expect bits
words_error expect bits count handle code found passes long read =
    let here : Passes (SomeWords count handle) bits = subst (λ (e : Expect). Passes e bits) found passes in
    subst (λ (e : Expect). AnswersExpected (Error code) e bits) (sym found) (error_row (SomeWords count handle) bits code long here.check here.header here.number read tt)

pub any_words_error : (expect : Expect) (bits : List Bool) (handle code : ℕ) → expect ≡ AnyWords handle → Passes expect bits → length bits ≡ 41 → code ≡ value_of (part_of bits 1 8) → AnswersExpected (Error code) expect bits
any_words_error expect bits handle code found passes long read =
    let here : Passes (AnyWords handle) bits = subst (λ (e : Expect). Passes e bits) found passes in
    subst (λ (e : Expect). AnswersExpected (Error code) e bits) (sym found) (error_row (AnyWords handle) bits code long here.check here.header here.number read tt)

pub header_error : (expect : Expect) (bits : List Bool) (handle code : ℕ) → expect ≡ OneHeader handle → Passes expect bits → length bits ≡ 41 → code ≡ value_of (part_of bits 1 8) → AnswersExpected (Error code) expect bits
header_error expect bits handle code found passes long read =
    let here : Passes (OneHeader handle) bits = subst (λ (e : Expect). Passes e bits) found passes in
    subst (λ (e : Expect). AnswersExpected (Error code) e bits) (sym found) (error_row (OneHeader handle) bits code long here.check here.header here.number read tt)
