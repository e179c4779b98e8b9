-- Bits are a reply that is expected, or a refusal applies.
use Rattle.std.proofs.Common.{◌≡◌, ℕ, zero, suc, ◌+◌, ◌-◌, ◌*◌, ◌/◌, ◌≤◌, Bool, true, false, List, [], ◌∷◌, ◌++◌, length, take, drop, refl, sym, ◌∙◌, ap, subst, inl, inr, arith, length-append, length-take, length-drop, Some}
use Rattle.std.specs.Prelude.{◌⊎◌, slice_get, ◌==◌}
use Rattle.std.proofs.lemmas.Bool.{cases_eq, cases_lt}
use Rattle.std.proofs.lemmas.List.{take-append-drop}
use Rattle.bit_strings.specs.NumbersInBits.{value_of, part_of}
use Rattle.bit_strings.specs.laws.NumbersInBits.{same_from_value}
use Rattle.bit_strings.specs.laws.Ebv.{append_apart}
use Rattle.gen2_crc.specs.Crc.{crc16_of}
use Rattle.gen2_crc.specs.laws.CheckNumbers.{length-crc16_of}
use Rattle.reply_grammar.specs.declared.expected.Expect.{Expect}
use Rattle.reply_grammar.specs.declared.expected.Expect.TheVariants.{Rn16 as OneRn16, Epc as OneEpc, Handle as OneHandle, Same, Words as SomeWords, AnyWords, Header as OneHeader}
use Rattle.reply_grammar.specs.declared.expected.Reply.{Reply}
use Rattle.reply_grammar.specs.declared.expected.Reply.TheVariants.{Rn16, Epc, Handle, Words, Header, Error}
use Rattle.reply_grammar.specs.declared.expected.ReplyRefusal.{ReplyRefusal}
use Rattle.reply_grammar.specs.declared.expected.ReplyRefusal.TheVariants.{Length, Crc, Header as HeaderBit, Number}
use Rattle.reply_grammar.specs.Replies.{AnswersExpected}
use Rattle.reply_grammar.specs.Refusals.{RefusesReply, FitsLength, EndsWithCheck, PassesCheck, PassesHeader, PassesNumber, Passes}
use Rattle.reply_grammar.specs.laws.Reading.{ReadTo, read_none, read_more}
use Rattle.reply_grammar.specs.laws.PassingReplies.{rn16_passed, handle_passed, same_passed, epc_passed, words_passed, any_words_passed, header_passed, words_error, any_words_error, header_error}

-- a fact holds, or it does not
abbrev Decided : Type 0 → Type 0
Decided P = P ⊎ (¬ P)

either : {P Q : Type 0} → Decided P → Decided Q → Decided (P ⊎ Q)
either (inl p) q = inl (inl p)
either (inr np) (inl q) = inl (inr q)
either (inr np) (inr nq) = inr (λ both. elim both [ inl p ↦ np p | inr q ↦ nq q ])

both : {P Q : Type 0} → Decided P → Decided Q → Decided (P × Q)
both (inl p) (inl q) = inl (p, q)
both (inl p) (inr nq) = inr (λ pair. nq pair.1)
both (inr np) q = inr (λ pair. np pair.0)

at-least : (m n : ℕ) → Decided (m ≤ n)
at-least m n = elim (cases_lt n m) [ inl less ↦ inr (λ h. omega arith) | inr within ↦ inl within ]

any-words : (n : ℕ) → Decided ((count : ℕ) × (1 ≤ count) × (count ≤ 512) × (n ≡ 33 + 16 * count))
any-words n =
    elim (cases_eq n (33 + 16 * ((n - 33) / 16))) [
      | inl same ↦ elim (both (at-least 1 ((n - 33) / 16)) (at-least ((n - 33) / 16) 512)) [
        | inl within ↦ inl ((n - 33) / 16, within.0, within.1, same)
        | inr outside ↦ inr (λ fits. outside (omega (arith, fits.1, fits.2, fits.3), omega (arith, fits.1, fits.2, fits.3)))
      ]
      | inr other ↦ inr (λ fits. other (omega (arith, fits.1, fits.2, fits.3)))
    ]

length-decided : (e : Expect) (bits : List Bool) → Decided (FitsLength e bits)
length-decided OneRn16 bits = cases_eq (length bits) 16
length-decided OneEpc bits = cases_eq (length bits) (32 + 16 * value_of (take 5 bits))
length-decided OneHandle bits = cases_eq (length bits) 32
length-decided (Same h) bits = cases_eq (length bits) 32
length-decided (SomeWords n h) bits = either (cases_eq (length bits) (33 + 16 * n)) (cases_eq (length bits) 41)
length-decided (AnyWords h) bits = either (any-words (length bits)) (cases_eq (length bits) 41)
length-decided (OneHeader h) bits = either (cases_eq (length bits) 33) (cases_eq (length bits) 41)

long-enough : (e : Expect) (bits : List Bool) → FitsLength e bits → 16 ≤ length bits
long-enough OneRn16 bits fits = omega arith
long-enough OneEpc bits fits = omega (arith, fits)
long-enough OneHandle bits fits = omega arith
long-enough (Same h) bits fits = omega arith
long-enough (SomeWords n h) bits fits = elim fits [ inl whole ↦ omega arith | inr error ↦ omega arith ]
long-enough (AnyWords h) bits fits = elim fits [ inl whole ↦ omega (arith, whole.3) | inr error ↦ omega arith ]
long-enough (OneHeader h) bits fits = elim fits [ inl whole ↦ omega arith | inr error ↦ omega arith ]

check-decided : (bits : List Bool) → 16 ≤ length bits → Decided (EndsWithCheck bits)
check-decided bits long =
    let at : ℕ = length bits - 16 in
    let front : List Bool = take at bits in
    let last : List Bool = drop at bits in
    let size : length last ≡ 16 = omega (arith, length-drop at bits) in
    let whole : front ++ last ≡ bits = take-append-drop at bits in
    elim (cases_eq (value_of last) (value_of (crc16_of front))) [
      | inl same ↦ inl (record { front = front; split = sym whole ∙ ap (λ (b : List Bool). front ++ b) (same_from_value last (crc16_of front) (size ∙ sym (length-crc16_of front)) same) })
      | inr other ↦ inr (λ ends.
          let lengths : length front ≡ length ends.front =
          omega (arith, length-take at bits, ap length ends.split, length-append ends.front (crc16_of ends.front), length-crc16_of ends.front) in
          let parts : (front ≡ ends.front) × (last ≡ crc16_of ends.front) = append_apart front ends.front last (crc16_of ends.front) lengths (whole ∙ ends.split) in
          other (ap value_of (parts.1 ∙ ap crc16_of (sym parts.0))))
    ]

check-row : (e : Expect) (bits : List Bool) → 16 ≤ length bits → Decided (PassesCheck e bits)
check-row OneRn16 bits long = inl tt
check-row OneEpc bits long = check-decided bits long
check-row OneHandle bits long = check-decided bits long
check-row (Same h) bits long = check-decided bits long
check-row (SomeWords n h) bits long = check-decided bits long
check-row (AnyWords h) bits long = check-decided bits long
check-row (OneHeader h) bits long = check-decided bits long

same-bit : (a b : Bool) → Decided (◌≡◌ {A = Bool} a b)
same-bit true true = inl refl
same-bit true false = inr (λ same. cc)
same-bit false true = inr (λ same. cc)
same-bit false false = inl refl

first-bit : (bits : List Bool) (bit : Bool) → Decided (slice_get bits 0 ≡ Some bit)
first-bit [] bit = inr (λ same. cc)
first-bit (x ∷ bits) bit = elim (same-bit x bit) [ inl same ↦ inl (ap (λ (b : Bool). Some b) same) | inr other ↦ inr (λ here. let same : x ≡ bit = cc in other same) ]

header-row : (e : Expect) (bits : List Bool) → Decided (PassesHeader e bits)
header-row OneRn16 bits = inl tt
header-row OneEpc bits = inl tt
header-row OneHandle bits = inl tt
header-row (Same h) bits = inl tt
header-row (SomeWords n h) bits = first-bit bits (length bits == 41)
header-row (AnyWords h) bits = first-bit bits (length bits == 41)
header-row (OneHeader h) bits = first-bit bits (length bits == 41)

number-row : (e : Expect) (bits : List Bool) → Decided (PassesNumber e bits)
number-row OneRn16 bits = inl tt
number-row OneEpc bits = inl tt
number-row OneHandle bits = inl tt
number-row (Same h) bits = cases_eq (value_of (part_of bits (length bits - 32) 16)) h
number-row (SomeWords n h) bits = cases_eq (value_of (part_of bits (length bits - 32) 16)) h
number-row (AnyWords h) bits = cases_eq (value_of (part_of bits (length bits - 32) 16)) h
number-row (OneHeader h) bits = cases_eq (value_of (part_of bits (length bits - 32) 16)) h

passes-or-fault : (e : Expect) (bits : List Bool) → Passes e bits ⊎ ((f : ReplyRefusal) × RefusesReply f e bits)
passes-or-fault e bits =
    elim (length-decided e bits) [
      | inr wrong ↦ inr (Length, wrong)
      | inl fits ↦ elim (check-row e bits (long-enough e bits fits)) [
        | inr wrong ↦ inr (Crc, (fits, wrong))
        | inl check ↦ elim (header-row e bits) [
          | inr wrong ↦ inr (HeaderBit, (fits, check, wrong))
          | inl header ↦ elim (number-row e bits) [
            | inr wrong ↦ inr (Number, (fits, check, header, wrong))
            | inl number ↦ inl (record { length_fits = fits; check = check; header = header; number = number })
          ]
        ]
      ]
    ]

-- so many words from a place on, up to another
all-words : (bits : List Bool) (from n at : ℕ) → from + 16 * n ≡ at → at ≤ length bits → (words : List ℕ) × ReadTo bits from at words
all-words bits from zero at same within = ([], subst (λ k. ReadTo bits from k []) (omega (arith, same)) (read_none bits from))
all-words bits from (suc n) at same within =
    let before = from + 16 * n in
    let front = all-words bits from n before refl (omega (arith, same)) in
    let word : ℕ = value_of (part_of bits before 16) in
    let more : ReadTo bits from (before + 16) (front.0 ++ word ∷ []) = read_more bits from before word front.0 front.1 (omega (arith, same)) refl in
    (front.0 ++ word ∷ [], subst (λ k. ReadTo bits from k (front.0 ++ word ∷ [])) (omega (arith, same)) more)

-- what passes is a reply
reply-there : (e : Expect) (bits : List Bool) → Passes e bits → (reply : Reply) × AnswersExpected reply e bits
reply-there OneRn16 bits passes = (Rn16 (value_of (part_of bits 0 16)), rn16_passed OneRn16 bits (value_of (part_of bits 0 16)) refl passes refl)
reply-there OneEpc bits passes =
    let n : ℕ = value_of (take 5 bits) in
    let read = all-words bits 16 n (length bits - 16) (omega (arith, passes.length_fits)) (omega arith) in
    (Epc (value_of (part_of bits 0 16)) read.0, epc_passed OneEpc bits (value_of (part_of bits 0 16)) read.0 refl passes refl read.1)
reply-there OneHandle bits passes = (Handle (value_of (part_of bits 0 16)), handle_passed OneHandle bits (value_of (part_of bits 0 16)) refl passes refl)
reply-there (Same h) bits passes = (Handle (value_of (part_of bits 0 16)), same_passed (Same h) bits (value_of (part_of bits 0 16)) h refl passes refl)
reply-there (SomeWords n h) bits passes =
    elim (cases_eq (length bits) 41) [
      | inl error ↦ (Error (value_of (part_of bits 1 8)), words_error (SomeWords n h) bits n h (value_of (part_of bits 1 8)) refl passes error refl)
      | inr other ↦
          let long : length bits ≡ 33 + 16 * n = elim passes.length_fits [ inl whole ↦ whole | inr error ↦ absurd (other error) ] in
          let read = all-words bits 1 n (length bits - 32) (omega arith) (omega arith) in
          (Words read.0, words_passed (SomeWords n h) bits n h read.0 refl passes other read.1)
    ]
reply-there (AnyWords h) bits passes =
    elim (cases_eq (length bits) 41) [
      | inl error ↦ (Error (value_of (part_of bits 1 8)), any_words_error (AnyWords h) bits h (value_of (part_of bits 1 8)) refl passes error refl)
      | inr other ↦
          let n : ℕ = (length bits - 33) / 16 in
          let long : length bits ≡ 33 + 16 * n = elim passes.length_fits [ inl whole ↦ omega (arith, whole.3) | inr error ↦ absurd (other error) ] in
          let read = all-words bits 1 n (length bits - 32) (omega arith) (omega arith) in
          (Words read.0, any_words_passed (AnyWords h) bits h read.0 refl passes other read.1)
    ]
reply-there (OneHeader h) bits passes =
    elim (cases_eq (length bits) 41) [
      | inl error ↦ (Error (value_of (part_of bits 1 8)), header_error (OneHeader h) bits h (value_of (part_of bits 1 8)) refl passes error refl)
      | inr other ↦ (Header, header_passed (OneHeader h) bits h refl passes other)
    ]

pub reply_or_fault : (e : Expect) (bits : List Bool) → ((reply : Reply) × AnswersExpected reply e bits) ⊎ ((f : ReplyRefusal) × RefusesReply f e bits)
reply_or_fault e bits = elim (passes-or-fault e bits) [ inl passes ↦ inl (reply-there e bits passes) | inr fault ↦ inr fault ]
