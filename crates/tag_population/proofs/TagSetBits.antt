-- The bits that the words of a set have for numbers.
use Rattle.std.proofs.Common.{◌≡◌, ◌≢◌, ℕ, ◌+◌, ◌*◌, ◌/◌, ◌%◌, ◌^◌, ◌<◌, ◌≤◌, ◌==◌, ◌-◌, ◌↔◌, suc, Bool, true, ◌||◌, List, [], ◌∷◌, length, Some, None, get_or, set, replicate, bit_and, bit_or, sym, ap, ◌∙◌, arith, min, inl, inr}
use Rattle.std.specs.Int.{bit_at, bit_not, trailing_zeros, w64}
use Rattle.std.specs.List.{list_any}
use Rattle.std.proofs.lemmas.Bool.{cases_lt, eq-eqb}
use Rattle.std.proofs.lemmas.Bool.Decides.{eqb_tells}
use Rattle.std.proofs.lemmas.List.{get_or-set_same, get_or-set_other, get_or_past, get_or-replicate, length-replicate, length-set}
use Rattle.std.proofs.lemmas.Nat.Bits.{bit_at-zero, bit_at-lt, bit_at_and, bit_at_mask_inside, bit_at_mask_below, bit_at_set_same, bit_at_set_other, bit_at_clear_same, bit_at_clear_other, bit_at-trailing_zeros}
use Rattle.std.proofs.lemmas.List.Folds.{list_any_at}
use Rattle.std.proofs.lemmas.Grind.{common_steps, get_or_default_zero, get_or-set_at}
use Rattle.air_events.specs.TagNumbers.{most_tags}
use Rattle.tag_population.specs.TagSets.{bit_in_set, HasNone, IsSetOf, IsIn, IsFilled, IsNextOne, IsNextIn}

-- the bit of a number whose word is replaced
replaced_same : (words : List ℕ) (number word : ℕ) → length words * 64 ≡ most_tags → number < most_tags → bit_in_set (set words (number / 64) word) number ≡ bit_at word (number % 64)
replaced_same words number word size small =
    ap (λ n. bit_at n (number % 64)) (get_or-set_same words (number / 64) word 0 (omega (arith, size, small)))

-- ... and that of another, where the word has the other bits that it had
replaced_other : (words : List ℕ) (number word other : ℕ) → length words * 64 ≡ most_tags → number < most_tags → other ≢ number
    → ((bit : ℕ) → bit < 64 → bit ≢ number % 64 → bit_at word bit ≡ bit_at (get_or words (number / 64) 0) bit) → bit_in_set (set words (number / 64) word) other ≡ bit_in_set words other
replaced_other words number word other size small apart same =
    elim (eqb_tells (other / 64) (number / 64)) [
      | inl one ↦
          let differs : other % 64 ≢ number % 64 = λ meets. apart (omega (arith, one.1, meets)) in
          ap (λ n. bit_at (get_or (set words (number / 64) word) n 0) (other % 64)) one.1
          ∙ ap (λ n. bit_at n (other % 64)) (get_or-set_same words (number / 64) word 0 (omega (arith, size, small)))
          ∙ same (other % 64) (omega arith) differs
          ∙ ap (λ n. bit_at (get_or words n 0) (other % 64)) (sym one.1)
      | inr differs ↦ ap (λ n. bit_at n (other % 64)) (get_or-set_other words (number / 64) (other / 64) word 0 differs.1)
    ]

-- a word that is read
word_read : (words : List ℕ) (number word : ℕ) → length words * 64 ≡ most_tags → number < most_tags → word ≡ get_or words (number / 64) word → word ≡ get_or words (number / 64) 0
word_read words number word size small is = is ∙ get_or_default_zero words (number / 64) word (omega (arith, size, small))

one_not_zero : (bit : ℕ) → bit ≡ 1 → bit ≡ 0 → ⊥
one_not_zero bit one out = omega (arith, one, out)

no_bit : (word bit : ℕ) → word ≡ 0 → bit_at word bit ≡ 0
no_bit word bit none = ap (λ n. bit_at n bit) none ∙ bit_at-zero bit

-- one of the words is replaced, and its bit with it
filled_replaced : (filled : ℕ) (words : List ℕ) (at word after : ℕ) → IsFilled filled words → at < length words
    → ((other : ℕ) → other < 64 → other ≢ at → bit_at after other ≡ bit_at filled other) → ((bit_at after at ≡ 0) ↔ (word ≡ 0)) → IsFilled after (set words at word)
filled_replaced filled words at word after is within stays here = λ other below. grind (arith, get_or-set_at, get_or-set_other)

-- a tag is added
abbrev with_bit : ℕ → ℕ → ℕ
with_bit word bit = bit_or word (1 * 2 ^ bit % 2 ^ 64)

pub inserted : (words : List ℕ) (number word : ℕ) → length words * 64 ≡ most_tags → number < most_tags
    → IsIn (set words (number / 64) (with_bit word (number % 64))) number
inserted words number word size small = replaced_same words number (with_bit word (number % 64)) size small ∙ bit_at_set_same w64 word (number % 64) (omega arith)

pub inserted_other : (words : List ℕ) (number word other : ℕ) → length words * 64 ≡ most_tags → number < most_tags → word ≡ get_or words (number / 64) word → other ≢ number
    → bit_in_set (set words (number / 64) (with_bit word (number % 64))) other ≡ bit_in_set words other
inserted_other words number word other size small is apart =
    replaced_other words number (with_bit word (number % 64)) other size small apart
    (λ bit below differs. bit_at_set_other w64 word (number % 64) (omega arith) bit differs ∙ ap (λ n. bit_at n bit) (word_read words number word size small is))

inserted_filled : (filled : ℕ) (words : List ℕ) (number word : ℕ) → IsFilled filled words → length words * 64 ≡ most_tags → number < most_tags
    → IsFilled (with_bit filled (number / 64)) (set words (number / 64) (with_bit word (number % 64)))
inserted_filled filled words number word is size small =
    let below : number / 64 < 64 = omega (arith, small) in
    let one : bit_at (with_bit filled (number / 64)) (number / 64) ≡ 1 = bit_at_set_same w64 filled (number / 64) below in
    let own : bit_at (with_bit word (number % 64)) (number % 64) ≡ 1 = bit_at_set_same w64 word (number % 64) (omega arith) in
    filled_replaced filled words (number / 64) (with_bit word (number % 64)) (with_bit filled (number / 64)) is (omega (arith, size, small))
    (λ other inside apart. bit_at_set_other w64 filled (number / 64) below other apart) (
      λ out. absurd (one_not_zero (bit_at (with_bit filled (number / 64)) (number / 64)) one out),
      λ none. absurd (one_not_zero (bit_at (with_bit word (number % 64)) (number % 64)) own (no_bit (with_bit word (number % 64)) (number % 64) none)),
    )

pub inserted_set : (filled : ℕ) (words : List ℕ) (number word : ℕ) → (length words * 64 ≡ most_tags) × IsFilled filled words → number < most_tags
    → (length (set words (number / 64) (with_bit word (number % 64))) * 64 ≡ most_tags)
    × IsFilled (with_bit filled (number / 64)) (set words (number / 64) (with_bit word (number % 64)))
inserted_set filled words number word is small =
    (omega (arith, length-set words (number / 64) (with_bit word (number % 64)), is.0), inserted_filled filled words number word is.1 is.0 small)

-- a tag is removed
abbrev without_bit : ℕ → ℕ → ℕ
without_bit word bit = bit_and word (bit_not w64 (1 * 2 ^ bit % 2 ^ 64))

pub removed : (words : List ℕ) (number word : ℕ) → length words * 64 ≡ most_tags → number < most_tags
    → bit_in_set (set words (number / 64) (without_bit word (number % 64))) number ≡ 0
removed words number word size small = replaced_same words number (without_bit word (number % 64)) size small ∙ bit_at_clear_same w64 word (number % 64) (omega arith)

pub removed_other : (words : List ℕ) (number word other : ℕ) → length words * 64 ≡ most_tags → number < most_tags → word ≡ get_or words (number / 64) word → other ≢ number
    → bit_in_set (set words (number / 64) (without_bit word (number % 64))) other ≡ bit_in_set words other
removed_other words number word other size small is apart =
    replaced_other words number (without_bit word (number % 64)) other size small apart
    (λ bit below differs. bit_at_clear_other w64 word (number % 64) (omega arith) bit below differs ∙ ap (λ n. bit_at n bit) (word_read words number word size small is))

-- ... of which its word is empty then
pub emptied_filled : (filled : ℕ) (words : List ℕ) (number word : ℕ) → IsFilled filled words → length words * 64 ≡ most_tags → number < most_tags → word ≡ 0
    → IsFilled (without_bit filled (number / 64)) (set words (number / 64) word)
emptied_filled filled words number word is size small none =
    let below : number / 64 < 64 = omega (arith, small) in
    filled_replaced filled words (number / 64) word (without_bit filled (number / 64)) is (omega (arith, size, small))
    (λ other inside apart. bit_at_clear_other w64 filled (number / 64) below other inside apart)
    (λ out. none, λ empty. bit_at_clear_same w64 filled (number / 64) below)

-- ... so where a tag is removed, whose word was this
pub emptied_set : (filled : ℕ) (words : List ℕ) (number word : ℕ) → (length words * 64 ≡ most_tags) × IsFilled filled words → number < most_tags → word ≡ 0
    → (length (set words (number / 64) word) * 64 ≡ most_tags) × IsFilled (without_bit filled (number / 64)) (set words (number / 64) word)
emptied_set filled words number word is small none =
    (omega (arith, length-set words (number / 64) word, is.0), emptied_filled filled words number word is.1 is.0 small none)

-- the least place from one on at which a word has a 1: the bits below that one are masked
masked : (word from bit : ℕ) → from ≤ bit → bit < 64 → bit_at (bit_and word (2 ^ 64 - 2 ^ from)) bit ≡ bit_at word bit
masked word from bit least below =
    bit_at_and word (2 ^ 64 - 2 ^ from) bit ∙ ap (λ n. min (bit_at word bit) n) (bit_at_mask_inside from 64 bit least below) ∙ (let low = bit_at-lt word bit in omega (arith, low))

masked_out : (word from bit : ℕ) → bit < from → bit_at (bit_and word (2 ^ 64 - 2 ^ from)) bit ≡ 0
masked_out word from bit less = bit_at_and word (2 ^ 64 - 2 ^ from) bit ∙ ap (λ n. min (bit_at word bit) n) (bit_at_mask_below from 64 bit less) ∙ omega arith

pub no_one : (word from mask : ℕ) → mask ≡ 2 ^ 64 - 2 ^ from → bit_and word mask ≡ 0 → IsNextOne word from None
no_one word from mask is none = λ bit least below.
    sym (masked word from bit least below) ∙ no_bit (bit_and word (2 ^ 64 - 2 ^ from)) bit (ap (λ n. bit_and word n) (sym is) ∙ none)

-- `trailing_zeros` of a word that is not 0 is the place of its lowest 1
pub lowest_there : (word : ℕ) → word ≢ 0 → word < 2 ^ 64 → IsNextOne word 0 (Some (trailing_zeros w64 word))
lowest_there word some below =
    let low = bit_at-trailing_zeros w64 word (omega (arith, some)) below in
    (omega arith, low.0, low.1, λ bit first last. low.2 bit last)

pub next_one_there : (word from mask bit : ℕ) → mask ≡ 2 ^ 64 - 2 ^ from → IsNextOne (bit_and word mask) 0 (Some bit) → IsNextOne word from (Some bit)
next_one_there word from mask bit is low =
    let rest : ℕ = bit_and word mask in
    let same : bit_and word (2 ^ 64 - 2 ^ from) ≡ rest = ap (λ n. bit_and word n) (sym is) in
    let least : from ≤ bit =
    elim (cases_lt bit from) [
      | inl less ↦ absurd (one_not_zero (bit_at rest bit) low.2 (sym (ap (λ n. bit_at n bit) same) ∙ masked_out word from bit less))
      | inr more ↦ more
    ] in (
      least,
      low.1,
      sym (masked word from bit least low.1) ∙ ap (λ n. bit_at n bit) same ∙ low.2,
      λ other first last. sym (masked word from other first (omega (arith, last, low.1))) ∙ ap (λ n. bit_at n other) same ∙ low.3 other (omega arith) last,
    )

-- the bit of a number in its word
bit_in : (words : List ℕ) (number at : ℕ) → number / 64 ≡ at → bit_in_set words number ≡ bit_at (get_or words at 0) (number % 64)
bit_in words number at there = ap (λ n. bit_at (get_or words n 0) (number % 64)) there

-- from a word on
empty_word : (filled : ℕ) (words : List ℕ) (at bit : ℕ) → IsFilled filled words → at < 64 → bit_at filled at ≡ 0 → bit_at (get_or words at 0) bit ≡ 0
empty_word filled words at bit is below out = no_bit (get_or words at 0) bit ((is at below).0 out)

-- a word that has a bit is one of the words
pub word_within : (filled : ℕ) (words : List ℕ) (at : ℕ) → IsFilled filled words → at < 64 → bit_at filled at ≡ 1 → at < length words
word_within filled words at is below one = grind (arith, get_or_past {X = ℕ}, is at)

-- a word that a place of the set has, read at that place
pub word_there : (filled : ℕ) (words : List ℕ) (at word : ℕ) → IsFilled filled words → at < 64 → bit_at filled at ≡ 1 → word ≡ get_or words at word → word ≡ get_or words at 0
word_there filled words at word is below one read = read ∙ get_or_default_zero words at word (word_within filled words at is below one)

pub first_word : (filled : ℕ) (words : List ℕ) (from at bit : ℕ) → (length words * 64 ≡ most_tags) × IsFilled filled words → IsNextOne filled from (Some at)
    → IsNextOne (get_or words at 0) 0 (Some bit) → IsNextIn words (from * 64) (Some (at * 64 + bit))
first_word filled words from at bit is next low =
    let within = word_within filled words at is.1 next.1 next.2 in
    let there : (at * 64 + bit) / 64 ≡ at = omega (arith, low.1) in
    let place : (at * 64 + bit) % 64 ≡ bit = omega (arith, low.1) in (
      omega (arith, next.0),
      omega (arith, low.1, within, is.0),
      bit_in words (at * 64 + bit) at there ∙ ap (λ n. bit_at (get_or words at 0) n) place ∙ low.2,
      λ number first last.
          elim (cases_lt number (at * 64)) [
            | inl less ↦
                let below : number / 64 < 64 = omega (arith, less, next.1) in
                empty_word filled words (number / 64) (number % 64) is.1 below (next.3 (number / 64) (omega (arith, first)) (omega (arith, less)))
            | inr more ↦
                let here : number / 64 ≡ at = omega (arith, more, last, low.1) in
                bit_in words number at here ∙ low.3 (number % 64) (omega arith) (omega (arith, here, last))
          ],
    )

-- no tag
pub none_in : (words : List ℕ) (count number : ℕ) → words ≡ replicate count 0 → bit_in_set words number ≡ 0
none_in words count number is = grind (arith, common_steps, get_or_past {X = ℕ}, get_or-replicate {A = ℕ}, length-replicate {A = ℕ})

-- a number that is read among these
pub number_index : (number : ℕ) (numbers : List ℕ) → list_any (λ other. other == number) numbers ≡ true → (at : ℕ) × (at < length numbers) × (get_or numbers at 0 ≡ number)
number_index number [] any = cc
number_index number (first ∷ numbers) any =
    elim (eqb_tells first number) [
      | inl w ↦ (0, omega arith, w.1)
      | inr w ↦
          let rest = number_index number numbers (sym (ap (λ (b : Bool). b || list_any (λ other. other == number) numbers) w.0) ∙ any) in
          (suc rest.0, omega (arith, rest.1), rest.2)
    ]

number_there : (numbers : List ℕ) (at number : ℕ) → at < length numbers → get_or numbers at 0 ≡ number → list_any (λ other. other == number) numbers ≡ true
number_there numbers at number within is = list_any_at (λ other. other == number) numbers at 0 within (eq-eqb (get_or numbers at 0) number is)

-- The first of these numbers are in the set, and no other number is.
pub record FilledBelow (words numbers : List ℕ) (index : ℕ) : Type 0 where
  pub only : (number : ℕ) → IsIn words number → list_any (λ other. other == number) numbers ≡ true
  pub there : (at : ℕ) → at < index → IsIn words (get_or numbers at 0)

pub filled_none : (words numbers : List ℕ) → HasNone words → FilledBelow words numbers 0
filled_none words numbers none = record { only = λ number one. absurd (one_not_zero (bit_in_set words number) one (none number)); there = λ at below. absurd (omega (arith, below)) }

-- a set with one number more
pub record HasMore (words after : List ℕ) (number : ℕ) : Type 0 where
  pub there : IsIn after number
  pub others : (other : ℕ) → other ≢ number → bit_in_set after other ≡ bit_in_set words other

more_there : (words after numbers : List ℕ) (index number : ℕ) → FilledBelow words numbers index → index < length numbers → number ≡ get_or numbers index 0 → HasMore words after number
    → (at : ℕ) → at < index + 1 → IsIn after (get_or numbers at 0)
more_there words after numbers index number so_far within is more at below = grind arith

pub filled_more : (words after numbers : List ℕ) (index number : ℕ) → FilledBelow words numbers index → index < length numbers → number ≡ get_or numbers index 0 → HasMore words after number
    → FilledBelow after numbers (index + 1)
filled_more words after numbers index number so_far within is more = record {
  only = λ other in_it.
      elim (eqb_tells other number) [
        | inl same ↦ number_there numbers index other within (sym is ∙ sym same.1)
        | inr apart ↦ so_far.only other (sym (more.others other apart.1) ∙ in_it)
      ];
  there = λ at below. more_there words after numbers index number so_far within is more at below;
}

pub filled_all : (words numbers : List ℕ) (index : ℕ) → FilledBelow words numbers index → length numbers ≤ index → IsSetOf words numbers
filled_all words numbers index so_far past = λ number. (
  so_far.only number,
  λ any.
      let found = number_index number numbers any in
      ap (λ n. bit_in_set words n) (sym found.2) ∙ so_far.there found.0 (omega (arith, found.1, past)),
)

-- Of the numbers in the set, the first of these are removed.
pub record EmptiedBelow (words numbers : List ℕ) (index : ℕ) : Type 0 where
  pub left : (number : ℕ) → IsIn words number → (at : ℕ) × (index ≤ at) × (at < length numbers) × (get_or numbers at 0 ≡ number)

pub emptied_none : (words numbers : List ℕ) → IsSetOf words numbers → EmptiedBelow words numbers 0
emptied_none words numbers is = record {
  left = λ number one. let found = number_index number numbers ((is number).0 one) in (found.0, omega arith, found.1, found.2);
}
