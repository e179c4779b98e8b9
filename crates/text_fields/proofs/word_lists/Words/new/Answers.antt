use Rattle.std.proofs.Common.{◌≡◌, ◌%◌, length, ap, arith, ◌∙◌, rules}
use Rattle.std.specs.List.{AllPass, flat_map}
use Rattle.std.proofs.lemmas.Grind.{common_steps}
use Rattle.text_fields.specs.Binary.{or_hyphen}
use Rattle.text_fields.specs.Hexadecimal.{hex_word}
use Rattle.text_fields.specs.WordLists.{is_upper_hex_digit, words_of_digits}
use Rattle.text_fields.proofs.WordDigits.{words_spelled, words_small, words_length, words_back, digits_length, digits_pass, digits_no_hyphen}
use Rattle.text_fields.proofs.word_lists.Words.new.Goals as goal
use Rattle.text_fields.proofs.word_lists.Words.new.Goals.{then-digits-ne0-via-then-digits-ne0, then-digits-ne0-via-else-digits-ne0+then-not-is_short, then-digits-ne0-via-else-digits-ne0+else-not-is_short+then-not-all_pass}

pub returns-in_err-digits-clause-only : goal.returns-in_err-digits-clause-only
returns-in_err-digits-clause-only c = λ words small few spells.
    absurd (c.in_err-digits.ensures.only (flat_map hex_word words) (digits_no_hyphen words) spells)

pub returns-then-digits-ne0-clause-only : goal.returns-then-digits-ne0-clause-only
returns-then-digits-ne0-clause-only c = λ words small few spells.
    let is = c.in_ok-digits.ensures.only (flat_map hex_word words) (digits_no_hyphen words) spells in
    let count = ap length is ∙ digits_length words in
    let digits : AllPass is_upper_hex_digit c.in_ok-digits.digits.now = rw is (digits_pass words small) in
    elim c.then-digits-ne0.branch [
      | then-digits-ne0-via-then-digits-ne0 w ↦ omega arith
      | then-digits-ne0-via-else-digits-ne0+then-not-is_short w ↦ grind (arith, common_steps)
      | then-digits-ne0-via-else-digits-ne0+else-not-is_short+then-not-all_pass w ↦ grind (arith, common_steps)
    ]

pub invariant_of-result : goal.invariant_of-result
invariant_of-result c =
    let digits : AllPass is_upper_hex_digit c.in_ok-digits.digits.now = search rules in
    let even : length c.in_ok-digits.digits.now % 4 ≡ 0 = omega arith in
    record { spelling = words_spelled c.in_ok-digits.digits.now digits even; countable = omega arith }

pub returns-clause-value : goal.returns-clause-value
returns-clause-value c =
    let digits : AllPass is_upper_hex_digit c.in_ok-digits.digits.now = search rules in
    let even : length c.in_ok-digits.digits.now % 4 ≡ 0 = omega arith in (
      c.in_ok-digits.ensures.value ∙ ap or_hyphen (words_spelled c.in_ok-digits.digits.now digits even),
      omega (arith, words_length c.in_ok-digits.digits.now),
      words_small c.in_ok-digits.digits.now,
    )

pub returns-clause-only : goal.returns-clause-only
returns-clause-only c = λ words small few spells.
    let is = c.in_ok-digits.ensures.only (flat_map hex_word words) (digits_no_hyphen words) spells in
    ap words_of_digits is ∙ words_back words small
