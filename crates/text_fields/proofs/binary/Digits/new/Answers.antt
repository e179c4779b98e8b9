-- The field spells the bits of its digits and no others.
use Rattle.std.proofs.Common.{◌≡◌, length, map, ap, arith, ◌∙◌, rules}
use Rattle.std.proofs.lemmas.List.{length-map}
use Rattle.std.specs.List.{AllPass}
use Rattle.text_fields.specs.Binary.{binary_digit, bits_of_digits, is_binary_digit}
use Rattle.text_fields.proofs.BinaryLaws.{no_hyphen, spells_bits, bits_of_digits-map, AllPass-digits}
use Rattle.text_fields.proofs.binary.Digits.new.Goals as goal
use Rattle.text_fields.proofs.binary.Digits.new.Goals.{then-digits-most-via-then-digits-most, then-digits-most-via-else-digits-most+then-not-all_pass}

pub returns-in_err-digits-clause-only : goal.returns-in_err-digits-clause-only
returns-in_err-digits-clause-only c = λ bits few spells.
    absurd (c.in_err-digits.ensures.only (map binary_digit bits) (no_hyphen bits) spells)

pub returns-then-digits-most-clause-only : goal.returns-then-digits-most-clause-only
returns-then-digits-most-clause-only c = λ bits few spells.
    let is = c.in_ok-digits.ensures.only (map binary_digit bits) (no_hyphen bits) spells in
    let count : length c.in_ok-digits.digits.now ≡ length bits = rw (is, length-map) in
    let digits : AllPass is_binary_digit c.in_ok-digits.digits.now = rw is (AllPass-digits bits) in
    elim c.then-digits-most.branch [
      | then-digits-most-via-then-digits-most w ↦ omega arith
      | then-digits-most-via-else-digits-most+then-not-all_pass w ↦ grind arith
    ]

pub returns-clause-value : goal.returns-clause-value
returns-clause-value c =
    let digits : AllPass is_binary_digit c.in_ok-digits.digits.now = search rules in
    (spells_bits c.args.field.now c.in_ok-digits.digits.now digits c.in_ok-digits.ensures.value, rw length-map (omega arith))

pub returns-clause-only : goal.returns-clause-only
returns-clause-only c = λ bits few spells.
    let is = c.in_ok-digits.ensures.only (map binary_digit bits) (no_hyphen bits) spells in
    ap bits_of_digits is ∙ bits_of_digits-map bits
