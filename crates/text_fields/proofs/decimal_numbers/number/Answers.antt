-- The digits so far are those of the number so far, and all of them spell it.
use Rattle.std.proofs.Common.{◌+◌, get_or, arith, refl, ap, sym, ◌∙◌}
use Rattle.std.specs.Prelude.{Some}
use Rattle.std.specs.Fmt.{decimal}
use Rattle.text_fields.proofs.DecimalDigits.{tested_digit, no_digit, digit_more, spelled_back, spelled_digit, spelled_front, spelled_whole}
use Rattle.text_fields.proofs.decimal_numbers.number.Goals as goal

pub returns-then-not-is_ascii_digit-clause-only : goal.returns-then-not-is_ascii_digit-clause-only
returns-then-not-is_ascii_digit-clause-only c = λ n within spells.
    let digit = spelled_digit n c.args.field.now c.loop-digit.digit-index (omega (arith, within)) spells c.loop-digit-test.true in
    absurd (no_digit (get_or c.args.field.now c.loop-digit.digit-index 0) (sym c.if-not-is_ascii_digit.ensures.value) digit.0 digit.1)

pub returns-then-number-most-clause-only : goal.returns-then-number-most-clause-only
returns-then-number-most-clause-only c = λ n within spells.
    let digit = tested_digit (get_or c.args.field.now c.loop-digit.digit-index 0) (sym c.if-not-is_ascii_digit.ensures.value) in
    let more = digit_more c.args.field.now c.loop-digit.digit-index c.loop-digit.number c.loop-digit-test.true digit.0 digit.1
    c.loop-digit.invariant.digits c.loop-digit.invariant.value in
    let front = spelled_front n c.args.field.now (c.loop-digit.digit-index + 1) (omega (arith, within)) spells in
    absurd (omega (arith, more.1, front, within, c.if-number-most.true))

pub loop-digit-preserved : goal.loop-digit-preserved
loop-digit-preserved c =
    let digit = tested_digit (get_or c.args.field.now c.loop-digit.digit-index 0) (sym c.if-not-is_ascii_digit.ensures.value) in
    let more = digit_more c.args.field.now c.loop-digit.digit-index c.loop-digit.number c.loop-digit-test.true digit.0 digit.1
    c.loop-digit.invariant.digits c.loop-digit.invariant.value in
    record { digits = more.0; value = more.1; within = c.if-number-most.false }

pub returns-clause-value : goal.returns-clause-value
returns-clause-value c =
    let start = c.if-not-begins_as_number.ensures in
    let so_far = c.loop-digit.invariant in
    let back = spelled_back c.args.field.now c.loop-digit.digit-index (omega arith) so_far.digits (start.filled refl) (start.zero refl)
    (omega (arith, so_far.value, so_far.within)) in
    (back ∙ ap decimal (sym so_far.value), so_far.within)

pub returns-clause-only : goal.returns-clause-only
returns-clause-only c = λ n within spells.
    ap Some (c.loop-digit.invariant.value ∙ spelled_whole n c.args.field.now c.loop-digit.digit-index (omega (arith, within)) spells (omega arith))
