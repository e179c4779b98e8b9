-- The digits so far write the number so far.
use Rattle.std.proofs.Common.{◌<◌, ◌^◌, length, arith, ap, sym, ◌∙◌, subst}
use Rattle.std.specs.Str.Parse.{digits_value}
use Rattle.std.proofs.lemmas.List.{take_all}
use Rattle.epc_sgtin.specs.Uri.{padded}
use Rattle.epc_sgtin.specs.UriFaults.{AreDigits}
use Rattle.epc_sgtin.proofs.Padded.{digits_begun, digits_value-below, no_digit, one_digit_more, padded-digits_value}
use Rattle.epc_sgtin.proofs.digits.number_of.Goals as goal

pub returns-then-not-is_digit-clause-none : goal.returns-then-not-is_digit-clause-none
returns-then-not-is_digit-clause-none c =
    no_digit c.args.part.now c.loop-byte.byte-index c.loop-byte-test.true (sym c.if-not-is_digit.ensures)

pub overflow_mul-number : goal.overflow_mul-number
overflow_mul-number c =
    let begun = digits_begun c.args.part.now c.loop-byte.byte-index c.loop-byte.number c.requires.few c.loop-byte-test.true c.loop-byte.invariant.digits c.loop-byte.invariant.value in
    omega (arith, begun)

pub overflow_add-number : goal.overflow_add-number
overflow_add-number c =
    let begun = digits_begun c.args.part.now c.loop-byte.byte-index c.loop-byte.number c.requires.few c.loop-byte-test.true c.loop-byte.invariant.digits c.loop-byte.invariant.value in
    omega (arith, begun, c.type_inv.part c.loop-byte.byte-index)

pub loop-byte-preserved : goal.loop-byte-preserved
loop-byte-preserved c =
    let more = one_digit_more c.args.part.now c.loop-byte.byte-index c.loop-byte.number c.loop-byte-test.true (sym c.if-not-is_digit.ensures)
    c.loop-byte.invariant.digits c.loop-byte.invariant.value in
    record { digits = more.0; value = omega (arith, more.1, c.from.ensures) }

pub returns-clause-digits : goal.returns-clause-digits
returns-clause-digits c =
    subst AreDigits (take_all c.loop-byte.byte-index c.args.part.now (omega arith)) c.loop-byte.invariant.digits

pub returns-clause-below : goal.returns-clause-below
returns-clause-below c =
    let whole = take_all c.loop-byte.byte-index c.args.part.now (omega arith) in
    let value = c.loop-byte.invariant.value ∙ ap (digits_value 10) whole in
    subst (λ n. n < 10 ^ length c.args.part.now) (sym value) (digits_value-below c.args.part.now (subst AreDigits whole c.loop-byte.invariant.digits))

pub returns-clause-spelled : goal.returns-clause-spelled
returns-clause-spelled c =
    let whole = take_all c.loop-byte.byte-index c.args.part.now (omega arith) in
    let value = c.loop-byte.invariant.value ∙ ap (digits_value 10) whole in
    sym (ap (λ n. padded n (length c.args.part.now)) value ∙ padded-digits_value c.args.part.now (subst AreDigits whole c.loop-byte.invariant.digits))
