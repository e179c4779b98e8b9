-- The digits so far are those of the number so far, and all of them spell it.
use Rattle.std.proofs.Common.{◌≢◌, inl, inr, take, get_or, arith, refl, sym, ◌∙◌, subst}
use Rattle.text_fields.specs.Lines.{space}
use Rattle.pie_text.specs.Spelling.{IsNumberUpTo}
use Rattle.pie_text.proofs.LeadingNumbers.{BeginsWithNumber, digit_more, digits_are_number, no_digit_here, not_both, number_form, same_end, tested_digit, too_great}
use Rattle.pie_text.proofs.leading.leading_number.Goals as goal
use Rattle.pie_text.proofs.leading.leading_number.Goals.{then-loop-end-test+else-is_ascii_digit, else-loop-end-test, then-not-is_field_end-via-then-not-is_field_end, then-not-is_field_end-via-else-not-is_field_end+then-not-has_number_form}

pub returns-then-number-most-clause-none : goal.returns-then-number-most-clause-none
returns-then-number-most-clause-none c = λ end ends number.
    let digit = tested_digit (get_or c.args.text.now c.loop-end.end 0) (sym c.if-is_ascii_digit.ensures.value) in
    let more = digit_more c.args.text.now c.loop-end.end c.loop-end.number c.loop-end-test.true digit.0 digit.1 c.loop-end.invariant.digits c.loop-end.invariant.value in
    too_great c.args.most c.loop-end.end end c.args.text.now (record { small = omega arith; ends = ends; number = number }) c.loop-end-test.true more.0 (omega (arith, more.1, c.if-number-most.true))

pub loop-end-preserved : goal.loop-end-preserved
loop-end-preserved c =
    let digit = tested_digit (get_or c.args.text.now c.loop-end.end 0) (sym c.if-is_ascii_digit.ensures.value) in
    let more = digit_more c.args.text.now c.loop-end.end c.loop-end.number c.loop-end-test.true digit.0 digit.1 c.loop-end.invariant.digits c.loop-end.invariant.value in
    record { within = omega (arith, c.loop-end-test.true); digits = more.0; value = more.1; few = c.if-number-most.false }

pub returns-then-not-is_field_end-clause-none : goal.returns-then-not-is_field_end-clause-none
returns-then-not-is_field_end-clause-none c = λ end ends number.
    let within = c.loop-end.invariant.within in
    let digits = c.loop-end.invariant.digits in
    let begins : BeginsWithNumber c.args.most c.args.text.now end = record { small = omega arith; ends = ends; number = number } in
    elim c.then-not-is_field_end.branch [
      | then-not-is_field_end-via-then-not-is_field_end w ↦
          elim c.loop-end-test.branch [
            | then-loop-end-test+else-is_ascii_digit v ↦
                let no_space : get_or c.args.text.now c.loop-end.end 0 ≢ space =
                λ is. not_both c.is_field_end.result (c.is_field_end.ensures.1 (within, inr is)) w.if-not-is_field_end.true in
                no_digit_here c.args.most c.loop-end.end end c.args.text.now begins v.loop-end-test.true digits no_space
                (sym v.is_ascii_digit.ensures.value ∙ v.if-is_ascii_digit.false)
            | else-loop-end-test v ↦
                not_both c.is_field_end.result (c.is_field_end.ensures.1 (within, inl (omega (arith, v.loop-end-test.false, within)))) w.if-not-is_field_end.true
          ]
      | then-not-is_field_end-via-else-not-is_field_end+then-not-has_number_form w ↦
          let stands = c.is_field_end.ensures.0 w.if-not-is_field_end.false in
          let same = same_end c.args.most c.loop-end.end end c.args.text.now begins digits stands in
          let form = number_form c.args.most (take c.loop-end.end c.args.text.now) (omega arith) (subst (λ n. IsNumberUpTo c.args.most (take n c.args.text.now)) same number) in
          not_both w.has_number_form.result (w.has_number_form.ensures.only form.0 form.1) w.if-not-has_number_form.true
    ]

pub returns-clause-number : goal.returns-clause-number
returns-clause-number c =
    let so_far = c.loop-end.invariant in (
      digits_are_number c.args.most (take c.loop-end.end c.args.text.now) (omega arith) so_far.digits (c.if-not-has_number_form.ensures.some refl)
          (c.if-not-has_number_form.ensures.zeros refl) (omega (arith, so_far.value, so_far.few)),
      so_far.value,
    )
