-- A part that writes a serial has the digits of its number, and no more.
use Rattle.std.proofs.Common.{arith}
use Rattle.std.proofs.lemmas.Bool.Decides.{nat_tests}
use Rattle.epc_sgtin.proofs.UriReading.{serial_short, serial_digits, serial_number, own_width}
use Rattle.epc_sgtin.proofs.tag_uri.serial_of.Goals as goal
use Rattle.epc_sgtin.proofs.tag_uri.serial_of.Goals.{then-is_empty-via-then-is_empty, then-is_empty-via-else-is_empty+then-part-gt-MOST_DIGITS, else-serial-lt-SERIALS-via-then-serial-lt-SERIALS+else-digit_count-part, else-serial-lt-SERIALS-via-else-serial-lt-SERIALS}

pub returns-then-is_empty-clause-none : goal.returns-then-is_empty-clause-none
returns-then-is_empty-clause-none c = λ is.
    let short = serial_short c.args.part.now is in
    elim c.then-is_empty.branch [
      | then-is_empty-via-then-is_empty w ↦ grind (arith, nat_tests)
      | then-is_empty-via-else-is_empty+then-part-gt-MOST_DIGITS w ↦ omega arith
    ]

pub returns-in_err-serial-clause-none : goal.returns-in_err-serial-clause-none
returns-in_err-serial-clause-none c = rw c.from_residual.ensures (λ is. c.in_err-serial.ensures.none (serial_digits c.args.part.now is))

pub returns-else-serial-lt-SERIALS-clause-none : goal.returns-else-serial-lt-SERIALS-clause-none
returns-else-serial-lt-SERIALS-clause-none c = λ is.
    let spelled = serial_number c.args.part.now c.in_ok-serial.serial is c.in_ok-serial.ensures.below c.in_ok-serial.ensures.spelled in
    elim c.else-serial-lt-SERIALS.branch [
      | else-serial-lt-SERIALS-via-then-serial-lt-SERIALS+else-digit_count-part w ↦
          w.if-digit_count-part.false (own_width c.args.part.now c.in_ok-serial.serial w.digit_count.result spelled.1 w.digit_count.ensures.spelled)
      | else-serial-lt-SERIALS-via-else-serial-lt-SERIALS w ↦ omega arith
    ]
