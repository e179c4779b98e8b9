use Rattle.std.proofs.Common.{ap, length, arith}
use Rattle.std.proofs.lemmas.List.{length-map}
use Rattle.bit_strings.specs.NumbersInBits.{digit_of}
use Rattle.fm0_line.specs.Stays.{odds}
use Rattle.fm0_line.proofs.Places.{told, length-odds}
use Rattle.fm0_line.proofs.fm0.bits_of_middles.Goals as goal

pub returns : goal.returns
returns c = λ places long is.
    let digits = c.digits_of_middles-digits.ensures places long is in
    told c.loop-at.bits (odds places) c.digits_of_middles-digits.result c.loop-at.at (omega (arith, c.loop-at.invariant.count))
    (omega (arith, ap length digits, length-map (odds places) digit_of, length-odds 16 places long)) c.loop-at.invariant.written digits
