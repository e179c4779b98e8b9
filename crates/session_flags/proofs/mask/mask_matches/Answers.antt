use Rattle.std.proofs.Common.{◌≡◌, ◌<◌, ◌≤◌, false, length, drop, arith, nat_le}
use Rattle.std.proofs.lemmas.Bool.Decides.{nat_tests}
use Rattle.std.specs.Int.{div_ceil}
use Rattle.bit_strings.specs.Words.{bits_of_words}
use Rattle.session_flags.specs.MaskMatch.{begins_with}
use Rattle.session_flags.proofs.MaskLaws.{match_is, match_past, rounded_up, rounded_past}
use Rattle.session_flags.proofs.mask.mask_matches.Goals as goal

pub returns-then-div_ceil-words : goal.returns-then-div_ceil-words
returns-then-div_ceil-words c =
    let words = c.args.words.now in
    let start : c.get-start.result ≡ c.args.pointer = c.get-start.ensures.value in
    let enough : div_ceil c.args.pointer 16 ≤ length words = rw (← start, ← c.div_ceil.ensures) (c.if-div_ceil-words.true) in
    let compared : c.begins_at.result ≡ begins_with (drop c.args.pointer (bits_of_words words)) c.args.mask.now = rw (← start) (c.begins_at.ensures) in
    let both = match_is words c.args.pointer c.args.mask.now c.begins_at.result (rounded_up c.args.pointer (length words) enough) compared in
    record { value = both.0; meaning = both.1 }

pub returns-else-div_ceil-words : goal.returns-else-div_ceil-words
returns-else-div_ceil-words c =
    let words = c.args.words.now in
    let start : c.get-start.result ≡ c.args.pointer = c.get-start.ensures.value in
    let few : length words < div_ceil c.args.pointer 16 = rw (← start, ← c.div_ceil.ensures) (c.if-div_ceil-words.false) in
    let never : nat_le c.div_ceil.result (length words) ≡ false = grind (arith, nat_tests, c.if-div_ceil-words.false) in
    let both = match_past words c.args.pointer c.args.mask.now (nat_le c.div_ceil.result (length words)) (rounded_past c.args.pointer (length words) few) never in
    record { value = both.0; meaning = both.1 }
