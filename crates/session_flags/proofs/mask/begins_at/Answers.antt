use Rattle.std.proofs.Common.{◌≡◌, ◌+◌, ◌<◌, Bool, true, false, ◌&&◌, drop, length, get_or, sym, ◌∙◌, ap, arith, slice_get, Some, None}
use Rattle.std.specs.Bool.{beq}
use Rattle.bit_strings.specs.Words.{bits_of_words}
use Rattle.session_flags.specs.MaskMatch.{begins_with}
use Rattle.session_flags.proofs.MaskLaws.{begins_with-bit, begins_with-past}
use Rattle.session_flags.proofs.mask.begins_at.Goals as goal

pub returns-in_default : goal.returns-in_default
returns-in_default c =
    let bits = bits_of_words c.args.words.now in
    let mask = c.args.mask.now in
    let at = c.loop-at.at in
    let same : c.as_slice-want-items.result.now ≡ mask = c.as_slice-want-items.ensures.value in
    let inside : at < length mask = rw (← same) (c.loop-at-test.true) in
    let hit : slice_get bits (c.args.start + at) ≡ Some c.in-Some.bit = cc (c.in-Some.is, c.bit_of_bank.ensures) in
    let differs : beq c.in-Some.bit (get_or mask at false) ≡ false = rw (← same) (c.if-bit-want.false) in
    let step = begins_with-bit bits mask (c.args.start + at) at false c.in-Some.bit hit inside in
    sym (c.loop-at.invariant ∙ step ∙ ap (λ (b : Bool). b && begins_with (drop (c.args.start + at + 1) bits) (drop (at + 1) mask)) differs)

pub returns-in_default-2 : goal.returns-in_default-2
returns-in_default-2 c =
    let bits = bits_of_words c.args.words.now in
    let mask = c.args.mask.now in
    let at = c.loop-at.at in
    let same : c.as_slice-want-items.result.now ≡ mask = c.as_slice-want-items.ensures.value in
    let inside : at < length mask = rw (← same) (c.loop-at-test.true) in
    let miss : slice_get bits (c.args.start + at) ≡ None = cc (c.in_default.is, c.bit_of_bank.ensures) in
    sym (c.loop-at.invariant ∙ begins_with-past bits mask (c.args.start + at) at false miss inside)

pub loop-at-preserved : goal.loop-at-preserved
loop-at-preserved c =
    let bits = bits_of_words c.args.words.now in
    let mask = c.args.mask.now in
    let at = c.loop-at.at in
    let same : c.as_slice-want-items.result.now ≡ mask = c.as_slice-want-items.ensures.value in
    let inside : at < length mask = rw (← same) (c.loop-at-test.true) in
    let hit : slice_get bits (c.args.start + at) ≡ Some c.in-Some.bit = cc (c.in-Some.is, c.bit_of_bank.ensures) in
    let agrees : beq c.in-Some.bit (get_or mask at false) ≡ true = rw (← same) (c.if-bit-want.true) in
    let step = begins_with-bit bits mask (c.args.start + at) at false c.in-Some.bit hit inside in
    let next : c.args.start + at + 1 ≡ c.args.start + (at + 1) = omega arith in
    c.loop-at.invariant ∙ step ∙ ap (λ (b : Bool). b && begins_with (drop (c.args.start + at + 1) bits) (drop (at + 1) mask)) agrees ∙ ap (λ n. begins_with (drop n bits) (drop (at + 1) mask)) next
