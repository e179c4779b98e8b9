-- The second 16 levels are the high half.
use Rattle.std.proofs.Common.{◌≡◌, ◌∙◌, ◌-◌, ◌*◌, ◌+◌, ◌%◌, ◌<◌, ℕ, length, take, drop, take_all, ap, arith}
use Rattle.std.specs.Prelude.{bit_or}
use Rattle.std.specs.Simd.Lanes.{mask_l}
use Rattle.std.proofs.lemmas.List.{length-drop, length-take-le, take-append-drop}
use Rattle.std.proofs.lemmas.Nat.{or_shifted}
use Rattle.line_code.proofs.MasksLemmas.{mask-append}
use Rattle.fm0_line.proofs.fm0.word_of.Goals as goal

joined : (high low : ℕ) → high < 65536 → low < 65536 → bit_or (high * 65536 % 4294967296) low ≡ high * 65536 + low
joined high low high_small low_small = ap (λ (n : ℕ). bit_or n low) (omega (arith, high_small)) ∙ or_shifted high 16 low low_small

pub returns : goal.returns
returns c =
    let levels = c.args.levels.now in
    let all = take_all (length levels - 16) (drop 16 levels) (omega (arith, length-drop 16 levels)) in
    let low : c.from-2.result ≡ mask_l (take 16 levels) = c.from-2.ensures ∙ c.word_of_levels-first.ensures in
    let high : c.from.result ≡ mask_l (drop 16 levels) = c.from.ensures ∙ c.word_of_levels-second.ensures ∙ ap mask_l all in
    let low_small : c.from-2.result < 65536 = omega (arith, c.from-2.ensures, c.word_of_levels-first.type_inv) in
    let high_small : c.from.result < 65536 = omega (arith, c.from.ensures, c.word_of_levels-second.type_inv) in
    let halves = mask-append (take 16 levels) (drop 16 levels) 16 (length-take-le 16 levels (omega (arith, c.requires))) in
    let whole = ap mask_l (take-append-drop 16 levels) in
    omega (arith, joined c.from.result c.from-2.result high_small low_small, low, high, halves, whole)
