-- The words of the first four and of the last four digits spell a payload.
use Rattle.std.proofs.Common.{◌≡◌, ◌+◌, ◌*◌, ◌/◌, length, arith, rules, ◌∙◌}
use Rattle.wire_text.proofs.PayloadDigits.{HasWords, no_upper, not_found, payload_is, payload_made, payload_words, spelled_payload}
use Rattle.wire_text.proofs.payloads.payload_of.Goals as goal

pub returns-in_err-word-clause-only : goal.returns-in_err-word-clause-only
returns-in_err-word-clause-only c = λ n small spells.
    absurd (not_found (c.in_err-word.ensures.only (n / 16) (omega arith) (c.split_at.ensures.front ∙ no_upper c.args.field.now n small spells)))

pub returns-clause-value : goal.returns-clause-value
returns-clause-value c =
    let five : length c.args.field.now ≡ 5 = search rules in
    let words : HasWords c.args.field.now c.from-first.result c.from-others.result =
    record { high = search rules; low = search rules; first = search rules; others = search rules } in
    payload_is c.args.field.now c.new.result (c.from-first.result / 4096 * 65536 + c.from-others.result)
    (spelled_payload c.args.field.now c.from-first.result c.from-others.result five words) (omega (arith, words.high, words.low)) c.new.ensures.some

pub returns-clause-only : goal.returns-clause-only
returns-clause-only c = λ n small spells.
    let words : HasWords c.args.field.now c.from-first.result c.from-others.result =
    record { high = search rules; low = search rules; first = search rules; others = search rules } in
    payload_made c.new.result (c.from-first.result / 4096 * 65536 + c.from-others.result) n small
    (payload_words c.args.field.now c.from-first.result c.from-others.result n small words spells) c.new.ensures.some c.new.ensures.none.0
