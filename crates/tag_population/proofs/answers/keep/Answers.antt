use Rattle.std.proofs.Common.{◌+◌, ◌∙◌, ap, arith, length, length-append, Bool, List}
use Rattle.bit_strings.specs.BitString.{BitString}
use Rattle.tag_population.proofs.KeptAnswers.{kept_more}
use Rattle.tag_population.proofs.answers.keep.Goals as goal

pub returns-clause-answers : goal.returns-clause-answers
returns-clause-answers c =
    let bits = c.args.bits.now.items in
    rw (c.push_reserved.ensures, c.put_all_reserved.ensures, c.as_slice.ensures.value)
    (kept_more bits c.args.answer.now.items c.args.kept.now.items _ c.requires.are (omega (arith, c.len-start.ensures.count))
    (c.len-end.ensures.count
    ∙ ap (λ (b : BitString). length b.items) c.put_all_reserved.ensures
    ∙ length-append bits c.as_slice.result.now
    ∙ ap (λ (l : List Bool). length bits + length l) c.as_slice.ensures.value))
