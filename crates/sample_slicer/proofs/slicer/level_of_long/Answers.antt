-- The first and the last samples are all samples of a group.
use Rattle.std.proofs.Common.{◌≡◌, ◌+◌, ◌-◌, ◌≤◌, length, take, drop, arith, ap, sym, ◌∙◌}
use Rattle.std.proofs.lemmas.List.{length-drop, take-take}
use Rattle.std.proofs.lemmas.Option.{IfSome_then}
use Rattle.sample_slicer.specs.Masks.{sample_mask_of}
use Rattle.sample_slicer.proofs.Masks.{all_lanes, long_pure, long_front, long_mixed, none_then}
use Rattle.sample_slicer.proofs.slicer.level_of_long.Goals as goal

pub returns-then-first-last-clause-pure : goal.returns-then-first-last-clause-pure
returns-then-first-last-clause-pure c =
    let group = c.args.group.now in
    let back = length group - 32 in
    let stands : back + 32 ≡ length group = omega (arith, c.requires.least) in
    let behind : 32 ≤ length (drop back group) = rw length-drop (omega (arith, stands)) in
    let last : c.high_samples-last.result ≡ sample_mask_of c.args.threshold (take 32 (drop back group)) =
    c.high_samples-last.ensures ∙ ap (sample_mask_of c.args.threshold) (take-take 32 (length group - back) (drop back group) (omega (arith, stands))) in
    IfSome_then c.level_of_mask.result c.level_of_mask.ensures.pure (λ level gives.
    long_pure c.args.threshold back level group c.requires.least c.requires.most stands
    (gives c.args.threshold (take 32 group) c.high_samples-first.ensures (all_lanes group c.requires.least))
    (gives c.args.threshold (take 32 (drop back group)) (c.if-first-last.true ∙ last) (all_lanes (drop back group) behind)))

pub returns-then-first-last-clause-mixed : goal.returns-then-first-last-clause-mixed
returns-then-first-last-clause-mixed c =
    let group = c.args.group.now in
    none_then c.level_of_mask.result c.level_of_mask.ensures.mixed (λ none level pure.
    none c.args.threshold (take 32 group) c.high_samples-first.ensures (all_lanes group c.requires.least) level (long_front c.args.threshold level group pure))

pub returns-else-first-last-clause-mixed : goal.returns-else-first-last-clause-mixed
returns-else-first-last-clause-mixed c =
    let group = c.args.group.now in
    let back = length group - 32 in
    let stands : back + 32 ≡ length group = omega (arith, c.requires.least) in
    let last : c.high_samples-last.result ≡ sample_mask_of c.args.threshold (take 32 (drop back group)) =
    c.high_samples-last.ensures ∙ ap (sample_mask_of c.args.threshold) (take-take 32 (length group - back) (drop back group) (omega (arith, stands))) in
    long_mixed c.args.threshold back group c.requires.least stands (λ same. c.if-first-last.false (c.high_samples-first.ensures ∙ same ∙ sym last))
