use Rattle.std.proofs.Common.{◌++◌, ◌∷◌, [], subst, arith}
use Rattle.bit_strings.specs.Ebv.{IsCutEbv}
use Rattle.bit_strings.specs.declared.ebv_front.EbvStep.TheVariants as steps
use Rattle.bit_strings.proofs.EbvReading.{front_as, cut_front, counted, inside_front}
use Rattle.bit_strings.proofs.EbvOneAnswer.{one_step}
use Rattle.bit_strings.proofs.ebv_front.EbvFront.take.Goals as goal

pub begin_block-requires : goal.begin_block-requires
begin_block-requires c = omega (arith, counted c.self.inside.bits c.self.inside.count c.args.self c.self.view_is, c.if-place-eq0.true)

pub end_block-requires : goal.end_block-requires
end_block-requires c = omega (arith, counted c.self.inside.bits c.self.inside.count c.args.self c.self.view_is, c.if-place-eq7.true)

pub with-requires : goal.with-requires
with-requires c =
    let same = counted c.self.inside.bits c.self.inside.count c.args.self c.self.view_is in
    cut_front _ (inside_front c.args.self c.args.bit (front_as _ c.args.self c.self.view_is c.self.invariant.1) (λ none. c.if-place-eq0.false (omega (arith, same, none))) (λ seven. c.if-place-eq7.false (omega (arith, same, seven))))

pub returns-then-place-eq0-clause-begun : goal.returns-then-place-eq0-clause-begun
returns-then-place-eq0-clause-begun c = subst IsCutEbv c.self.view_is c.self.invariant.1

pub returns-then-place-eq0-clause-only : goal.returns-then-place-eq0-clause-only
returns-then-place-eq0-clause-only c = λ other holds. one_step c.begin_block.result other (c.args.self ++ c.args.bit ∷ []) c.begin_block.ensures holds

pub returns-then-place-eq7-clause-begun : goal.returns-then-place-eq7-clause-begun
returns-then-place-eq7-clause-begun c = subst IsCutEbv c.self.view_is c.self.invariant.1

pub returns-then-place-eq7-clause-only : goal.returns-then-place-eq7-clause-only
returns-then-place-eq7-clause-only c = λ other holds. one_step c.end_block.result other (c.args.self ++ c.args.bit ∷ []) c.end_block.ensures holds

pub returns-clause-begun : goal.returns-clause-begun
returns-clause-begun c = subst IsCutEbv c.self.view_is c.self.invariant.1

pub returns-clause-only : goal.returns-clause-only
returns-clause-only c = λ other holds. one_step (steps.More c.with.result) other (c.args.self ++ c.args.bit ∷ []) (c.with.ensures.pushed, subst IsCutEbv c.with.ensures.pushed c.with.ensures.begun) holds
