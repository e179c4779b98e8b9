use Rattle.std.proofs.Common.{◌++◌, ◌∷◌, [], ◌∙◌, List, Bool, ap, sym, subst, arith, refl}
use Rattle.bit_strings.specs.Ebv.{IsCutEbv}
use Rattle.bit_strings.proofs.EbvReading.{front_as, room, digit_small, field_push, push_below}
use Rattle.bit_strings.proofs.ebv_front.EbvFront.with.Goals as goal

pub overflow_mul-result : goal.overflow_mul-result
overflow_mul-result c = omega (arith, room c.self.inside.bits c.self.inside.count c.args.self c.args.bit c.self.view_is c.self.invariant.0 (front_as _ _ refl c.requires))

pub overflow_add-result : goal.overflow_add-result
overflow_add-result c = omega (arith, room c.self.inside.bits c.self.inside.count c.args.self c.args.bit c.self.view_is c.self.invariant.0 (front_as _ _ refl c.requires), digit_small c.from.result c.args.bit c.from.ensures)

pub overflow_add-result-2 : goal.overflow_add-result-2
overflow_add-result-2 c = omega (arith, room c.self.inside.bits c.self.inside.count c.args.self c.args.bit c.self.view_is c.self.invariant.0 (front_as _ _ refl c.requires))

pub invariant_of-result : goal.invariant_of-result
invariant_of-result c =
    let pushed = field_push c.self.inside.bits c.self.inside.count c.from.result c.args.bit c.self.invariant.0 c.from.ensures ∙ ap (λ (bits : List Bool). bits ++ c.args.bit ∷ []) c.self.view_is in
    (push_below c.self.inside.bits c.self.inside.count c.from.result c.args.bit c.self.invariant.0 c.from.ensures, subst IsCutEbv (sym pushed) c.requires)

pub returns-clause-pushed : goal.returns-clause-pushed
returns-clause-pushed c = field_push c.self.inside.bits c.self.inside.count c.from.result c.args.bit c.self.invariant.0 c.from.ensures ∙ ap (λ (bits : List Bool). bits ++ c.args.bit ∷ []) c.self.view_is

pub returns-clause-begun : goal.returns-clause-begun
returns-clause-begun c = subst IsCutEbv (sym (returns-clause-pushed c)) c.requires
