use Rattle.std.proofs.Common.{◌+◌, ◌*◌, ◌++◌, ◌∷◌, [], ℕ, subst, sym, arith}
use Rattle.bit_strings.specs.Ebv.{IsEbv}
use Rattle.bit_strings.proofs.EbvReading.{front_as, cut_front, room_in, digit_small, value_push, whole_front, nothing_front, open_front}
use Rattle.bit_strings.proofs.ebv_front.EbvFront.end_block.Goals as goal

pub overflow_mul-bits : goal.overflow_mul-bits
overflow_mul-bits c = omega (arith, room_in c.self.inside.bits c.self.inside.count c.args.self c.self.view_is c.self.invariant.0 (front_as _ c.args.self c.self.view_is c.self.invariant.1))

pub overflow_add-bits : goal.overflow_add-bits
overflow_add-bits c = omega (arith, room_in c.self.inside.bits c.self.inside.count c.args.self c.self.view_is c.self.invariant.0 (front_as _ c.args.self c.self.view_is c.self.invariant.1), digit_small c.from.result c.args.bit c.from.ensures)

pub returns-then-bits-eq0 : goal.returns-then-bits-eq0
returns-then-bits-eq0 c =
    let all = value_push c.self.inside.bits c.self.inside.count c.from.result c.args.self c.args.bit c.self.view_is c.self.invariant.0 c.from.ensures in
    let w = whole_front c.args.self c.args.bit (2 * c.self.inside.bits + c.from.result) (front_as _ c.args.self c.self.view_is c.self.invariant.1) c.requires all c.if-bits-eq0.true in
    subst (λ (number : ℕ). IsEbv number (c.args.self ++ c.args.bit ∷ [])) (sym (c.number_of_blocks.ensures w.0 (c.args.self ++ c.args.bit ∷ []) w.1 all)) w.1

pub returns-then-bits-eq-NOTHING : goal.returns-then-bits-eq-NOTHING
returns-then-bits-eq-NOTHING c =
    let all = value_push c.self.inside.bits c.self.inside.count c.from.result c.args.self c.args.bit c.self.view_is c.self.invariant.0 c.from.ensures in
    nothing_front c.args.self c.args.bit (2 * c.self.inside.bits + c.from.result) (front_as _ c.args.self c.self.view_is c.self.invariant.1) c.requires all c.if-bits-eq-NOTHING.true

pub with-requires : goal.with-requires
with-requires c =
    let all = value_push c.self.inside.bits c.self.inside.count c.from.result c.args.self c.args.bit c.self.view_is c.self.invariant.0 c.from.ensures in
    cut_front _ (open_front c.args.self c.args.bit (2 * c.self.inside.bits + c.from.result) (front_as _ c.args.self c.self.view_is c.self.invariant.1) c.requires all c.if-bits-eq0.false c.if-bits-eq-NOTHING.false)
