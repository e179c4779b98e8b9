use Rattle.std.proofs.Common.{◌∙◌, inl, inr, arith}
use Rattle.bit_strings.proofs.EbvReading.{front_as, cut_front, begun_front, too_long_front, counted}
use Rattle.bit_strings.proofs.ebv_front.EbvFront.begin_block.Goals as goal
use Rattle.bit_strings.proofs.ebv_front.EbvFront.begin_block.Goals.{else-bit-via-then-bit+else-self-eq24, else-bit-via-else-bit}

pub returns-then-self-eq24 : goal.returns-then-self-eq24
returns-then-self-eq24 c =
    too_long_front c.args.self c.args.bit (front_as _ c.args.self c.self.view_is c.self.invariant.1) (omega (arith, counted c.self.inside.bits c.self.inside.count c.args.self c.self.view_is, c.if-self-eq24.true)) c.if-bit.true

pub with-requires : goal.with-requires
with-requires c =
    cut_front _ (begun_front c.args.self c.args.bit (front_as _ c.args.self c.self.view_is c.self.invariant.1) c.requires
    (elim c.else-bit.branch [
      | else-bit-via-then-bit+else-self-eq24 w ↦ inr (λ all. w.if-self-eq24.false (counted c.self.inside.bits c.self.inside.count c.args.self c.self.view_is ∙ all))
      | else-bit-via-else-bit w ↦ inl w.if-bit.false
    ]))
