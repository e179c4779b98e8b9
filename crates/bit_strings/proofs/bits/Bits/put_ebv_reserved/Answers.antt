use Rattle.std.proofs.Common.{◌-◌, ◌++◌, ap, sym, refl, arith, length-append, List, Bool}
use Rattle.bit_strings.specs.laws.NumbersInBits.{length-field_of}
use Rattle.bit_strings.proofs.Digits.{same_string}
use Rattle.bit_strings.proofs.EbvWriting.{ebv_of-blocks, block_more, blocks_all}
use Rattle.bit_strings.proofs.bits.Bits.put_ebv_reserved.Goals as goal

pub loop-left-init : goal.loop-left-init
loop-left-init c = (
  ap (λ (more : List Bool). c.args.self.now.items ++ more) (sym (ebv_of-blocks c.args.value c.blocks_of-left.result c.blocks_of-left.ensures.count)),
  omega arith,
  refl,
  omega arith,
)

pub loop-left-preserved : goal.loop-left-preserved
loop-left-preserved c =
    rw (c.put_field_reserved.ensures, c.push_reserved.ensures) (
      block_more c.loop-left.self.items _ c.args.value c.loop-left.left (c.loop-left.left - 1) (omega arith) (omega arith) c.loop-left.invariant.0,
      simp (length-append, length-field_of) (omega arith),
      omega arith,
      omega arith,
    )

pub returns : goal.returns
returns c =
    let items = blocks_all c.loop-left.self.items _ c.args.value c.loop-left.left c.loop-left-test.false c.loop-left.invariant.0 in
    same_string c.loop-left.self _ _ items c.loop-left.invariant.2
