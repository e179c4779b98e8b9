use Rattle.std.proofs.Common.{◌≡◌, ◌∙◌, ◌+◌, ◌-◌, ◌≤◌, ◌<◌, ◌++◌, ◌∷◌, [], ℕ, length, get_or, false, List, Bool, ap, sym, subst, arith}
use Rattle.bit_strings.specs.NumbersInBits.{part_of}
use Rattle.bit_strings.specs.Ebv.{IsTooLong, BeginsWithNothing, IsCutEbv}
use Rattle.bit_strings.proofs.EbvReading.{read_more, read_value, read_nothing, read_too_long}
use Rattle.bit_strings.proofs.bits.Bits.read_vector.Goals as goal

-- the bits with the one that is read
bit_read : (items front slice : List Bool) (from at : ℕ) → (front ≡ part_of items from (at - from)) × (from ≤ at) × IsCutEbv front → at < length items → slice ≡ items
    → front ++ get_or slice at false ∷ [] ≡ part_of items from (at + 1 - from)
bit_read items front slice from at so_far inside same =
    read_more items front from at _ false (record { is = so_far.0; forward = so_far.1; inside = inside }) (ap (λ (l : List Bool). get_or l at false) same)

pub returns-in-Value : goal.returns-in-Value
returns-in-Value c =
    let inside : c.loop-at.at < length c.args.self.now.items = omega (arith, c.loop-at-test.true, c.len-at-end.ensures.count) in
    let read = bit_read c.args.self.now.items c.loop-at.front c.as_slice.result.now c.args.from c.loop-at.at c.loop-at.invariant inside c.as_slice.ensures.value in
    read_value c.args.self.now.items _ c.args.from c.loop-at.at c.in-Value.value c.loop-at.invariant.1 inside read c.in-Value.ensures.answer

pub returns-in-NotShortest : goal.returns-in-NotShortest
returns-in-NotShortest c =
    let read = bit_read c.args.self.now.items c.loop-at.front c.as_slice.result.now c.args.from c.loop-at.at c.loop-at.invariant (omega (arith, c.loop-at-test.true, c.len-at-end.ensures.count)) c.as_slice.ensures.value in
    read_nothing c.args.self.now.items c.args.from (c.loop-at.at + 1 - c.args.from) (subst BeginsWithNothing read c.in-NotShortest.ensures.answer)

pub returns-in-TooLong : goal.returns-in-TooLong
returns-in-TooLong c =
    let read = bit_read c.args.self.now.items c.loop-at.front c.as_slice.result.now c.args.from c.loop-at.at c.loop-at.invariant (omega (arith, c.loop-at-test.true, c.len-at-end.ensures.count)) c.as_slice.ensures.value in
    read_too_long c.args.self.now.items c.args.from (c.loop-at.at + 1 - c.args.from) (subst IsTooLong read c.in-TooLong.ensures.answer)

pub loop-at-preserved : goal.loop-at-preserved
loop-at-preserved c =
    let read = bit_read c.args.self.now.items c.loop-at.front c.as_slice.result.now c.args.from c.loop-at.at c.loop-at.invariant (omega (arith, c.loop-at-test.true, c.len-at-end.ensures.count)) c.as_slice.ensures.value in
    let front = c.in-More.ensures.answer in
    (front.0 ∙ read, omega arith, subst IsCutEbv (sym front.0) front.1)
