use Rattle.std.proofs.Common.{◌≡◌, Bool, List, false, arith, sym, subst, take}
use Rattle.std.proofs.lemmas.List.{take_all, take_more}
use Rattle.command_grammar.specs.reading.Framing.{FramerStandsFor}
use Rattle.command_grammar.proofs.reader.decoding.decode_command_to.Goals as goal

pub loop-bit-preserved : goal.loop-bit-preserved
loop-bit-preserved c = record {
  stands = subst (λ (bits : List Bool). FramerStandsFor c.push.new.self bits) (sym (take_more c.args.bits.now c.loop-bit.bit-index false c.loop-bit-test.true))
      (c.push.ensures.stands (take c.loop-bit.bit-index c.args.bits.now) c.loop-bit.invariant.stands);
}

pub returns : goal.returns
returns c =
    let whole : take c.loop-bit.bit-index c.args.bits.now ≡ c.args.bits.now = take_all c.loop-bit.bit-index c.args.bits.now (omega (arith, c.loop-bit-test.false)) in
    let stands = subst (λ (bits : List Bool). FramerStandsFor c.loop-bit.framer bits) whole c.loop-bit.invariant.stands in
    record { answer = c.finish_to.ensures.finishes c.args.bits.now stands; only = λ command. c.finish_to.ensures.only c.args.bits.now command stands }
