use Rattle.std.proofs.Common.{true, [], ◌∷◌, ◌++◌, length, ap, ◌∙◌, refl, arith, length-append}
use Rattle.std.proofs.lemmas.Bool.{both_ways}
use Rattle.line_code.specs.TableFacts.{CodeTable}
use Rattle.line_code.specs.laws.Reading.{reads_short, reads_whole}
use Rattle.line_code.proofs.Buffer.{popped}
use Rattle.line_code.proofs.states.Inside.end.Goals as goal

pub returns-then-not-is_whole-clause-answer : goal.returns-then-not-is_whole-clause-answer
returns-then-not-is_whole-clause-answer g c =
    let code : CodeTable = record { table = g.C.LineCode.table; chips = g.C.LineCode.CHIPS; even = g.met.C.LineCode.even; tells = g.met.C.LineCode.tells_bits } in
    rw (← c.self.view_is) (λ trext levels bits stood r e. (
      reads_short code trext _ levels bits r
          (λ whole. both_ways c.is_whole.result c.if-not-is_whole.true (c.is_whole.ensures.1 whole)),
      refl,
    ))

pub returns-clause-answer : goal.returns-clause-answer
returns-clause-answer g c =
    rw (← c.self.view_is) (λ trext levels bits stood r e.
    let whole = c.is_whole.ensures.0 c.if-not-is_whole.false in
    let f = reads_whole g.C.LineCode.table trext _ levels bits r whole.0 whole.1 in (
      f.front,
      record {
        stream = f.stream;
        bits_is = let size = ap length f.bits_are in let more = length-append f.front (true ∷ []) in let put = r.put_is in omega arith;
      },
      popped c.pop-dummy.result c.args.out.now c.pop-dummy.new.self stood f.front c.pop-dummy.ensures.some c.pop-dummy.ensures.none (e ∙ ap (λ bs. stood ++ bs) f.bits_are),
    ))
