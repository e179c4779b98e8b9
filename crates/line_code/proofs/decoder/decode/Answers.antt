use Rattle.std.proofs.Common.{sym, ap, ◌∙◌, not}
use Rattle.std.proofs.lemmas.Bool.{false≢true}
use Rattle.bit_strings.specs.BitString.{BitString}
use Rattle.line_code.specs.TableFacts.{CodeTable}
use Rattle.line_code.proofs.Whole.{decided, refused_else, flip_is_none, blocks_are_none}
use Rattle.line_code.proofs.decoder.decode.Goals as goal
use Rattle.line_code.proofs.decoder.decode.Goals.{then-is_err, else-is_err}

pub returns-clause-only : goal.returns-clause-only
returns-clause-only g c = λ bits s.
    let code : CodeTable = record { table = g.C.LineCode.table; chips = g.C.LineCode.CHIPS; even = g.met.C.LineCode.even; tells = g.met.C.LineCode.tells_bits } in
    let answer = decided code c.args.trext c.read-read.result c.as_slice.result.now c.read-read.new.out.items bits
    c.read-read.ensures.ok c.read-read.ensures.refused (c.as_slice.ensures.value ∙ s) in
    elim c.if-is_err.branch [
      | then-is_err w ↦ absurd (false≢true (sym (c.is_err.ensures.negation ∙ ap not w.if-is_err.true) ∙ answer.0))
      | else-is_err w ↦ (answer.0, ap (λ (b : BitString). b.items) w.bits-is ∙ answer.1)
    ]

pub returns-clause-flip : goal.returns-clause-flip
returns-clause-flip g c = λ sent at stream within e.
    let t = g.C.LineCode.table in
    refused_else t c.args.trext c.read-read.result c.as_slice.result.now c.read-read.new.out.items c.read-read.ensures.ok
    (flip_is_none t c.args.trext c.as_slice.result.now sent at g.met.C.LineCode.refuses_flips stream within (c.as_slice.ensures.value ∙ e))

pub returns-clause-no_lead : goal.returns-clause-no_lead
returns-clause-no_lead g c = λ context bits e.
    let t = g.C.LineCode.table in
    refused_else t c.args.trext c.read-read.result c.as_slice.result.now c.read-read.new.out.items c.read-read.ensures.ok
    (blocks_are_none t c.args.trext c.as_slice.result.now context bits g.met.C.LineCode.hides_lead (c.as_slice.ensures.value ∙ e))
