use Rattle.std.proofs.Common.{◌≡◌, ◌∷◌, arith, inr, subst}
use Rattle.text_fields.specs.Lines.{fields_of}
use Rattle.checked_lines.specs.declared.fault.FaultReason.TheVariants.{Word}
use Rattle.decode_lines.specs.Request.{request_word}
use Rattle.decode_lines.specs.declared.request.RequestKind.{RequestKind}
use Rattle.decode_lines.proofs.AskedOrFaulty.{by_intervals, by_others}
use Rattle.decode_lines.proofs.laws.lines_ask_or_are_faulty.Goals as goal

pub returns-in_default : goal.returns-in_default
returns-in_default c = inr (Word, c.in_default.ensures.none)

pub returns-in-Pie : goal.returns-in-Pie
returns-in-Pie c =
    let fields = subst (λ (kind : RequestKind). fields_of c.args.line.now ≡ request_word kind ∷ c.in-Some.others) c.in-Pie.is c.in-Some.ensures.some in
    by_intervals c.args.line.now c.in-Some.others fields (c.numbers_or_refused.ensures 20000 999999 c.in-Some.others (omega arith))

pub returns : goal.returns
returns c = by_others c.args.line.now c.in-Some.kind c.in-Some.others c.request_of.result c.in-Some.ensures.some c.request_of.ensures.ok c.request_of.ensures.refused
