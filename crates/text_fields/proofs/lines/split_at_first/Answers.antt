-- The slice behind the byte is the rest of the text.
use Rattle.std.proofs.Common.{arith}
use Rattle.std.proofs.lemmas.Grind.{common_steps}
use Rattle.text_fields.proofs.LineLaws.{pieces_between-cut}
use Rattle.text_fields.proofs.lines.split_at_first.Goals as goal

pub returns-clause-pieces : goal.returns-clause-pieces
returns-clause-pieces c =
    let cut = pieces_between-cut c.args.byte c.args.text.now _ _ c.in_ok-end.ensures.first c.in_ok-end.ensures.found in
    grind (arith, common_steps)
