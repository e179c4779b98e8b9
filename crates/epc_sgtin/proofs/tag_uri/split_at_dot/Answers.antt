-- The first dot cuts the first piece off.
use Rattle.std.proofs.Common.{arith}
use Rattle.std.proofs.lemmas.Grind.{common_steps}
use Rattle.epc_sgtin.specs.Uri.{dot}
use Rattle.text_fields.proofs.LineLaws.{pieces_between-cut, whole_piece}
use Rattle.epc_sgtin.proofs.tag_uri.split_at_dot.Goals as goal

pub returns-in_err-end-clause-none : goal.returns-in_err-end-clause-none
returns-in_err-end-clause-none c = rw c.from_residual.ensures (whole_piece dot c.args.text.now c.in_err-end.ensures.none)

pub returns-clause-pieces : goal.returns-clause-pieces
returns-clause-pieces c =
    let cut = pieces_between-cut dot c.args.text.now _ _ c.in_ok-end.ensures.first c.in_ok-end.ensures.found in
    grind (arith, common_steps)
