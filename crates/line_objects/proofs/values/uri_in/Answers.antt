use Rattle.std.proofs.Common.{◌∙◌, Some, None}
use Rattle.line_objects.proofs.EpcFields.{one_uri}
use Rattle.line_objects.proofs.values.uri_in.Goals as goal

pub returns-in_err-sgtin : goal.returns-in_err-sgtin
returns-in_err-sgtin c uris are =
    let field = c.args.field.now in
    c.from_residual.ensures ∙ one_uri c.sgtin_laws.ensures.one_sgtin field None (uris field) c.in_err-sgtin.ensures.none (are field)

pub returns : goal.returns
returns c uris are =
    let field = c.args.field.now in
    one_uri c.sgtin_laws.ensures.one_sgtin field (Some c.write_uri.new.out) (uris field)
    (c.in_ok-sgtin.sgtin, c.in_ok-sgtin.ensures.some, c.write_uri.ensures.spelled) (are field)
