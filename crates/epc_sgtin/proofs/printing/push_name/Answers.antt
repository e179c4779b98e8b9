-- A URI is ASCII, and so text.
use Rattle.std.proofs.lemmas.Str.{IsUtf8-from_ascii}
use Rattle.epc_sgtin.proofs.printing.push_name.Goals as goal

pub unreachable-requires : goal.unreachable-requires
unreachable-requires c =
    c.in-Err.ensures.cases.0 (rw (c.as_slice.ensures.value, c.write_uri.ensures.spelled) (IsUtf8-from_ascii _ (c.uri_laws.ensures.ascii c.args.sgtin.now c.write_uri.ensures.legal)))
