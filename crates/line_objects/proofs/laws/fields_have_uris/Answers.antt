use Rattle.line_objects.proofs.EpcFields.{some_uris}
use Rattle.line_objects.proofs.laws.fields_have_uris.Goals as goal

pub returns : goal.returns
returns c = some_uris c.sgtin_laws.ensures.apart c.sgtin_laws.ensures.some
