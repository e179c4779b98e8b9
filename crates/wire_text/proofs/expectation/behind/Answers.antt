-- What `strip_prefix` says of bytes.
use Rattle.std.proofs.lemmas.Bool.Decides.{Decides-eqb}
use Rattle.std.proofs.lemmas.Slice.Eq.{strip_prefix_is}
use Rattle.wire_text.proofs.Cuts.{stripped}
use Rattle.wire_text.proofs.expectation.behind.Goals as goal

pub returns-clause-value : goal.returns-clause-value
returns-clause-value c =
    (stripped c.args.text.now c.args.front.now c.strip_prefix.result (strip_prefix_is Decides-eqb c.args.text.now c.args.front.now c.strip_prefix.result c.strip_prefix.ensures.cases)).0

pub returns-clause-only : goal.returns-clause-only
returns-clause-only c =
    (stripped c.args.text.now c.args.front.now c.strip_prefix.result (strip_prefix_is Decides-eqb c.args.text.now c.args.front.now c.strip_prefix.result c.strip_prefix.ensures.cases)).1
