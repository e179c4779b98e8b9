use Rattle.std.proofs.lemmas.Bool.{ne_eqb}
use Rattle.scenario.proofs.printing.push_group.Goals as goal

pub returns-then-group-eq1 : goal.returns-then-group-eq1
returns-then-group-eq1 c = rw c.if-group-eq1.true c.push_tag.ensures

pub returns-else-group-eq1 : goal.returns-else-group-eq1
returns-else-group-eq1 c = rw (ne_eqb c.args.group.now.count 1 c.if-group-eq1.false) c.push_copies.ensures
