use Rattle.line_code.specs.laws.Lead.{seeks_short}
use Rattle.line_code.proofs.states.Seeking.end.Goals as goal

pub returns-clause-refused : goal.returns-clause-refused
returns-clause-refused g c = rw (← c.self.view_is) (λ trext levels s. seeks_short g.C.LineCode.table trext _ levels s)
