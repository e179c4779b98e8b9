-- The commands whose codes begin so, near the front of the codes, where many do.
use Rattle.std.proofs.Common.{refl}
use Rattle.command_grammar.proofs.kinds.code_step.Goals as goal

pub returns-in-Nothing-false-clause-says : goal.returns-in-Nothing-false-clause-says
returns-in-Nothing-false-clause-says c = rw (c.in-Nothing-false.is-0, c.in-Nothing-false.is-1) refl

pub returns-in-Nothing-true-clause-says : goal.returns-in-Nothing-true-clause-says
returns-in-Nothing-true-clause-says c = rw (c.in-Nothing-true.is-0, c.in-Nothing-true.is-1) refl

pub returns-in-Bits0-false-clause-says : goal.returns-in-Bits0-false-clause-says
returns-in-Bits0-false-clause-says c = rw (c.in-Bits0-false.is-0, c.in-Bits0-false.is-1) refl

pub returns-in-Bits0-true-clause-says : goal.returns-in-Bits0-true-clause-says
returns-in-Bits0-true-clause-says c = rw (c.in-Bits0-true.is-0, c.in-Bits0-true.is-1) refl

pub returns-in-Bits1-false-clause-says : goal.returns-in-Bits1-false-clause-says
returns-in-Bits1-false-clause-says c = rw (c.in-Bits1-false.is-0, c.in-Bits1-false.is-1) refl

pub returns-in-Bits1-true-clause-says : goal.returns-in-Bits1-true-clause-says
returns-in-Bits1-true-clause-says c = rw (c.in-Bits1-true.is-0, c.in-Bits1-true.is-1) refl
