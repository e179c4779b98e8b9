use Rattle.std.proofs.Common.{eq-eqb}
use Rattle.std.proofs.lemmas.Bool.{eqb-true}
use Rattle.gen2_crc.proofs.Registers.{stands_residue}
use Rattle.gen2_crc.proofs.register.Crc16.is_residue.Goals as goal

pub returns : goal.returns
returns c = rw (← c.self.view_is) (λ bits stands.
    let ways = stands_residue c.self.inside.register bits stands in
    (λ test. ways.0 (eqb-true c.self.inside.register 7439 test), λ same. eq-eqb c.self.inside.register 7439 (ways.1 same)))
