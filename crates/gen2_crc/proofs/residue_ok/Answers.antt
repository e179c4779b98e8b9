use Rattle.std.proofs.Common.{[], subst}
use Rattle.gen2_crc.specs.Crc.{RegisterStandsFor}
use Rattle.gen2_crc.proofs.Residue.{residue_message}
use Rattle.gen2_crc.proofs.residue_ok.Goals as goal

pub returns-clause-message : goal.returns-clause-message
returns-clause-message c = λ front last split long.
    let register = c.is_residue.ensures c.args.bits.now.items (subst (RegisterStandsFor c.push_all.new.self) c.as_slice.ensures.value (c.push_all.ensures [] c.new-crc.ensures)) in
    let message = residue_message c.args.bits.now.items front last split long in
    (λ test. message.0 (register.0 test), λ ends. register.1 (message.1 ends))
