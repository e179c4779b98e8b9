use Rattle.air_world.proofs.Names.{refl, arith}
use Rattle.air_world.proofs.Copies.{few-made}
use Rattle.air_world.proofs.start.set_up.Goals as goal

pub new-requires : goal.new-requires
new-requires c =
    omega (arith, few-made c.args.scenario.now c.args.scenario.now.groups c.in_ok-tags.tags.items c.requires refl c.in_ok-tags.ensures)
