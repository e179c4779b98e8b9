-- That an air which lent a tag out stays as it is.
use Rattle.std.specs.Prelude.{◌≡◌, ⊤}
use Rattle.std.specs.Borrow.{follows_so, MutBor, Fml}
use mathlib.Core.Option.{none}
use Rattle.air_channel.specs.Air.{AirValue}
use Rattle.air_channel.specs.contracts.air.Air.{the_row}

abbrev pub KeepsAir : MutBor AirValue → Fml
KeepsAir air = follows_so the_row the_row air.ghost_name none (λ _ _. ⊤) (λ after. after ≡ air.now)
