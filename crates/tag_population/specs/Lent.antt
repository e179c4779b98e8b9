-- That a population, and the floor of one, which lent a tag out, stay as they are.
use Rattle.std.specs.Prelude.{◌≡◌, ⊤, List}
use Rattle.std.specs.Borrow.{follows_so, MutBor, Fml}
use mathlib.Core.Option.{none}
use Rattle.tag_population.specs.contracts.floor.Floor as floor
use Rattle.tag_population.specs.contracts.population.Population as population
use Rattle.tag_population.specs.Floor.{FloorValue}
use Rattle.tag_machine.specs.TagValue.{TagValue}

-- the floor is as it was when the loan of its tag ends
abbrev pub KeepsFloor : MutBor FloorValue → Fml
KeepsFloor lender = follows_so floor.the_row floor.the_row lender.ghost_name none (λ _ _. ⊤) (λ after. after ≡ lender.now)

-- the population is as it was when the loan of its tag ends
abbrev pub KeepsPopulation : MutBor (List TagValue) → Fml
KeepsPopulation lender = follows_so population.the_row population.the_row lender.ghost_name none (λ _ _. ⊤) (λ after. after ≡ lender.now)
