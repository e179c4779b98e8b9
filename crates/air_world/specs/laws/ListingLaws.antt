-- What is kept of lines that list nothing.
use Rattle.std.proofs.Common.{ℕ, List, [], sym, ap, append-nil}
use Rattle.air_world.specs.Listing.{HearsPairs}
use Rattle.bit_strings.specs.ItemList.{ItemList}

-- where nothing was told nothing is kept
pub hears-no-pair : (list : ItemList (ℕ × List ℕ)) → HearsPairs [] list list
hears-no-pair list = λ room. ap (λ (items : List (ℕ × List ℕ)). record list { items = items }) (sym (append-nil list.items))
