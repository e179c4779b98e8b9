-- Profile: a past has, beside events and the records of exchanges, what the interrogator concludes from them: the results of operations and the
-- ends of rounds.
use Rattle.std.specs.Prelude.{◌≡◌, List, [], ◌∷◌, ◌++◌}
use Rattle.air_model.specs.Past.{Item, befell, exchanged, operated, ended}

-- the events and the records of a past alone, the latest first
abbrev pub events_and_records_of : List Item → List Item
events_and_records_of [] = []
events_and_records_of (befell event number ∷ past) = befell event number ∷ events_and_records_of past
events_and_records_of (exchanged sent ∷ past) = exchanged sent ∷ events_and_records_of past
events_and_records_of (operated round slot index result ∷ past) = events_and_records_of past
events_and_records_of (ended round end slots ∷ past) = events_and_records_of past

-- what was added to the past is results of operations and ends of rounds alone
pub record IsConcluded (past behind : List Item) : Type 0 where
  pub own : List Item
  pub none : events_and_records_of own ≡ []
  pub is : behind ≡ own ++ past
