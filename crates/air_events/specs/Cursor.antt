-- Profile: what is said of the exchanges that a run still has to play, which it plays in the order of their numbers.
use Rattle.std.specs.Prelude.{◌≡◌, ℕ, ◌<◌, List}
use Rattle.air_events.specs.declared.Entry.{Entry}
use Rattle.air_events.specs.Entries.{Rises, entry_at}

-- after so many exchanges, this is what is left of all that is said: it speaks of later exchanges alone, and of each of
-- them as the whole does
pub record AreEntriesLeft (left entries : List (ℕ × Entry)) (played : ℕ) : Type 0 where
  pub rises : Rises played left
  pub same : (exchange : ℕ) → played < exchange → entry_at left exchange ≡ entry_at entries exchange
