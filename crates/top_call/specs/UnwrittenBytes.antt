-- Profile: bytes that wait on a page until they are written.
use Rattle.std.specs.Prelude.{◌≡◌, ℕ, List, ◌++◌, Option}
use Rattle.air_io.specs.Flow.{Adds}

-- of the bytes that waited a front was written, and the others wait
pub record WritesWaiting (waited waits : List ℕ) (written written' : Option (List ℕ)) : Type 0 where
  pub sent : List ℕ
  pub all : waited ≡ sent ++ waits
  pub added : Adds written written' sent

-- of the bytes that waited a front was written, and the others are lost
pub record Loses (waited : List ℕ) (written written' : Option (List ℕ)) : Type 0 where
  pub sent : List ℕ
  pub lost : List ℕ
  pub all : waited ≡ sent ++ lost
  pub added : Adds written written' sent
