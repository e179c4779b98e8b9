-- Profile: what is said of one exchange among what is said of all.
use Rattle.std.specs.Prelude.{ℕ, ◌<◌, ◌==◌, List, [], ◌∷◌, None, if◌then◌else◌}
use Rattle.air_events.specs.declared.Entry.{Entry}

-- nothing is said of an exchange
abbrev pub no_entry : Entry
no_entry = record { events = []; missed = []; choice = None }

-- what is said of the exchange with a number
abbrev pub entry_at : List (ℕ × Entry) → ℕ → Entry
entry_at [] exchange = no_entry
entry_at (entry ∷ entries) exchange = if entry.0 == exchange then entry.1 else entry_at entries exchange

-- the numbers of the exchanges rise, from above the number before
abbrev pub Rises : ℕ → List (ℕ × Entry) → Type 0
Rises before [] = Unit {0}
Rises before (entry ∷ entries) = (before < entry.0) × Rises entry.0 entries
