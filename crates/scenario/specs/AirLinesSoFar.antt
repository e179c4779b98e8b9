-- Profile: what the air lines of a scenario have said so far.
use Rattle.std.specs.Prelude.{◌≡◌, ℕ, zero, suc, ◌+◌, ◌≤◌, ◌==◌, List, [], ◌∷◌, ◌++◌, length, Some, None, if◌then◌else◌}
use Rattle.air_events.specs.declared.Entry.{Entry}
use Rattle.air_events.specs.Entries.{no_entry}
use Rattle.scenario_lines.specs.declared.line.Happening.{Happening}
use Rattle.scenario_lines.specs.declared.line.Happening.TheVariants as happenings
use Rattle.scenario_lines.specs.declared.line.Line.{Line}
use Rattle.scenario_lines.specs.declared.line.Line.TheVariants as lines
use Rattle.scenario.specs.Limits.{most_air_lines}

-- The exchange of the last air line stands apart, since more may be said of it; its number is 0 where there is no air line.
pub record AirLinesValue : Type 0 where
  -- how many air lines the scenario has so far
  pub count : ℕ
  -- what is said of the exchanges before the last one
  pub closed : List (ℕ × Entry)
  -- the number of the last exchange, and what is said of it
  pub exchange : ℕ
  pub latest : Entry

abbrev pub no_air_lines : AirLinesValue
no_air_lines = record { count = 0; closed = []; exchange = 0; latest = no_entry }

-- what is said of the last exchange, where there is one
abbrev pub last_entry : ℕ → Entry → List (ℕ × Entry)
last_entry zero latest = []
last_entry (suc before) latest = (suc before, latest) ∷ []

-- what the air lines have said of all exchanges so far
abbrev pub entries_of : AirLinesValue → List (ℕ × Entry)
entries_of air = air.closed ++ last_entry air.exchange air.latest

-- the air lines, and what they say of exchanges, are no more than the limits of a scenario allow
pub record AreFewAirLines (air : AirLinesValue) : Type 0 where
  pub lines : air.count ≤ most_air_lines
  pub entries : length (entries_of air) ≤ air.count
  pub events : length air.latest.events ≤ air.count
  pub missed : length air.latest.missed ≤ air.count

-- what may still be said of an exchange: events come before misses, and these before the choice
abbrev pub MayFollow : Entry → Happening → Type 0
MayFollow entry (happenings.Event event tag) = (entry.missed ≡ []) × (entry.choice ≡ None)
MayFollow entry (happenings.Miss tag) = entry.choice ≡ None
MayFollow entry (happenings.Choice choice) = Unit {0}

-- the number of an air line's exchange doesn't fall, and what it says of the same exchange comes in order
abbrev pub KeepsOrder : AirLinesValue → Line → Type 0
KeepsOrder air (lines.Air exchange happening) = (air.exchange ≤ exchange) × (exchange ≡ air.exchange → MayFollow air.latest happening)
KeepsOrder air line = Unit {0}

-- it is no second choice for its exchange
abbrev pub ChoosesOnce : AirLinesValue → Line → Type 0
ChoosesOnce air (lines.Air exchange (happenings.Choice choice)) = exchange ≡ air.exchange → air.latest.choice ≡ None
ChoosesOnce air line = Unit {0}

-- what is said of one exchange, with one thing more
abbrev pub with_happening : Entry → Happening → Entry
with_happening entry (happenings.Event event tag) = record entry { events = entry.events ++ (event, tag) ∷ [] }
with_happening entry (happenings.Miss tag) = record entry { missed = entry.missed ++ tag ∷ [] }
with_happening entry (happenings.Choice choice) = record entry { choice = Some choice }

-- another exchange is the last one, and nothing is said of it yet
abbrev pub at_exchange : AirLinesValue → ℕ → AirLinesValue
at_exchange air exchange = record air { closed = entries_of air; exchange = exchange; latest = no_entry }

-- one thing more is said of the last exchange
abbrev pub with_said : AirLinesValue → Happening → AirLinesValue
with_said air happening = record air { latest = with_happening air.latest happening }

-- one air line more
abbrev pub with_air_line : AirLinesValue → ℕ → Happening → AirLinesValue
with_air_line air exchange happening =
    let counted = record air { count = air.count + 1 } in
    (if exchange == air.exchange then with_said counted happening else with_said (at_exchange counted exchange) happening)
