-- Profile: two portals over one scenario: what each round of a portal lists with the rounds of the other between, and without them.
use Rattle.std.specs.Prelude.{◌≡◌, ℕ, ◌==◌, Bool, true, false, List, [], ◌∷◌, ◌++◌, filter, All, None, if◌then◌else◌}
use Rattle.air_events.specs.declared.Several.TheVariants as severals
use Rattle.air_model.specs.Past.{Item}
use Rattle.q_round.specs.SpecValue.{SpecValue}
use Rattle.scenario.specs.declared.values.Scenario.{Scenario}
use Rattle.scenario.specs.declared.values.Step.{Step}
use Rattle.scenario.specs.declared.values.Step.TheVariants as steps
use Rattle.two_portals.specs.PortalLines.{HaveTheSameSenders, portal_lines_of, portal_rounds_of}
use Rattle.two_portals.specs.declared.portal_line.PortalLine.{PortalLine}
use Rattle.runs.specs.History.{history_of}
use Rattle.runs.specs.RoundsTold.{rounds_told}
use Rattle.runs.specs.ScenarioHistory.{history, start_of}

-- the parameters of the rounds among steps
abbrev pub specs_of : List Step → List SpecValue
specs_of [] = []
specs_of (steps.Round spec operations ∷ later) = spec ∷ specs_of later
specs_of (step ∷ later) = specs_of later

-- a step is a round of a session
abbrev pub is_round_of : ℕ → Step → Bool
is_round_of session (steps.Round spec operations) = spec.session == session
is_round_of session step = false

-- the history of a scenario with the rounds of a session as its only steps
abbrev pub alone : Scenario → ℕ → List Item
alone scenario session = history_of (start_of scenario) (filter (is_round_of session) scenario.steps)

-- the lines of the portal of a session
abbrev pub lines_told : ℕ → Scenario → List PortalLine
lines_told session scenario =
    let start = start_of scenario in
    portal_lines_of session 1 (portal_rounds_of session (specs_of scenario.steps) (rounds_told start (history scenario))) (rounds_told start (alone scenario session))

-- the lines of both portals, portal 2's first
abbrev pub portals_told : Scenario → List PortalLine
portals_told scenario = lines_told 2 scenario ++ lines_told 3 scenario

-- the session whose round comes next
abbrev pub other_portal : ℕ → ℕ
other_portal session = if session == 2 then 3 else 2

-- a round of a session without operations
abbrev pub IsTurn : ℕ → Step → Type 0
IsTurn session (steps.Round spec operations) = (spec.session ≡ session) × (operations.only ≡ None) × (operations.ops ≡ [])
IsTurn session step = ⊥

-- the portals take turns, the first of these turns is that of a session
abbrev pub AreTurns : ℕ → List Step → Type 0
AreTurns session [] = Unit {0}
AreTurns session (step ∷ later) = IsTurn session step × AreTurns (other_portal session) later

-- What a scenario of two portals is: the channel breaks the first of several replies, nothing is said of any exchange, and the steps are
-- rounds without operations, of session 2 at odd places and of session 3 at even ones.
pub record IsOfPortals (scenario : Scenario) : Type 0 where
  pub several : scenario.several ≡ severals.Break
  pub entries : scenario.entries ≡ []
  pub turns : AreTurns 2 scenario.steps

-- Each round of a portal has jointly the senders that it has alone, told apart by their numbers, and each line says that the same was
-- listed.
pub record ArePortalsIndependent (scenario : Scenario) : Type 0 where
  pub second : HaveTheSameSenders (portal_rounds_of 2 (specs_of scenario.steps) (rounds_told (start_of scenario) (history scenario))) (rounds_told (start_of scenario) (alone scenario 2))
  pub third : HaveTheSameSenders (portal_rounds_of 3 (specs_of scenario.steps) (rounds_told (start_of scenario) (history scenario))) (rounds_told (start_of scenario) (alone scenario 3))
  pub same : All (λ line. line.same ≡ true) (portals_told scenario)
