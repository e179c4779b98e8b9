use Rattle.std.proofs.Common.{◌≡◌, ◌∙◌, [], refl, arith}
use Rattle.air_events.specs.declared.Several.TheVariants as severals
use Rattle.runs.specs.Headline.{IsLegalRound}
use Rattle.runs.specs.ScenarioHistory.{start_of}
use Rattle.made_runs.proofs.MadeRuns.{made-own-epcs, made-round-legal, made-tags-count, made-take-part, quiet-made}
use Rattle.made_runs.proofs.laws.quiet_made_runs_list_every_tag.Goals as goal
use Rattle.made_runs.specs.Made.{made_scenario, made_round}
use Rattle.scenario.specs.Limits.{no_operations}

-- no round has more operations than its list
legal : IsLegalRound made_round no_operations
legal = record { legal = made-round-legal; few = omega arith }

-- several replies are broken, where nothing is chosen
not_captured : {A : Type 0} → severals.Break ≡ severals.Capture → A
not_captured same = absurd (cc)

pub returns : goal.returns
returns c seed tags quiet =
    let start = start_of (made_scenario seed tags) in
    let honest = c.rounds_are_honest_where_nothing_is_said.ensures.run start (made_scenario seed tags).steps 1 no_operations refl refl in
    let (ending, ending_is, counted) = c.honest_rounds_count_tags.ensures.run start (made_scenario seed tags).steps [] [] made_round no_operations (legal, tt) refl honest not_captured in
    let every = c.quiet_runs_list_every_tag.ensures start made_round no_operations ending.slots ending.past legal (made-take-part seed tags) (made-own-epcs seed tags) refl refl
    not_captured (quiet-made seed tags ending quiet ending_is) in
    record { listed = every.listed ∙ made-tags-count seed tags; distinct_pairs = every.distinct_pairs ∙ made-tags-count seed tags }
