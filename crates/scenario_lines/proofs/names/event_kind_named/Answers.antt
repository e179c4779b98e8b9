-- A name of an event is one of the names of air lines.
use Rattle.scenario_lines.specs.declared.keywords.AirKind.TheVariants.{Event}
use Rattle.scenario_lines.proofs.names.event_kind_named.Goals as goal

pub returns-in_err-kind-clause-only : goal.returns-in_err-kind-clause-only
returns-in_err-kind-clause-only c = λ kind spells. let named = c.in_err-kind.ensures.only (Event kind) spells in cc
