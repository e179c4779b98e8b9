-- Lines that follow one another.
use Rattle.std.proofs.Common.{List, [], ◌∷◌, ◌++◌, sym, subst}
use Rattle.scenario_lines.specs.declared.line.Line.{Line}
use Rattle.scenario.specs.Standing.{ScenarioStanding, LinesLead, standing_after}

-- some lines and then some more
pub leads_on : (from middle to : ScenarioStanding) (first second : List Line) → LinesLead from first middle → LinesLead middle second to → LinesLead from (first ++ second) to
leads_on from middle to [] second leads leads' = subst (λ (s : ScenarioStanding). LinesLead s second to) (sym leads) leads'
leads_on from middle to (line ∷ first) second leads leads' = (leads.0, leads_on (standing_after from line) middle to first second leads.1 leads')
