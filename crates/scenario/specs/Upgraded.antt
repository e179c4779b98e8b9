-- Profile: a scenario of either version as one of version 2.
use Rattle.scenario_lines.specs.declared.version.Version.TheVariants.{Two}
use Rattle.scenario.specs.declared.values.Scenario.{Scenario}

-- the same scenario, but for its version
abbrev pub upgraded : Scenario → Scenario
upgraded scenario = record scenario { version = Two }
