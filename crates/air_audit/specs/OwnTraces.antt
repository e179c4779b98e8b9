-- Profile: the scenarios whose own traces can be audited: no event befalls a tag between two exchanges, since no line tells of one.
use Rattle.std.specs.Prelude.{List}
use Rattle.std.specs.List.{AllByRecursion}
use Rattle.scenario.specs.declared.values.Step.{Step}
use Rattle.scenario.specs.declared.values.Step.TheVariants as steps

abbrev pub IsToldByLines : Step → Type 0
IsToldByLines (steps.Event event number) = ⊥
IsToldByLines step = Unit {0}

-- no step is an event
abbrev pub HasNoEventStep : List Step → Type 0
HasNoEventStep steps = AllByRecursion IsToldByLines steps
