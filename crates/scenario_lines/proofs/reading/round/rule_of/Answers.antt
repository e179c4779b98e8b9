-- A field spells one rule, in one version.
use Rattle.std.proofs.Common.{◌∙◌, sym}
use Rattle.q_round.specs.declared.rule.Rule.TheVariants.{Float}
use Rattle.scenario_lines.specs.declared.version.Version.TheVariants.{One}
use Rattle.scenario_lines.proofs.ToldNames.{rule_told}
use Rattle.scenario_lines.proofs.reading.round.rule_of.Goals as goal

pub returns-in-Some-clause-only : goal.returns-in-Some-clause-only
returns-in-Some-clause-only c = λ version rule legal has same.
    let value = c.in-Some.ensures.value in
    let told = rule_told One version (Float c.in-Some.step) rule value.1 legal tt has (sym value.0 ∙ same) in
    let versions = told.0 in
    let rules = told.1 in
    cc
