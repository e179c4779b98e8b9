use Rattle.runs.proofs.PortalRounds.{new-at-start, rounds-of-portals}
use Rattle.runs.specs.PortalHistories.{portals_told, specs_of}
use Rattle.std.specs.Global.{Vec}
use Rattle.air_world.proofs.Names.{◌≡◌, ◌≤◌, List, ◌∷◌, length, sym, ap, ◌∙◌, subst, arith, [], All, SpecValue, played_of, start_of, Scenario, Step, IfOk-weaker, TagValue}
use Rattle.scenario.specs.declared.values.Step.TheVariants as steps
use Rattle.two_portals.specs.declared.portal_line.PortalLine.{PortalLine}
use Rattle.two_portals.specs.PortalLines.{IsNewTag, IsOfPortal, portal_lines}
use Rattle.air_world.proofs.portals.compare_portals.Goals as goal

-- there are no more rounds than steps
few : (taken : List Step) → length (specs_of taken) ≤ length taken
few [] = omega arith
few (steps.Round spec operations ∷ taken) = let later = few taken in omega (arith, later)
few (step ∷ taken) = let later = few taken in omega (arith, later)

pub compare-requires-clause-fresh : goal.compare-requires-clause-fresh
compare-requires-clause-fresh c = subst (All IsNewTag) (sym c.in_ok-joint.ensures) (new-at-start c.args.scenario.now)

pub compare-requires-clause-sessions : goal.compare-requires-clause-sessions
compare-requires-clause-sessions c = subst (All IsOfPortal) (sym c.requires.specs) (rounds-of-portals c.args.scenario.now c.requires.portals)

pub compare-requires-clause-few : goal.compare-requires-clause-few
compare-requires-clause-few c =
    let rounds = few c.args.scenario.now.steps in
    let same = ap (λ (specs : List SpecValue). length specs) c.requires.specs in
    omega (arith, rounds, same, c.requires.scenario.few_steps)

-- the lines of the rounds as they are played are those of the three histories
told_lines : (scenario : Scenario) (joint : List TagValue) (specs : List SpecValue) (lines : List PortalLine) → joint ≡ (start_of scenario).tags → specs ≡ specs_of scenario.steps
    → portals_told scenario ≡ portal_lines played_of (start_of scenario).tags (specs_of scenario.steps) → lines ≡ portal_lines played_of joint specs → lines ≡ portals_told scenario
told_lines scenario joint specs lines tags rounds told is = is ∙ (λ i. portal_lines played_of (tags i) (rounds i)) ∙ sym told

pub returns : goal.returns
returns c =
    IfOk-weaker c.compare.result (λ (lines : Vec PortalLine). lines.items ≡ portal_lines played_of c.in_ok-joint.joint c.args.specs.now)
    (λ (lines : Vec PortalLine). lines.items ≡ portals_told c.args.scenario.now)
    (λ lines is. told_lines c.args.scenario.now c.in_ok-joint.joint c.args.specs.now lines.items c.in_ok-joint.ensures c.requires.specs
    (c.portal_rounds_are_played.ensures c.args.scenario.now c.requires.scenario c.requires.portals) is)
    c.compare.ensures.lines
