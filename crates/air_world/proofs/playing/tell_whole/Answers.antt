use Rattle.air_world.proofs.Names.{◌≡◌, false, List, Option, [], refl, sym, ◌∙◌, ap, subst, AirValue, IsCutOff, IsCutShort, RunIsAt, SeenListener, first_fault_of, lines_to_tell, pairs_told, PlayFault}
use Rattle.air_world.proofs.Names.{ReportLine, Scenario, history, last_lines, run_lines, seen_counts, start_of}
use Rattle.air_world.proofs.Beginning.{ends-played, last-told}
use Rattle.air_world.proofs.Listings.{fault-cause, memory-enough, pairs-behind}
use Rattle.air_world.proofs.Passing.{cut-longer, ends-cut, tells-same}
use Rattle.air_world.proofs.playing.tell_whole.Goals as goal

-- what a listener hears that counts for another
abbrev HearsSeen : {A : Type 0} → (A → List ReportLine → A → Type 0) → SeenListener A → List ReportLine → SeenListener A → Type 0
HearsSeen hears first lines later = (later.report.ghost_name ≡ first.report.ghost_name) × hears first.report.now lines later.report.now
    × (first.seen.now ≡ [] → later.out_of_memory ≡ false → later.seen.now ≡ seen_counts (pairs_told lines))

-- a run that was cut off before its last lines
cut-through : {A : Type 0} (hears : A → List ReportLine → A → Type 0) (failed : A → Option PlayFault) (first later : SeenListener A) (fault : PlayFault) (scenario : Scenario)
    → IsCutOff (HearsSeen hears) (λ (listener : SeenListener A). first_fault_of (failed listener.report.now) listener.out_of_memory) first later
    (lines_to_tell (start_of scenario) (history scenario)) fault
    → IsCutShort hears failed first.report.now later.report.now (run_lines (start_of scenario) scenario.steps) fault
cut-through hears failed first later fault scenario cut =
    cut-longer {lines = lines_to_tell (start_of scenario) (history scenario)} (last_lines (start_of scenario) (history scenario)) refl (record {
      front = cut.front;
      rest = cut.rest;
      split = cut.split;
      heard = cut.heard.1;
      cause = fault-cause (failed later.report.now) later.out_of_memory fault cut.cause;
    })

pub tell_steps-requires : goal.tell_steps-requires
tell_steps-requires g c = c.requires.first

pub returns-in_err-tell_steps : goal.returns-in_err-tell_steps
returns-in_err-tell_steps g c =
    let cut = c.in_err-tell_steps.ensures.ends in
    let through = cut-through g.R.Listener.hears g.R.Listener.failed c.args.listener.now c.tell_steps.new.report _ c.args.scenario.now cut in
    record { report = cut.heard.0; told = ends-cut c.from_residual.result _ _ _ c.from_residual.ensures.1 through }

pub returns : goal.returns
returns g c =
    let scenario = c.args.scenario.now in
    let start = start_of scenario in
    let stands = c.in_ok-tell_steps.ensures.ends in
    let later = c.tell_steps.new.report in
    let enough = memory-enough (g.R.Listener.failed later.report.now) later.out_of_memory c.in_ok-tell_steps.ensures.faultless in
    let seen = stands.heard.2 c.requires.seen enough ∙ ap seen_counts (pairs-behind start (history scenario)) in
    let told = (tells-same (last-told scenario stands.at seen) c.finish.ensures.told).on c.args.listener.now.report.now (lines_to_tell start (history scenario)) stands.heard.1 in
    record {
      report = stands.heard.0;
      told = ends-played g.R.Listener.hears g.R.Listener.failed _ _ c.check.result scenario c.round_laws.ensures.limit c.requires.first.is told
          (subst (λ (air : AirValue). RunIsAt start 0 (history scenario) air c.tell_steps.new.run) (sym c.finish.ensures.air) stands.at) c.check.ensures.faultless c.check.ensures.cause;
    }
