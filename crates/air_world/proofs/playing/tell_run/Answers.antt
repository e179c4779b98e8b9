use Rattle.air_world.proofs.Names.{refl, sym, subst, AreEntriesLeft, Rises}
use Rattle.air_world.proofs.Beginning.{at-first, cut-at-first, given-back}
use Rattle.air_world.proofs.Passing.{ends-cut}
use Rattle.air_world.proofs.playing.tell_run.Goals as goal

pub returns-in_err-bits : goal.returns-in_err-bits
returns-in_err-bits g c =
    ends-cut c.from_residual.result _ _ _ c.from_residual.ensures.1
    (cut-at-first g.R.Listener.hears g.R.Listener.failed c.args.report.now _ (g.met.R.Listener.nothing c.args.report.now) c.requires.faultless)

pub tell_whole-requires-clause-first : goal.tell_whole-requires-clause-first
tell_whole-requires-clause-first g c =
    let scenario = c.args.scenario.now in
    let left : AreEntriesLeft c.new-entries.result scenario.entries 0 = subst (λ e. AreEntriesLeft c.new-entries.result e 0) c.as_slice.ensures.value
    (c.new-entries.ensures.left (subst (λ e. Rises 0 e) (sym c.as_slice.ensures.value) c.requires.scenario.rising)) in
    record {
      is = c.requires.scenario;
      fresh = c.requires.fresh;
      at = at-first scenario c.args.air.now c.new-run.result c.requires.scenario c.requires.fresh c.len.ensures.legal c.new-entries.result left c.new-run.ensures;
    }

pub returns : goal.returns
returns g c =
    given-back g.R.Listener.hears g.R.Listener.failed c.tell_whole.result c.args.scenario.now _ refl
    (sym (c.report-1.given.1 (sym c.tell_whole.ensures.report))) c.tell_whole.ensures.told
