use Rattle.air_world.proofs.Names.{sym, ◌∙◌, ap, subst, SeenListener}
use Rattle.air_world.proofs.seen_listener.SeenListenerListener.tell.Goals as goal

pub returns : goal.returns
returns g c = λ first lines hears.
    let same = c.count.ensures.rest in (
      ap (λ (l : SeenListener g.row.R.Denot). l.report.ghost_name) same ∙ hears.0,
      c.tell.ensures first.report.now lines (subst (λ r. g.R.Listener.hears first.report.now lines r) (sym (ap (λ (l : SeenListener g.row.R.Denot). l.report.now) same)) hears.1),
      λ fresh enough. c.count.ensures.seen lines enough (hears.2 fresh (c.count.ensures.memory enough)),
    )
