use Rattle.runs.proofs.Names.{subst, List, Item, history_of, GrowsByNext}
use Rattle.runs.proofs.HeadlineNext.{history-grows, history-stops, one-growth, growth-at}
use Rattle.runs.proofs.laws.histories_grow_by_the_next_item.Goals as goal

pub returns-clause-grows : goal.returns-clause-grows
returns-clause-grows c = history-grows c.round_laws.ensures.limit

pub returns-clause-item : goal.returns-clause-item
returns-clause-item c = λ start steps later item earlier legal is.
    growth-at start steps later item earlier (subst (λ (past : List Item). GrowsByNext start steps past) is (history-grows c.round_laws.ensures.limit start steps legal))

pub returns-clause-stops : goal.returns-clause-stops
returns-clause-stops c = history-stops c.round_laws.ensures.limit

pub returns-clause-one : goal.returns-clause-one
returns-clause-one c = λ start steps past legal grows stops.
    one-growth start steps past (history_of start steps) grows (history-grows c.round_laws.ensures.limit start steps legal)
    stops (history-stops c.round_laws.ensures.limit start steps legal)
