use Rattle.std.proofs.Common.{List, ◌∙◌, ap}
use Rattle.std.specs.Cmp.Lexicographic.{pointwise}
use Rattle.reply_grammar.specs.PcAndEpc.{same_pair}
use Rattle.two_portals.proofs.Counts.{Pair}
use Rattle.two_portals.proofs.Sorting.{sorted-same}
use Rattle.two_portals.proofs.portals.are_same.Goals as goal

pub returns-clause-same : goal.returns-clause-same
returns-clause-same c =
    c.eq.ensures ∙ ap (λ (one : List Pair). pointwise same_pair one c.as_slice-2.result.now) c.as_slice.ensures.value
    ∙ ap (λ (other : List Pair). pointwise same_pair c.sort.new.self.items other) c.as_slice-2.ensures.value
    ∙ sorted-same c.args.heard.now.items c.args.other.now.items c.sort.new.self.items c.sort-2.new.self.items c.sort.ensures.same c.sort-2.ensures.same c.sort.ensures.sorted c.sort-2.ensures.sorted
