use Rattle.std.proofs.Common.{◌≡◌, ◌<◌, ◌^◌, ◌∙◌, rules, map, ap, sym, subst}
use Rattle.std.proofs.iter.runs.Sources.{sums}
use Rattle.std.specs.Prelude.{sum}
use Rattle.report_lines.proofs.Raising.{totalled}
use Rattle.report_lines.specs.SeenCounts.{total_of}
use Rattle.report_lines.proofs.seen_counts.SeenCounts.total.Goals as goal

pub sum-requires-clause-fits : goal.sum-requires-clause-fits
sum-requires-clause-fits c =
    let same : sum (map (λ entry. entry.1) c.self.inside.counts.entries) ≡ total_of c.args.self.now = totalled c.self.inside.counts.entries ∙ ap total_of c.self.view_is in
    let fits : sum (map (λ entry. entry.1) c.self.inside.counts.entries) < 2 ^ 64 = subst (λ n. n < 2 ^ 64) (sym same) c.requires in
    search (rules, sums, fits)

pub returns : goal.returns
returns c =
    let same : sum (map (λ entry. entry.1) c.self.inside.counts.entries) ≡ total_of c.args.self.now = totalled c.self.inside.counts.entries ∙ ap total_of c.self.view_is in
    let all : c.sum.result ≡ sum (map (λ entry. entry.1) c.self.inside.counts.entries) = search (rules, sums) in
    all ∙ same
