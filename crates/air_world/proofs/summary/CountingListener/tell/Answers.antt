use Rattle.air_world.proofs.Names.{◌≡◌, ◌+◌, ◌&&◌, ap, arith, Fits, counted_line, counts-more, line_of, ListLine, RoundLine, SeenLine, TagLine, is_quiet, tag_value_of}
use Rattle.air_world.proofs.Counted.{other-line}
use Rattle.air_world.proofs.summary.CountingListener.tell.Goals as goal

pub returns-in-List : goal.returns-in-List
returns-in-List c = λ first lines counts.
    counts-more lines first.summary c.args.self.now.summary _ (line_of c.args.line.now) counts
    (rw c.in-List.is (λ (fits : Fits (counted_line c.args.self.now.summary (ListLine c.in-List.round c.in-List.slot c.in-List.pc c.in-List.epc.now))).
    let more : c.saturating_add-counted.result ≡ c.args.self.now.summary.listed + 1 = omega (arith, c.saturating_add-counted.ensures, fits.listed) in
    ap (λ n. record c.args.self.now.summary { listed = n }) more))

pub returns-in-Round : goal.returns-in-Round
returns-in-Round c = λ first lines counts.
    counts-more lines first.summary c.args.self.now.summary _ (line_of c.args.line.now) counts
    (rw c.in-Round.is (λ (fits : Fits (counted_line c.args.self.now.summary (RoundLine c.in-Round.round c.in-Round.end c.in-Round.slots))).
    let counted = c.args.self.now.summary in
    let slots : c.saturating_add-counted-in-Round.result ≡ counted.slots + c.in-Round.slots = omega (arith, c.saturating_add-counted-in-Round.ensures, c.from.ensures, fits.slots) in
    let quiet : c.eq.result ≡ is_quiet c.in-Round.end = grind (arith, c.eq.ensures) in
    λ i. record counted { slots = slots i; quiet = counted.quiet && quiet i }))

pub returns-in-Seen : goal.returns-in-Seen
returns-in-Seen c = λ first lines counts.
    counts-more lines first.summary c.args.self.now.summary _ (line_of c.args.line.now) counts
    (rw c.in-Seen.is (λ (fits : Fits (counted_line c.args.self.now.summary (SeenLine c.in-Seen.count c.in-Seen.pc c.in-Seen.epc.now))).
    let more : c.saturating_add-counted-in-Seen.result ≡ c.args.self.now.summary.distinct + 1 = omega (arith, c.saturating_add-counted-in-Seen.ensures, fits.distinct) in
    ap (λ n. record c.args.self.now.summary { distinct = n }) more))

pub returns-in-Tag : goal.returns-in-Tag
returns-in-Tag c = λ first lines counts.
    counts-more lines first.summary c.args.self.now.summary _ (line_of c.args.line.now) counts
    (rw c.in-Tag.is (λ (fits : Fits (counted_line c.args.self.now.summary (TagLine c.in-Tag.number (tag_value_of c.in-Tag.tag.now)))).
    let more : c.saturating_add-counted-in-Tag.result ≡ c.args.self.now.summary.tags + 1 = omega (arith, c.saturating_add-counted-in-Tag.ensures, fits.tags) in
    ap (λ n. record c.args.self.now.summary { tags = n }) more))

pub returns-in_default : goal.returns-in_default
returns-in_default c = λ first lines counts.
    counts-more lines first.summary c.args.self.now.summary c.args.self.now.summary (line_of c.args.line.now) counts
    (λ fits. other-line c.args.self.now.summary c.args.line.now c.in_default.not-List c.in_default.not-Round c.in_default.not-Seen c.in_default.not-Tag)
