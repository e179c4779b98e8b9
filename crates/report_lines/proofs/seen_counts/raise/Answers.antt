use Rattle.std.proofs.Common.{◌≡◌, ◌<◌, ◌∙◌, ◌+◌, ap, arith, rules, unwrap_or}
use Rattle.indexmap.specs.Entry.{map_with_value}
use Rattle.indexmap.specs.IndexMap.{insert_entry}
use Rattle.report_lines.specs.Entries.{seen_of_listed}
use Rattle.report_lines.specs.SeenCounts.{count_of, seen_more}
use Rattle.report_lines.proofs.Raising.{found_of, inserted, kept, looked_up, same_listed}
use Rattle.report_lines.proofs.seen_counts.raise.Goals as goal

pub returns-clause-more : goal.returns-clause-more
returns-clause-more c =
    let before = c.args.counts.now.entries in
    let one_more : c.in-Some.more ≡ c.or_insert-count.result.now + 1 = search rules in
    let had : c.or_insert-count.result.now ≡ count_of (seen_of_listed before) (c.args.listed.pc, c.args.listed.epc) =
    c.or_insert-count.ensures.value ∙ ap (λ found. unwrap_or found 0) c.in_ok-counts.ensures.value ∙ looked_up before c.args.listed in
    let entries : (map_with_value c.in_ok-counts.field-0 c.in-Some.more).entries ≡ insert_entry same_listed before c.args.listed c.in-Some.more =
    c.in_ok-counts.ensures.update.1 c.in-Some.more in
    let seen : seen_of_listed (insert_entry same_listed before c.args.listed c.in-Some.more) ≡ seen_more (seen_of_listed before) (c.args.listed.pc, c.args.listed.epc) =
    ap (λ n. seen_of_listed (insert_entry same_listed before c.args.listed n)) (one_more ∙ ap (λ n. n + 1) had) ∙ inserted before c.args.listed in
    let all : seen_of_listed (map_with_value c.in_ok-counts.field-0 c.in-Some.more).entries ≡ seen_more (seen_of_listed before) (c.args.listed.pc, c.args.listed.epc) =
    ap seen_of_listed entries ∙ seen in
    grind (arith, all)

-- a count that has no room for one more was there, and stays
pub returns-in_default-clause-err : goal.returns-in_default-clause-err
returns-in_default-clause-err c =
    let before = c.args.counts.now.entries in
    let count = c.or_insert-count.result.now in
    let great : 0 < count = omega arith in
    let found = found_of _ count (c.or_insert-count.ensures.value ∙ ap (λ found. unwrap_or found 0) c.in_ok-counts.ensures.value) great in
    let all : (map_with_value c.in_ok-counts.field-0 count).entries ≡ before = c.in_ok-counts.ensures.update.1 count ∙ kept before c.args.listed count found in
    grind (arith, all)
