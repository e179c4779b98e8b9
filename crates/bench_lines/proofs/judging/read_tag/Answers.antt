-- The first two lines.
use Rattle.std.proofs.Common.{◌≡◌, ◌≢◌, rules}
use Rattle.bench_lines.specs.Judged.{IsRefusedFor}
use Rattle.bench_lines.specs.LogText.{log_version_line}
use Rattle.bench_lines.proofs.Beginning.{first_faulty, no_tag, tag_read, version_read}
use Rattle.checked_lines.specs.laws.HandedOn.{fault_handed_on}
use Rattle.bench_lines.proofs.judging.read_tag.Goals as goal

pub returns-then-not-is_version-clause-refused : goal.returns-then-not-is_version-clause-refused
returns-then-not-is_version-clause-refused c =
    let other : c.in-Some.line.now ≢ log_version_line = λ same. search rules in
    rw c.unread_at-then-not-is_version.ensures (first_faulty c.args.text.now c.in-Some.line.now c.in-Some.behind.now c.in-Some.ensures.lines other)

pub returns-in_err-tag-clause-refused : goal.returns-in_err-tag-clause-refused
returns-in_err-tag-clause-refused c =
    let version : c.in-Some.line.now ≡ log_version_line = search rules in
    let begun = version_read c.args.text.now c.in-Some.line.now c.in-Some.behind.now c.in-Some.ensures.lines version in
    fault_handed_on c.from_residual.result c.in_err-tag.field-0.0 (IsRefusedFor c.args.text.now) c.from_residual.ensures.1
    (no_tag c.args.text.now c.in-Some.behind.now c.in-Some-split_line.line.now c.in-Some-split_line.behind.now c.in_err-tag.field-0.0 begun
    c.in-Some-split_line.ensures.lines c.in_err-tag.ensures.refused)

pub returns-clause-ok : goal.returns-clause-ok
returns-clause-ok c =
    let version : c.in-Some.line.now ≡ log_version_line = search rules in
    let begun = version_read c.args.text.now c.in-Some.line.now c.in-Some.behind.now c.in-Some.ensures.lines version in
    let spells = c.in_ok-tag.ensures.ok in (
      tag_read c.args.text.now c.in-Some.behind.now c.in-Some-split_line.line.now c.in-Some-split_line.behind.now c.in_ok-tag.tag begun
          c.in-Some-split_line.ensures.lines spells,
      spells.is,
    )
