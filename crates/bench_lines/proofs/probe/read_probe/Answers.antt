-- The first two lines are read, and then those behind them.
use Rattle.std.proofs.Common.{◌≡◌, ◌≢◌, refl, rules}
use Rattle.text_fields.specs.Lines.{lines_of}
use Rattle.checked_lines.specs.TextRules.{Faulty, Whole}
use Rattle.checked_lines.specs.declared.fault.FaultReason.TheVariants.{Version}
use Rattle.checked_lines.specs.laws.ReadingOn.{NextLine, fault_read, none_read, unended_read}
use Rattle.bench_lines.specs.ProbeLine.{version_line}
use Rattle.bench_lines.specs.ProbeText.{begun, ended, probe_rules, start}
use Rattle.bench_lines.proofs.Checking.{tag_read, version_read}
use Rattle.bench_lines.proofs.probe.read_probe.Goals as goal

pub returns-in_default-clause-refused : goal.returns-in_default-clause-refused
returns-in_default-clause-refused c =
    let all = lines_of c.args.text.now in
    unended_read probe_rules start 1 all start 1 c.args.text.now (none_read probe_rules start 1 all) c.in_default.ensures.whole (λ none may. may)

pub returns-then-not-is_version-clause-refused : goal.returns-then-not-is_version-clause-refused
returns-then-not-is_version-clause-refused c =
    let all = lines_of c.args.text.now in
    let other : c.in-Some.line.now ≢ version_line = λ same. search rules in
    fault_read probe_rules start 1 all start 1 all (record { line = c.in-Some.line.now; rest = c.in-Some.behind.now; cut = c.in-Some.ensures.lines }) Version
    (none_read probe_rules start 1 all) (refl, other)

pub returns-in_default-split_line-clause-refused : goal.returns-in_default-split_line-clause-refused
returns-in_default-split_line-clause-refused c =
    let version : c.in-Some.line.now ≡ version_line = search rules in
    unended_read probe_rules start 1 (lines_of c.args.text.now) begun 2 c.in-Some.behind.now
    (version_read c.args.text.now (record { line = c.in-Some.line.now; rest = c.in-Some.behind.now; cut = c.in-Some.ensures.lines }) version)
    c.in_default-split_line.ensures.whole (λ none may. may)

pub returns-in-Err-clause-refused : goal.returns-in-Err-clause-refused
returns-in-Err-clause-refused c =
    let version : c.in-Some.line.now ≡ version_line = search rules in
    fault_read probe_rules start 1 (lines_of c.args.text.now) begun 2 (lines_of c.in-Some.behind.now)
    (record { line = c.in-Some-split_line.line.now; rest = c.in-Some-split_line.behind.now; cut = c.in-Some-split_line.ensures.lines }) c.in-Err.reason
    (version_read c.args.text.now (record { line = c.in-Some.line.now; rest = c.in-Some.behind.now; cut = c.in-Some.ensures.lines }) version)
    c.in-Err.ensures.refused

pub returns-in-Ok-new-clause-ok : goal.returns-in-Ok-new-clause-ok
returns-in-Ok-new-clause-ok c =
    let version : c.in-Some.line.now ≡ version_line = search rules in
    let first : NextLine (lines_of c.args.text.now) = record { line = c.in-Some.line.now; rest = c.in-Some.behind.now; cut = c.in-Some.ensures.lines } in
    let second : NextLine (lines_of c.in-Some.behind.now) =
    record { line = c.in-Some-split_line.line.now; rest = c.in-Some-split_line.behind.now; cut = c.in-Some-split_line.ensures.lines } in
    let read = tag_read c.args.text.now first second c.in-Ok.tag version c.in-Ok.ensures.ok in
    let all = c.in-Ok-new.ensures.ok in
    (all.1.said, read.outcomes (Whole (ended c.in-Ok.tag all.1.said)) (all.1.whole c.in-Ok.tag), rw all.0 all.1.are)

pub returns-in-Ok-new-clause-tag : goal.returns-in-Ok-new-clause-tag
returns-in-Ok-new-clause-tag c = let spells = c.in-Ok.ensures.ok in spells.is

pub returns-in-Err-new-clause-refused : goal.returns-in-Err-new-clause-refused
returns-in-Err-new-clause-refused c =
    let version : c.in-Some.line.now ≡ version_line = search rules in
    let first : NextLine (lines_of c.args.text.now) = record { line = c.in-Some.line.now; rest = c.in-Some.behind.now; cut = c.in-Some.ensures.lines } in
    let second : NextLine (lines_of c.in-Some.behind.now) =
    record { line = c.in-Some-split_line.line.now; rest = c.in-Some-split_line.behind.now; cut = c.in-Some-split_line.ensures.lines } in
    let read = tag_read c.args.text.now first second c.in-Ok.tag version c.in-Ok.ensures.ok in
    read.outcomes (Faulty c.in-Err-new.fault.line c.in-Err-new.fault.reason) (c.in-Err-new.ensures.refused c.in-Ok.tag)
