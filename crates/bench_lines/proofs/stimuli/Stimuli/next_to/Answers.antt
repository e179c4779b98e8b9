-- What the first of the lines says that are left, and that the others are left behind it.
use Rattle.std.proofs.Common.{◌∙◌, sym}
use Rattle.text_fields.specs.Lines.{lines_of}
use Rattle.bench_lines.specs.Stimuli.{stimulus_with}
use Rattle.bench_lines.proofs.Checking.{first_left, left_behind, none_faulty}
use Rattle.bench_lines.proofs.stimuli.Stimuli.next_to.Goals as goal

pub invariant_of-self : goal.invariant_of-self
invariant_of-self c =
    let spells = rw c.in-Ok-Stimulus.field-0-is at c.in-Ok-Stimulus.ensures.ok in
    left_behind c.line_laws.ensures.lines (lines_of c.self.inside.rest.now)
    (record {
      line = c.in-Some.line.now;
      behind = lines_of c.in-Some.behind.now;
      cut = c.in-Some.ensures.lines;
      stimulus = stimulus_with c.in-Ok-Stimulus.stimulus c.read_probe_line.new.command;
      spells = spells;
    }) c.self.invariant.0 c.self.invariant.1

pub unreachable-requires-in-Err : goal.unreachable-requires-in-Err
unreachable-requires-in-Err c =
    none_faulty c.line_laws.ensures.lines (lines_of c.self.inside.rest.now) c.in-Some.line.now (lines_of c.in-Some.behind.now) c.self.invariant.0
    c.in-Err.field-0 c.self.invariant.1 c.in-Some.ensures.lines c.in-Err.ensures.refused

pub returns-in-Ok-Stimulus-clause-some : goal.returns-in-Ok-Stimulus-clause-some
returns-in-Ok-Stimulus-clause-some c =
    let spells = rw c.in-Ok-Stimulus.field-0-is at c.in-Ok-Stimulus.ensures.ok in (
      spells.is,
      λ said say.
          first_left c.line_laws.ensures.lines c.args.self.now
          (record {
            line = c.in-Some.line.now;
            behind = lines_of c.in-Some.behind.now;
            cut = sym c.self.view_is ∙ c.in-Some.ensures.lines;
            stimulus = stimulus_with c.in-Ok-Stimulus.stimulus c.read_probe_line.new.command;
            spells = spells;
          }) said say,
    )
