use Rattle.air_world.proofs.Names.{sym, subst, ◌∙◌, on_ok_weaker, IsAdded, ModeSpelling}
use Rattle.air_world.proofs.Written.{run-written, spelling_for, told_text}
use Rattle.air_world.proofs.playing.play.Goals as goal

pub returns : goal.returns
returns g c =
    let mode = c.args.mode in
    let scenario = c.args.scenario.now in
    let sink = g.O.Sink in
    let old = c.new-report.result in
    let later = c.tell_scenario.new.report in
    let back = c.out-1.given in
    let result = c.tell_scenario.result in
    let written = run-written _ _ old later result mode scenario
    (record { first = sink.written c.args.out.now; written = sink.written back.0; before = sink.faults c.args.out.now; after = sink.faults back.0 }) _ c.tell_scenario.ensures
    (λ lines heard.
    let added = subst
    (λ (spelling : ModeSpelling). IsAdded (told_text spelling lines) (sink.written old.out.now) (sink.written later.out.now) (sink.faults old.out.now) (sink.faults later.out.now) later.fault)
    (c.new-report.ensures.spelling ∙ c.in_ok-spelling.ensures) (heard.1.text c.new-report.ensures.fault) in
    let text = told_text (spelling_for mode scenario) lines in
    subst (λ first. IsAdded text (sink.written first) (sink.written back.0) (sink.faults first) (sink.faults back.0) later.fault) c.new-report.ensures.written
    (subst (λ written. IsAdded text (sink.written old.out.now) (sink.written written) (sink.faults old.out.now) (sink.faults written) later.fault)
    (sym (back.1 (sym (heard.0 ∙ c.new-report.ensures.out)))) added)) in
    record {
      report = written.report;
      tags = written.tags;
      exchanges = written.exchanges;
      write = written.write;
      memory = written.memory;
      steady = written.steady;
      part = written.part;
      count = written.count;
      heard_as_listed = on_ok_weaker result (λ is. c.headline.ensures.heard_as_listed mode scenario c.requires.scenario) written.tags;
      headline = on_ok_weaker result (λ is. c.headline.ensures.scenario mode scenario c.requires.scenario) written.tags;
      inventory = on_ok_weaker result (λ is. c.rounds_are_complete.ensures scenario c.requires.scenario) written.tags;
    }
