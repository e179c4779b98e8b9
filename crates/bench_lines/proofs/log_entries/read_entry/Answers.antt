-- A line, and the answer line behind it.
use Rattle.std.proofs.Common.{arith, refl}
use Rattle.std.specs.Prelude.{Some, None}
use Rattle.log_judge.specs.Log.{Befalls}
use Rattle.bench_lines.specs.Stimuli as said
use Rattle.bench_lines.specs.Stimuli.{stimulus_with}
use Rattle.text_fields.specs.Lines.{lines_of}
use Rattle.bench_lines.specs.ReadEntries.{IsFaultOf}
use Rattle.checked_lines.specs.laws.HandedOn.{fault_handed_on}
use Rattle.bench_lines.proofs.Entries.{event_read, next_does, next_ends, next_faulty}
use Rattle.bench_lines.proofs.log_entries.read_entry.Goals as goal

pub returns-in-Err-clause-refused : goal.returns-in-Err-clause-refused
returns-in-Err-clause-refused c = λ bytes tag log counted so_far.
    rw c.fault_behind-in-Err.ensures
    (next_faulty bytes tag log c.args.count c.args.rest.now c.in-Some.line.now c.in-Some.behind.now c.in-Err.reason counted so_far c.in-Some.ensures.lines
    c.in-Err.ensures.refused)

pub returns-in_err-read_end-in-Ok-End-clause-refused : goal.returns-in_err-read_end-in-Ok-End-clause-refused
returns-in_err-read_end-in-Ok-End-clause-refused c = λ bytes tag log counted so_far.
    let says = rw c.in-Ok-End.field-0-is at c.in-Ok-End.ensures.ok in
    let ended_so = next_ends bytes tag log c.args.count c.args.rest.now c.in-Some.line.now c.in-Some.behind.now counted so_far c.in-Some.ensures.lines says.0 says.1 in
    fault_handed_on c.from_residual.result c.in_err-read_end-in-Ok-End.field-0.0 (IsFaultOf bytes) c.from_residual.ensures.1
    (c.in_err-read_end-in-Ok-End.ensures.refused bytes tag log ended_so)

pub returns-in_ok-read_end-in-Ok-End-clause-ok : goal.returns-in_ok-read_end-in-Ok-End-clause-ok
returns-in_ok-read_end-in-Ok-End-clause-ok c = λ bytes tag log counted so_far.
    let says = rw c.in-Ok-End.field-0-is at c.in-Ok-End.ensures.ok in
    let ended_so = next_ends bytes tag log c.args.count c.args.rest.now c.in-Some.line.now c.in-Some.behind.now counted so_far c.in-Some.ensures.lines says.0 says.1 in
    c.in_ok-read_end-in-Ok-End.ensures.ok bytes tag log ended_so refl

pub returns-in-Befalls-clause-ok : goal.returns-in-Befalls-clause-ok
returns-in-Befalls-clause-ok c = λ bytes tag log counted so_far.
    let says = rw c.in-Ok-Stimulus.field-0-is at c.in-Ok-Stimulus.ensures.ok in
    let done = next_does bytes tag log (stimulus_with c.in-Ok-Stimulus.stimulus c.read_next.new.command) (said.Befalls c.in-Befalls.event) c.args.count c.args.rest.now
    c.in-Some.line.now c.in-Some.behind.now counted so_far c.in-Some.ensures.lines says.0 says.1 says.2 c.in-Befalls.ensures.effect in
    event_read bytes tag log (Befalls c.in-Befalls.event) c.args.count (lines_of c.in-Some.behind.now) counted refl done

pub returns-in_err-left-in-Hears-clause-refused : goal.returns-in_err-left-in-Hears-clause-refused
returns-in_err-left-in-Hears-clause-refused c = λ bytes tag log counted so_far.
    let says = rw c.in-Ok-Stimulus.field-0-is at c.in-Ok-Stimulus.ensures.ok in
    let done = next_does bytes tag log (stimulus_with c.in-Ok-Stimulus.stimulus c.read_next.new.command) (said.Hears c.effect_of.new.command) c.args.count c.args.rest.now
    c.in-Some.line.now c.in-Some.behind.now counted so_far c.in-Some.ensures.lines says.0 says.1 says.2 c.in-Hears.ensures.effect in
    fault_handed_on c.from_residual-in_err-left-in-Hears.result c.in_err-left-in-Hears.field-0.0 (IsFaultOf bytes) c.from_residual-in_err-left-in-Hears.ensures.1
    (c.in_err-left-in-Hears.ensures.refused bytes tag log (Some c.effect_of.new.command) (omega (arith, counted)) done)

pub returns-in_ok-left-in-Hears-clause-ok : goal.returns-in_ok-left-in-Hears-clause-ok
returns-in_ok-left-in-Hears-clause-ok c = λ bytes tag log counted so_far.
    let says = rw c.in-Ok-Stimulus.field-0-is at c.in-Ok-Stimulus.ensures.ok in
    let done = next_does bytes tag log (stimulus_with c.in-Ok-Stimulus.stimulus c.read_next.new.command) (said.Hears c.effect_of.new.command) c.args.count c.args.rest.now
    c.in-Some.line.now c.in-Some.behind.now counted so_far c.in-Some.ensures.lines says.0 says.1 says.2 c.in-Hears.ensures.effect in
    c.in_ok-left-in-Hears.ensures.ok bytes tag log (Some c.effect_of.new.command) (omega (arith, counted)) done

pub returns-in_err-left-in-Nothing-clause-refused : goal.returns-in_err-left-in-Nothing-clause-refused
returns-in_err-left-in-Nothing-clause-refused c = λ bytes tag log counted so_far.
    let says = rw c.in-Ok-Stimulus.field-0-is at c.in-Ok-Stimulus.ensures.ok in
    let done = next_does bytes tag log (stimulus_with c.in-Ok-Stimulus.stimulus c.read_next.new.command) said.Nothing c.args.count c.args.rest.now
    c.in-Some.line.now c.in-Some.behind.now counted so_far c.in-Some.ensures.lines says.0 says.1 says.2 c.in-Nothing.ensures.effect in
    fault_handed_on c.from_residual-in_err-left-in-Nothing.result c.in_err-left-in-Nothing.field-0.0 (IsFaultOf bytes) c.from_residual-in_err-left-in-Nothing.ensures.1
    (c.in_err-left-in-Nothing.ensures.refused bytes tag log None (omega (arith, counted)) done)

pub returns-in_ok-left-in-Nothing-clause-ok : goal.returns-in_ok-left-in-Nothing-clause-ok
returns-in_ok-left-in-Nothing-clause-ok c = λ bytes tag log counted so_far.
    let says = rw c.in-Ok-Stimulus.field-0-is at c.in-Ok-Stimulus.ensures.ok in
    let done = next_does bytes tag log (stimulus_with c.in-Ok-Stimulus.stimulus c.read_next.new.command) said.Nothing c.args.count c.args.rest.now
    c.in-Some.line.now c.in-Some.behind.now counted so_far c.in-Some.ensures.lines says.0 says.1 says.2 c.in-Nothing.ensures.effect in
    c.in_ok-left-in-Nothing.ensures.ok bytes tag log None (omega (arith, counted)) done
