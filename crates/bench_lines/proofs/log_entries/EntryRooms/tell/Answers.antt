use Rattle.bench_lines.proofs.log_entries.EntryRooms.tell.Goals as goal

pub returns-in-Hears : goal.returns-in-Hears
returns-in-Hears g c = λ tag log has. rw c.in-Hears.is (c.hear.ensures.heard tag log has)

pub returns-in-HearsNoCommand : goal.returns-in-HearsNoCommand
returns-in-HearsNoCommand g c = λ tag log has. rw c.in-HearsNoCommand.is (c.hear_no_command.ensures.heard tag log has)

pub returns-in-Befalls : goal.returns-in-Befalls
returns-in-Befalls g c = λ tag log has. rw c.in-Befalls.is (c.befall.ensures.heard tag log has)
