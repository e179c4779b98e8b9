use Rattle.air_channel.proofs.air.Air.event.Given as goal

abbrev pub ghosts-event_counted : goal.ghosts-event_counted
ghosts-event_counted a = record { name = a.blank.name; parts = a.blank.parts }
