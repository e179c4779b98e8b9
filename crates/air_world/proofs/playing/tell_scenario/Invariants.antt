use Rattle.air_world.proofs.playing.tell_scenario.Given as goal

abbrev pub ghosts-tell_run : goal.ghosts-tell_run
ghosts-tell_run g a = record { name = a.blank.name; parts = a.blank.parts }
