use Rattle.call_tests.proofs.play.behind_run.Given as goal

abbrev pub ghosts-is_first_ready : goal.ghosts-is_first_ready
ghosts-is_first_ready a = record { name = a.blank.name; parts = a.blank.parts }
