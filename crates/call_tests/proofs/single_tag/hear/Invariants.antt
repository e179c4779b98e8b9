use Rattle.call_tests.proofs.single_tag.hear.Given as goal

abbrev pub ghosts-hear_counted : goal.ghosts-hear_counted
ghosts-hear_counted a = record { name = a.blank.name; parts = a.blank.parts }
