use Rattle.narc_rules_tests.proofs.tests.scalar.copy.Given as goal

abbrev pub ghosts-copy_counted : goal.ghosts-copy_counted
ghosts-copy_counted g a = record { name = a.blank.name; parts = a.blank.parts }
