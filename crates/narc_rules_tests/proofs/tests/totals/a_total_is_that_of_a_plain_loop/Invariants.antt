use Rattle.narc_rules_tests.proofs.tests.totals.a_total_is_that_of_a_plain_loop.Given as goal

abbrev pub ghosts-total_every_part : goal.ghosts-total_every_part
ghosts-total_every_part g a = record { name = a.blank.name; parts = a.blank.parts }
