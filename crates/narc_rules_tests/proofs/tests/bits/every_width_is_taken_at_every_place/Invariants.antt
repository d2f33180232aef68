use Rattle.narc_rules_tests.proofs.tests.bits.every_width_is_taken_at_every_place.Given as goal

abbrev pub ghosts-take_every_width : goal.ghosts-take_every_width
ghosts-take_every_width g a = record { name = a.blank.name; parts = a.blank.parts }
