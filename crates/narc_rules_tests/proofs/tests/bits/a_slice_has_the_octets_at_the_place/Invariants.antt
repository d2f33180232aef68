use Rattle.narc_rules_tests.proofs.tests.bits.a_slice_has_the_octets_at_the_place.Given as goal

abbrev pub ghosts-take_slice : goal.ghosts-take_slice
ghosts-take_slice g a = record { name = a.blank.name; parts = a.blank.parts }
