use Rattle.narc_rules_tests.proofs.tests.bits.a_part_ends_where_it_was_split.Given as goal

abbrev pub ghosts-split_octets : goal.ghosts-split_octets
ghosts-split_octets g a = record { name = a.blank.name; parts = a.blank.parts }
