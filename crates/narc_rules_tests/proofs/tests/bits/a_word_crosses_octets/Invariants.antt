use Rattle.narc_rules_tests.proofs.tests.bits.a_word_crosses_octets.Given as goal

abbrev pub ghosts-take_words : goal.ghosts-take_words
ghosts-take_words g a = record { name = a.blank.name; parts = a.blank.parts }
