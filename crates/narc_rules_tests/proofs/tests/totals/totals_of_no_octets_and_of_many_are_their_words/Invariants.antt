use Rattle.narc_rules_tests.proofs.tests.totals.totals_of_no_octets_and_of_many_are_their_words.Given as goal

abbrev pub ghosts-total_few_and_many : goal.ghosts-total_few_and_many
ghosts-total_few_and_many g a = record { name = a.blank.name; parts = a.blank.parts }
