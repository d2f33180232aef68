use Rattle.narc_run_tests.proofs.tests.trial.counts_of.Given as goal

abbrev pub ghosts-count_frames : goal.ghosts-count_frames
ghosts-count_frames a = record { name = a.blank.name; parts = a.blank.parts }
