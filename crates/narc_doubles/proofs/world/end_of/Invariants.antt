use Rattle.narc_doubles.proofs.world.end_of.Given as goal

abbrev pub ghosts-run_counted-L-Ledger : goal.ghosts-run_counted-L-Ledger
ghosts-run_counted-L-Ledger a = record { name = a.decoding.name; parts = a.decoding.parts }

abbrev pub ghosts-run_counted-J-Ledger : goal.ghosts-run_counted-J-Ledger
ghosts-run_counted-J-Ledger a = record { name = a.judging.name; parts = a.judging.parts }
