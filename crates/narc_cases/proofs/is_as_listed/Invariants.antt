use Rattle.narc_cases.proofs.is_as_listed.Given as goal

abbrev pub ghosts-run_counted-L-Ledger : goal.ghosts-run_counted-L-Ledger
ghosts-run_counted-L-Ledger g a = record { name = a.decoding.name; parts = a.decoding.parts }

abbrev pub ghosts-run_counted-J-Ledger : goal.ghosts-run_counted-J-Ledger
ghosts-run_counted-J-Ledger g a = record { name = a.judging.name; parts = a.judging.parts }
