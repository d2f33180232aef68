use Rattle.narc_c.proofs.read.judge.Given as goal

abbrev pub ghosts-judge_with : goal.ghosts-judge_with
ghosts-judge_with a = record { name = a.blank.name; parts = a.blank.parts }
