use Rattle.narc_format.proofs.answer.front_of.Given as goal

abbrev pub ghosts-count_front : goal.ghosts-count_front
ghosts-count_front g a = record { name = a.blank.name; parts = a.blank.parts }
