use Rattle.narc_c.proofs.read.decode.Given as goal

abbrev pub ghosts-decode_with : goal.ghosts-decode_with
ghosts-decode_with a = record { name = a.blank.name; parts = a.blank.parts }
