use Rattle.query_plain.proofs.plain.select_plain.Given as goal

abbrev pub ghosts-select_in : goal.ghosts-select_in
ghosts-select_in g a = record { name = a.blank.name; parts = a.blank.parts }
