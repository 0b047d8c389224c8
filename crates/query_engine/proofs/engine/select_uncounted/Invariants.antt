use Rattle.query_engine.proofs.engine.select_uncounted.Given as goal

abbrev pub ghosts-select_in : goal.ghosts-select_in
ghosts-select_in g a = record { name = a.blank.name; parts = a.blank.parts }
