use Rattle.worker_tests.proofs.shown.text.Given as goal

abbrev pub ghosts-text_by : goal.ghosts-text_by
ghosts-text_by a = record { name = a.blank.name; parts = a.blank.parts }
