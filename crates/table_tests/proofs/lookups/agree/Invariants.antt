use Rattle.table_tests.proofs.lookups.agree.Given as goal

abbrev pub ghosts-filtered_by : goal.ghosts-filtered_by
ghosts-filtered_by a = record { name = a.blank.name; parts = a.blank.parts }
