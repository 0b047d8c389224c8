use Rattle.query_tests.proofs.short_texts.+read.Given as goal

abbrev pub decreases-read : goal.decreases-read
decreases-read l = l.depth
