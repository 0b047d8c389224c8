use Rattle.level_answers.proofs.sums.+put_trimmed.Given as goal

abbrev pub decreases-put_trimmed : goal.decreases-put_trimmed
decreases-put_trimmed l = l.width
