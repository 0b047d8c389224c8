use Rattle.query_tests.proofs.alike.+text.Given as goal

abbrev pub decreases-put_filter : goal.decreases-put_filter
decreases-put_filter l = l.depth

abbrev pub decreases-put_filters : goal.decreases-put_filters
decreases-put_filters l = l.depth

abbrev pub decreases-put_clause : goal.decreases-put_clause
decreases-put_clause l = l.depth

abbrev pub decreases-put_level : goal.decreases-put_level
decreases-put_level l = l.depth
