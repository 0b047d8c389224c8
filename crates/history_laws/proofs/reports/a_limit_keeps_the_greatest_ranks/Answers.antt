use Rattle.history_laws.proofs.ReportChoice.{only_the_first_are_kept, the_limit_is_kept, what_is_not_kept_is_outranked}
use Rattle.history_laws.proofs.reports.a_limit_keeps_the_greatest_ranks.Goals as goal

pub returns : goal.returns
returns c = record { only = only_the_first_are_kept; most = the_limit_is_kept; greatest = what_is_not_kept_is_outranked }
