use Rattle.history_laws.proofs.ReportChoice.{without_a_limit_the_first_are_kept, without_a_limit_each_text_is_kept}
use Rattle.history_laws.proofs.reports.without_a_limit_each_text_is_kept.Goals as goal

pub returns : goal.returns
returns c = record { first = without_a_limit_the_first_are_kept; each = without_a_limit_each_text_is_kept }
