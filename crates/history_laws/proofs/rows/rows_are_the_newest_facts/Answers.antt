use Rattle.history_laws.proofs.FactRows.{rows_are_the_newest_facts}
use Rattle.history_laws.proofs.rows.rows_are_the_newest_facts.Goals as goal

pub returns : goal.returns
returns c = rows_are_the_newest_facts
