use Rattle.std.proofs.Common.{◌∙◌}
use Rattle.row_views.proofs.row.report_at.Goals as goal

pub returns-clause-row : goal.returns-clause-row
returns-clause-row g c = c.node_at-j.ensures.row ∙ c.report_of.ensures c.args.tables.now.ttls c.args.tables.now.expiry
