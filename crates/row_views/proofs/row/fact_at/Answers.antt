use Rattle.std.proofs.Common.{◌∙◌}
use Rattle.std.proofs.lemmas.Result.{IfOk-weaker}
use Rattle.row_views.proofs.row.fact_at.Goals as goal

pub returns-clause-row : goal.returns-clause-row
returns-clause-row g c =
    IfOk-weaker c.fact_of.result _ _ (λ view h. c.node_at-j.ensures.row ∙ h c.args.tables.now.ttls c.args.tables.now.expiry) c.fact_of.ensures
