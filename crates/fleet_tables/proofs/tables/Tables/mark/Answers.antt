use Rattle.std.proofs.Common.{◌∙◌, ap}
use Rattle.std.proofs.lemmas.Result.{on_ok_weaker, on_err_weaker}
use Rattle.checkpoint_spec.specs.Lists.{marked}
use Rattle.fleet_tables.proofs.tables.Tables.mark.Goals as goal

pub returns-clause-ok : goal.returns-clause-ok
returns-clause-ok c = on_ok_weaker c.mark.result (λ e. e ∙ ap (marked c.args.mark.now) c.self.view_is) c.mark.ensures.ok

pub returns-clause-same : goal.returns-clause-same
returns-clause-same c = on_err_weaker c.mark.result (λ e. e ∙ c.self.view_is) c.mark.ensures.same
