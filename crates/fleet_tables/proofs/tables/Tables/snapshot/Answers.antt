use Rattle.std.proofs.Common.{◌∙◌, ap}
use Rattle.std.proofs.lemmas.Result.{IfOk-weaker}
use Rattle.checkpoint_spec.specs.Lists.{list_of}
use Rattle.fleet_tables.proofs.LawfulLists.{lists_lawfully}
use Rattle.fleet_tables.proofs.ListedLaws.{lists_checkpoint}
use Rattle.fleet_tables.proofs.tables.Tables.snapshot.Goals as goal

pub returns-clause-stands : goal.returns-clause-stands
returns-clause-stands c = λ history s.
    IfOk-weaker c.snapshot.result _ _ (λ list e. lists_checkpoint list c.args.self.now history (e ∙ ap list_of c.self.view_is) s) c.snapshot.ensures

pub returns-clause-lawful : goal.returns-clause-lawful
returns-clause-lawful c = λ history s.
    IfOk-weaker c.snapshot.result _ _
    (λ list e. lists_lawfully list c.args.self.now history s (lists_checkpoint list c.args.self.now history (e ∙ ap list_of c.self.view_is) s)) c.snapshot.ensures
