use Rattle.std.proofs.Common.{ap}
use Rattle.checkpoint_spec.specs.fleet_rows.declared.row.Entity.TheVariants.{Resources}
use Rattle.checkpoint_spec.specs.table_machine.Rows.{table_rows}
use Rattle.checkpoint_spec.specs.table_machine.Table.{Table}
use Rattle.kept_nodes.specs.Spans.{places_of}
use Rattle.kept_nodes.specs.Wanted.{has_own, of_resource}
use Rattle.fleet_tables.proofs.tables.Tables.of_resource.Goals as goal

pub returns : goal.returns
returns c = ap (λ (t : Table). places_of (has_own Resources (of_resource c.args.rtype.now c.args.title.now)) (table_rows Resources t)) c.self.view_is
