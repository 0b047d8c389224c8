use Rattle.std.proofs.Common.{◌≡◌, ◌+◌, slice_get, subst}
use Rattle.checkpoint_spec.specs.table_machine.Rows.{node_rows, table_rows}
use Rattle.checkpoint_spec.specs.table_machine.Table.{Table}
use Rattle.kept_nodes.specs.Seen.{node_seen}
use Rattle.fleet_tables.proofs.tables.Tables.node_at.Goals as goal

pub returns-clause-rows : goal.returns-clause-rows
returns-clause-rows g c = λ d lt.
    subst (λ (t : Table). slice_get (table_rows c.args.entity t) (c.args.i + d) ≡ slice_get (node_rows c.args.entity t.ttls t.expiry (node_seen c.node_at.result.0.now)) (c.node_at.result.1 + d))
    c.self.view_is (c.node_at.ensures.rows d lt)
