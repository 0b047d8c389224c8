use Rattle.std.proofs.Common.{◌∙◌, length, sym, ap, subst}
use Rattle.std.specs.List.{filter}
use Rattle.checkpoint_spec.specs.table_machine.Rows.{table_rows}
use Rattle.checkpoint_spec.specs.table_machine.Table.{Table}
use Rattle.fleet_tables.specs.Active.{active_rows_of, is_active_row}
use Rattle.fleet_tables.specs.Groups.{joined, AreFew}
use Rattle.fleet_tables.proofs.ActiveLaws.{active_found}
use Rattle.fleet_tables.proofs.JoinedNodes.{Groups}
use Rattle.fleet_tables.proofs.RowBounds.{counted_few}
use Rattle.fleet_tables.proofs.state.State.active_count.Goals as goal

pub count_active_groups-requires : goal.count_active_groups-requires
count_active_groups-requires c =
    let inside = c.self.inside in
    subst (λ (gs : Groups). AreFew (joined gs)) (sym c.as_slice.ensures.value) (counted_few inside.total (joined inside.groups.items) c.self.invariant.4 c.self.invariant.5)

pub returns : goal.returns
returns c =
    let inside = c.self.inside in
    let entity = c.args.entity in
    let table : Table = record { ttls = inside.ttls; expiry = inside.expiry; retention = inside.retention; nodes = joined inside.groups.items } in
    c.count_active_groups.ensures ∙ ap (λ (gs : Groups). length (active_rows_of entity inside.ttls inside.expiry (joined gs))) c.as_slice.ensures.value
    ∙ ap length (sym (active_found entity table c.self.invariant.3 c.self.invariant.6)) ∙ ap (λ (t : Table). length (filter (is_active_row entity t) (table_rows entity t))) c.self.view_is
