use Rattle.std.proofs.Common.{◌≡◌, ◌∙◌, map, ap}
use Rattle.std.specs.List.{flat_map}
use Rattle.checkpoint_spec.specs.table_machine.Table.{Table}
use Rattle.checkpoint_spec.specs.Lists.{commands_of, list_of, mark_of}
use Rattle.fleet_tables.specs.Groups.{joined}
use Rattle.fleet_tables.proofs.JoinedNodes.{Groups}
use Rattle.fleet_tables.proofs.state.State.snapshot.Goals as goal

pub returns : goal.returns
returns c =
    let inside = c.self.inside in
    let table : Table = record { ttls = inside.ttls; expiry = inside.expiry; retention = inside.retention; nodes = joined inside.groups.items } in
    let marks : c.in_ok-marks.marks ≡ map mark_of table.nodes = c.in_ok-marks.ensures ∙ ap (λ (l : Groups). map mark_of (joined l)) c.as_slice.ensures.value in
    let applied : c.in_ok-applied.applied ≡ flat_map commands_of table.nodes = c.in_ok-applied.ensures ∙ ap (λ (l : Groups). flat_map commands_of (joined l)) c.as_slice-2.ensures.value in
    (λ i. record (list_of table) { marks = marks i; applied = applied i }) ∙ ap list_of c.self.view_is
