use Rattle.std.proofs.Common.{◌≡◌, ◌∙◌, ◌+◌, ◌<◌, Some, length, slice_get, refl, ap, subst}
use Rattle.std.proofs.lemmas.Option.{slice_get_read}
use Rattle.checkpoint_spec.specs.table_machine.Rows.{node_rows, table_rows}
use Rattle.checkpoint_spec.specs.table_machine.Table.{Table}
use Rattle.kept_nodes.specs.Seen.{node_seen}
use Rattle.fleet_tables.specs.Groups.{joined, IsRowOf}
use Rattle.fleet_tables.proofs.GroupRows.{further_rows}
use Rattle.fleet_tables.proofs.JoinedNodes.{Groups}
use Rattle.fleet_tables.proofs.state.State.node_at.Goals as goal

pub returns-clause-rows : goal.returns-clause-rows
returns-clause-rows c = λ d lt.
    let inside = c.self.inside in
    let groups = inside.groups.items in
    let entity = c.args.entity in
    let same = c.as_slice.ensures.value in
    let at = c.group_of_row-at.result.0 in
    let place = c.group_of_row-at.result.1 in
    let group = c.index.result.now in
    let node = c.node_at.result.0.now in
    let within = subst (λ (gs : Groups). at < length gs) same c.group_of_row-at.ensures.place in
    let there : slice_get groups at ≡ Some group = slice_get_read groups (length groups) at group refl within c.index.ensures in
    let row : IsRowOf entity (joined groups) c.args.i group place =
    subst (λ (gs : Groups). IsRowOf entity (joined gs) c.args.i group place) same
    (c.group_of_row-at.ensures.row group (ap (λ (gs : Groups). slice_get gs at) same ∙ there)) in
    subst (λ (t : Table). slice_get (table_rows entity t) (c.args.i + d) ≡ slice_get (node_rows entity t.ttls t.expiry (node_seen node)) (c.node_at.result.1 + d)) c.self.view_is
    (further_rows entity (joined groups) group c.args.i place c.node_at.result.1 node row c.node_at.ensures.kept c.node_at.ensures.rows inside.ttls inside.expiry d lt)
