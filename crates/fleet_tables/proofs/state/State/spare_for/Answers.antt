use Rattle.std.proofs.Common.{◌≡◌, ◌∙◌, ◌<◌, ◌^◌, length, sym, ap, subst}
use Rattle.std.specs.Option.{unwrap_or}
use Rattle.checkpoint_spec.specs.fleet_rows.declared.row.Entity.TheVariants.{Nodes}
use Rattle.checkpoint_spec.specs.table_machine.Table.{Table}
use Rattle.fleet_tables.specs.Groups.{AreCountsOf}
use Rattle.kept_nodes.specs.Computed.{IsListFor}
use Rattle.fleet_tables.specs.Rooms.{IsNewFor}
use Rattle.fleet_tables.proofs.JoinedNodes.{no_groups}
use Rattle.fleet_tables.proofs.RoomFits.{fits, spare_at, few_reports}
use Rattle.kept_nodes.proofs.RowCounts.{nodes_count}
use Rattle.fleet_tables.proofs.state.State.spare_for.Goals as goal

pub room_for_reports-requires : goal.room_for_reports-requires
room_for_reports-requires c = subst (λ n. n < 2 ^ 63) (sym c.unwrap_or.ensures) (few_reports c.reports_of-found.result c.reports_of-found.ensures.bound)

pub returns : goal.returns
returns c =
    let table = c.args.self.now in
    let total = c.self.inside.total in
    let view = ap (λ (t : Table). t.nodes) c.self.view_is in
    let counted : AreCountsOf total table.nodes = subst (AreCountsOf total) view c.self.invariant.4 in
    let number : total.nodes ≡ length table.nodes = counted Nodes table.ttls table.expiry ∙ sym (nodes_count table.ttls table.expiry table.nodes) in
    let room = subst (IsListFor c.args.shown.now c.in_ok-reports.reports) c.unwrap_or.ensures c.in_ok-reports.ensures in
    let new = subst (λ name. IsNewFor c.in_ok-new.new c.reports_of-found.result name total.nodes) (c.certname-2.ensures ∙ sym c.certname.ensures) c.in_ok-new.ensures in
    spare_at table c.args.change.now c.args.shown.now (record { reports = c.in_ok-reports.reports; place = c.in_ok-place.place; new = c.in_ok-new.new; first = c.in_ok-first.first }) c.certname.result.now c.reports_of-found.result total.nodes
    c.certname.ensures number c.reports_of-found.ensures.value room c.in_ok-place.ensures new
    (λ e. c.in_ok-first.ensures (c.as_slice.ensures.value ∙ no_groups c.self.inside.groups.items c.self.invariant.2 (view ∙ e)))
    (fits table total counted c.args.change.now c.in_ok-check_total.ensures)
