use Rattle.std.proofs.Common.{◌≡◌, ◌∙◌, ◌<◌, length, slice_get, Some, refl, sym, ap, subst, arith}
use Rattle.std.proofs.lemmas.Option.{slice_get_read}
use Rattle.checkpoint_spec.specs.fleet_rows.declared.row.Entity.TheVariants.{Edges}
use Rattle.checkpoint_spec.specs.table_spec.Cells.{edge_cells}
use Rattle.checkpoint_spec.specs.table_spec.Sorted.{sorted_by, edge_cmp}
use Rattle.kept_nodes.proofs.RowCounts.{edge_order_length}
use Rattle.kept_nodes.proofs.RowPlaces.{place_inside, row_in_order}
use Rattle.kept_nodes.proofs.rows.edge_at.Goals as goal

pub at-place-requires : goal.at-place-requires
at-place-requires c = omega (arith, c.requires.within, edge_order_length c.args.order.now c.args.change.now.edges c.requires.order)

pub offset_bounds-as_slice-place : goal.offset_bounds-as_slice-place
offset_bounds-as_slice-place c =
    let edges = c.args.change.now.edges in
    let place = c.at-place.result in
    let inside : place < length edges = place_inside edges c.args.order.now (sorted_by edge_cmp edges) c.requires.order c.args.j place c.at-place.ensures in
    let there : place < length c.as_slice.result.now = subst (λ es. place < length es) (sym c.as_slice.ensures) inside in
    omega (arith, there)

pub bounds-as_slice-place : goal.bounds-as_slice-place
bounds-as_slice-place c =
    let edges = c.args.change.now.edges in
    let place = c.at-place.result in
    let inside : place < length edges = place_inside edges c.args.order.now (sorted_by edge_cmp edges) c.requires.order c.args.j place c.at-place.ensures in
    subst (λ es. place < length es) (sym c.as_slice.ensures) inside

pub returns : goal.returns
returns c =
    let change = c.args.change.now in
    let order = c.args.order.now in
    let place = c.at-place.result in
    let edge = c.index-as_slice-place.result in
    let sorted = sorted_by edge_cmp change.edges in
    let inside : place < length change.edges = place_inside change.edges order sorted c.requires.order c.args.j place c.at-place.ensures in
    let within_slice : place < length c.as_slice.result.now = subst (λ es. place < length es) (sym c.as_slice.ensures) inside in
    let there : slice_get change.edges place ≡ Some edge =
    ap (λ es. slice_get es place) (sym c.as_slice.ensures) ∙ slice_get_read c.as_slice.result.now (length c.as_slice.result.now) place edge refl within_slice c.index-as_slice-place.is in
    row_in_order change.edges order sorted c.requires.order c.args.j place c.at-place.ensures (edge_cells change) Edges edge c.edge_row.result there c.edge_row.ensures
