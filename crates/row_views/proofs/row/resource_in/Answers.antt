use Rattle.std.proofs.Common.{◌≡◌, ◌∙◌, ◌<◌, ℕ, List, length, slice_get, Some, refl, sym, ap, subst, arith}
use Rattle.std.specs.Option.{option_map}
use Rattle.std.proofs.lemmas.Option.{slice_get_read, slice_get-map}
use Rattle.fleet_tables.specs.fleet_rows.declared.catalog.Resource.{Resource}
use Rattle.paging_text.specs.means_spec.table_spec.Cells.{hash, resource_object, resource_cells}
use Rattle.paging_text.specs.means_spec.table_spec.Sorted.{sorted_by, resource_cmp}
use Rattle.kept_nodes.proofs.RowCounts.{resource_order_length}
use Rattle.kept_nodes.proofs.RowPlaces.{place_inside, ordered_is}
use Rattle.row_views.proofs.row.resource_in.Goals as goal

pub at-place-requires : goal.at-place-requires
at-place-requires c = omega (arith, c.requires.within, resource_order_length c.args.shown.now.order c.args.change.now.resources c.requires.shown.0)

pub offset_bounds-as_slice-place : goal.offset_bounds-as_slice-place
offset_bounds-as_slice-place c =
    let resources = c.args.change.now.resources in
    let place = c.at-place.result in
    let inside = place_inside resources c.args.shown.now.order (sorted_by resource_cmp resources) c.requires.shown.0 c.args.j place c.at-place.ensures in
    let there : place < length c.as_slice.result.now = subst (λ rs. place < length rs) (sym c.as_slice.ensures) inside in
    omega (arith, there)

pub bounds-as_slice-place : goal.bounds-as_slice-place
bounds-as_slice-place c =
    let resources = c.args.change.now.resources in
    let place = c.at-place.result in
    let inside = place_inside resources c.args.shown.now.order (sorted_by resource_cmp resources) c.requires.shown.0 c.args.j place c.at-place.ensures in
    subst (λ rs. place < length rs) (sym c.as_slice.ensures) inside

pub invariant_of-result : goal.invariant_of-result
invariant_of-result c =
    let shown = c.args.shown.now in
    let resources = c.args.change.now.resources in
    let place = c.at-place.result in
    let resource = c.index-as_slice-place.result in
    let sorted = sorted_by resource_cmp resources in
    let inside = place_inside resources shown.order sorted c.requires.shown.0 c.args.j place c.at-place.ensures in
    let within_slice : place < length c.as_slice.result.now = subst (λ rs. place < length rs) (sym c.as_slice.ensures) inside in
    let there : slice_get resources place ≡ Some resource =
    ap (λ rs. slice_get rs place) (sym c.as_slice.ensures) ∙ slice_get_read c.as_slice.result.now (length c.as_slice.result.now) place resource refl within_slice c.index-as_slice-place.is in
    let at : slice_get sorted c.args.j ≡ Some resource = ordered_is resources shown.order sorted c.requires.shown.0 c.args.j place c.at-place.ensures resource there in
    ap (λ (hs : List (List ℕ)). slice_get hs c.args.j) c.requires.shown.1
    ∙ slice_get-map (λ (r : Resource). hash (resource_object r)) sorted c.args.j
    ∙ ap (option_map (λ (r : Resource). hash (resource_object r))) at

pub returns : goal.returns
returns c =
    let change = c.args.change.now in
    let order = c.args.shown.now.order in
    let place = c.at-place.result in
    let resource = c.index-as_slice-place.result in
    let sorted = sorted_by resource_cmp change.resources in
    let inside = place_inside change.resources order sorted c.requires.shown.0 c.args.j place c.at-place.ensures in
    let within_slice : place < length c.as_slice.result.now = subst (λ rs. place < length rs) (sym c.as_slice.ensures) inside in
    let there : slice_get change.resources place ≡ Some resource =
    ap (λ rs. slice_get rs place) (sym c.as_slice.ensures) ∙ slice_get_read c.as_slice.result.now (length c.as_slice.result.now) place resource refl within_slice c.index-as_slice-place.is in
    let at : slice_get sorted c.args.j ≡ Some resource = ordered_is change.resources order sorted c.requires.shown.0 c.args.j place c.at-place.ensures resource there in
    slice_get-map (resource_cells change) sorted c.args.j ∙ ap (option_map (resource_cells change)) at
