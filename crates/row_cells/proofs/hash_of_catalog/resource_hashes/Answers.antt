use Rattle.std.proofs.Common.{◌≡◌, ◌∙◌, ap, map}
use Rattle.std.proofs.lemmas.Result.{IfOk-weaker}
use Rattle.table_spec.specs.Cells.{hash, resource_object}
use Rattle.table_spec.specs.Sorted.{sorted_by, resource_cmp}
use Rattle.row_cells.proofs.SortedLaws.{places_within, known_items, mapped_items}
use Rattle.row_cells.proofs.hash_of_catalog.resource_hashes.Goals as goal

pub in_order-requires : goal.in_order-requires
in_order-requires c = places_within c.args.resources.now (sorted_by resource_cmp c.args.resources.now) c.args.places.now c.requires

pub returns : goal.returns
returns c =
    let resources = c.args.resources.now in
    let sorted = sorted_by resource_cmp resources in
    let items = c.in_ok-ordered.ordered.items in
    let these : map (λ r. r.now) items ≡ sorted = known_items (λ r. r.now) items sorted (c.in_ok-ordered.ensures ∙ c.requires) in
    IfOk-weaker c.digests.result _ _ (λ v is.
    is ∙ ap (map (λ r. hash (resource_object r.now))) c.as_slice.ensures.value
    ∙ mapped_items (λ r. r.now) (λ r. hash (resource_object r)) items sorted these) c.digests.ensures
