-- The orders of rows are total.
use Rattle.std.specs.Cmp.{IsTotalOrder}
use Rattle.std.proofs.lemmas.Cmp.{nat_list_cmp_total, on_total, then_total}
use Rattle.std.proofs.Common.{ℕ, List}
use Rattle.table_spec.specs.text_spec.Json.{Json}
use Rattle.table_spec.specs.fleet_rows.declared.catalog.Edge.{Edge}
use Rattle.table_spec.specs.fleet_rows.declared.catalog.Resource.{Resource}
use Rattle.table_spec.specs.wire_spec.Table.{relationship_name}
use Rattle.table_spec.specs.Sorted.{resource_cmp, edge_cmp}
use Rattle.row_cells.specs.Placed.{name_cmp}

pub name_total : IsTotalOrder name_cmp
name_total = on_total (λ (m : List ℕ × Json). m.0) nat_list_cmp_total

pub resource_total : IsTotalOrder resource_cmp
resource_total =
    then_total (on_total (λ (r : Resource). r.rtype) nat_list_cmp_total) (on_total (λ (r : Resource). r.title) nat_list_cmp_total)

pub edge_total : IsTotalOrder edge_cmp
edge_total =
    then_total (on_total (λ (e : Edge). e.source.rtype) nat_list_cmp_total)
    (then_total (on_total (λ (e : Edge). e.source.title) nat_list_cmp_total)
    (then_total (on_total (λ (e : Edge). e.target.rtype) nat_list_cmp_total)
    (then_total (on_total (λ (e : Edge). e.target.title) nat_list_cmp_total)
    (on_total (λ (e : Edge). relationship_name e.relationship) nat_list_cmp_total))))
