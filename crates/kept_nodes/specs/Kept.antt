-- What the tables store besides their value: hashes and orders of rows as far as computed, numbers of rows, and the order of
-- nodes and reports.
use Rattle.std.specs.Prelude.{◌≡◌, ℕ, List, map, Some, slice_get, IfSome}
use Rattle.std.specs.List.{AllByRecursion}
use Rattle.std.specs.List.Sorted.{IsStrictlySortedBy}
use Rattle.checkpoint_spec.specs.text_spec.Json.{members_list}
use Rattle.checkpoint_spec.specs.stamp_time.Range.{IsStampMoment}
use Rattle.checkpoint_spec.specs.fleet_rows.declared.catalog.CatalogChange.{CatalogChange}
use Rattle.checkpoint_spec.specs.fleet_rows.declared.catalog.Edge.{Edge}
use Rattle.checkpoint_spec.specs.fleet_rows.declared.catalog.Resource.{Resource}
use Rattle.checkpoint_spec.specs.fleet_rows.declared.change.FactsChange.{FactsChange}
use Rattle.checkpoint_spec.specs.history_spec.Facts.{by_name}
use Rattle.checkpoint_spec.specs.history_spec.Report.{report_object}
use Rattle.checkpoint_spec.specs.table_machine.Table as machine
use Rattle.checkpoint_spec.specs.table_spec.Cells.{hash, factset_object, catalog_object, resource_object}
use Rattle.checkpoint_spec.specs.table_spec.Sorted.{sorted_by, resource_cmp, edge_cmp, report_cmp}
use Rattle.row_cells.specs.Texts.{HasPrintableMoments}
use Rattle.kept_nodes.specs.declared.counts.Counts.{Counts}
use Rattle.kept_nodes.specs.declared.kept.Factset.{Factset}
use Rattle.kept_nodes.specs.declared.kept.NodeCatalog.{NodeCatalog}
use Rattle.kept_nodes.specs.declared.kept.Report.{Report}
use Rattle.kept_nodes.specs.declared.node.Node.{Node}
use Rattle.kept_nodes.specs.declared.shown.CatalogShown.{CatalogShown}
use Rattle.kept_nodes.specs.declared.shown.FactsShown.{FactsShown}
use Rattle.kept_nodes.specs.declared.shown.ResourcesShown.{ResourcesShown}
use Rattle.kept_nodes.specs.Seen.{node_seen, report_seen}
use Rattle.kept_nodes.specs.Counted.{none, total_from, AreCountedFrom, IsWithin}

-- ---- the computed parts of a change

abbrev pub IsFactOrder : List ℕ → FactsChange → Type 0
IsFactOrder order c = map (slice_get c.values) order ≡ map Some (members_list (by_name c.values))

abbrev pub IsResourceOrder : List ℕ → List Resource → Type 0
IsResourceOrder order resources = map (slice_get resources) order ≡ map Some (sorted_by resource_cmp resources)

abbrev pub IsEdgeOrder : List ℕ → List Edge → Type 0
IsEdgeOrder order edges = map (slice_get edges) order ≡ map Some (sorted_by edge_cmp edges)

abbrev pub AreResourcesShown : ResourcesShown → List Resource → Type 0
AreResourcesShown shown resources =
    IsResourceOrder shown.order resources
    × (shown.hashes ≡ map (λ r. hash (resource_object r)) (sorted_by resource_cmp resources))

-- whatever is stored of the facts is correct
abbrev pub IsFactsShown : FactsShown → FactsChange → Type 0
IsFactsShown shown c =
    IfSome shown.hash (λ h. h ≡ hash (factset_object c)) × IfSome shown.order (λ order. IsFactOrder order c)

abbrev pub IsCatalogShown : CatalogShown → CatalogChange → Type 0
IsCatalogShown shown c =
    IfSome shown.hash (λ h. h ≡ hash (catalog_object c))
    × IfSome shown.resources (λ r. AreResourcesShown r c.resources)
    × IfSome shown.edge_order (λ order. IsEdgeOrder order c.edges)

-- ---- the stored commands

abbrev pub IsFactset : Factset → Type 0
IsFactset kept = IsFactsShown kept.shown kept.change × IsStampMoment kept.change.stamp

abbrev pub IsCatalog : NodeCatalog → Type 0
IsCatalog kept = IsCatalogShown kept.shown kept.change × IsStampMoment kept.change.stamp

abbrev pub IsReport : Report → Type 0
IsReport kept =
    HasPrintableMoments kept.change
    × IfSome kept.hash (λ h. h ≡ hash (report_object kept.change))
    × IsStampMoment kept.change.stamp

-- whatever is stored of a node is correct, and its reports are sorted
abbrev pub IsNode : Node → Type 0
IsNode node =
    IfSome node.active IsStampMoment
    × IfSome node.facts IsFactset
    × IfSome node.catalog IsCatalog
    × AllByRecursion IsReport node.reports.items
    × IsStrictlySortedBy report_cmp (map report_seen node.reports.items)

-- whatever is stored of a group's nodes is correct, they are sorted, and their rows are counted
abbrev pub AreNodes : List Node → Counts → Type 0
AreNodes nodes total =
    AllByRecursion IsNode nodes
    × IsStrictlySortedBy machine.node_cmp (map node_seen nodes)
    × AreCountedFrom none nodes
    × (total ≡ total_from none nodes)
    × IsWithin total
