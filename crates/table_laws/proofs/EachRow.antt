-- Columns rise, and what holds of the rows of every command holds of every row.
use Rattle.std.proofs.Common.{◌≡◌, ℕ, ℤ, Option, List, [], ◌∷◌, length, refl, sym, ap, subst, map, Bool, true, ◌&&◌, inl, inr}
use Rattle.std.specs.List.{Contains}
use Rattle.std.specs.List.Sorted.{IsStrictlySortedBy}
use Rattle.std.specs.Ordering.{is_lt}
use Rattle.table_machine.proofs.of_plain_laws.Booleans.{both_true}
use Rattle.table_machine.proofs.of_plain_laws.Orderings.{less_is}
use Rattle.table_machine.specs.text_spec.Compact.{text_cmp}
use Rattle.table_machine.specs.fleet_rows.declared.catalog.CatalogChange.{CatalogChange}
use Rattle.table_machine.specs.fleet_rows.declared.catalog.Edge.{Edge}
use Rattle.table_machine.specs.fleet_rows.declared.catalog.Resource.{Resource}
use Rattle.table_machine.specs.fleet_rows.declared.change.Change.{Change}
use Rattle.table_machine.specs.fleet_rows.declared.change.Change.TheVariants.{Facts, Catalog, Report, Deactivate, Expiration}
use Rattle.table_machine.specs.fleet_rows.declared.change.FactsChange.{FactsChange}
use Rattle.table_machine.specs.fleet_rows.declared.change.ReportChange.{ReportChange}
use Rattle.table_machine.specs.fleet_rows.declared.row.Entity.TheVariants as entity
use Rattle.table_machine.specs.fleet_rows.declared.settings.Ttls.{Ttls}
use Rattle.table_machine.specs.history_spec.Trace.{Trace}
use Rattle.table_machine.specs.history_spec.Facts as facts
use Rattle.table_machine.specs.history_spec.Life.{nodes}
use Rattle.table_machine.specs.table_spec.Cells.{factset_cells, fact_cells, resource_cells, edge_cells, catalog_cells, report_cells}
use Rattle.table_machine.specs.table_spec.Columns.{columns}
use Rattle.table_machine.specs.table_spec.Rows.{Cells, rows, rows_of}
use Rattle.table_machine.proofs.of_plain_laws.Members.{Among, Among-from_Contains, Among-from_map, Among-from_flat_map}
use Rattle.table_machine.proofs.of_history_laws.SortedTexts.{text_cmp_total}
use Rattle.table_machine.proofs.of_plain_laws.StrictlySorted.{sorted-nil, sorted-cons}
use Rattle.table_machine.proofs.Risen.{below_all}
use Rattle.table_laws.specs.RowLaws.{IsFactsetOf, IsCatalogOf, IsResourceOf, IsEdgeOf, IsReportOf, ColumnsAreStrictlySorted, RowsFillTheirColumns}
use Rattle.table_laws.proofs.FactTables.{facts_are_those_of_the_history}
use Rattle.table_laws.proofs.ShownRows.{factsets_are_of_the_newest, catalogs_are_of_the_newest, resources_are_of_the_newest, edges_are_of_the_newest, reports_are_those_kept}

-- ---- columns rise

abbrev rises : List (List ℕ) → Bool
rises [] = true
rises (x ∷ []) = true
rises (x ∷ y ∷ ys) = is_lt (text_cmp x y) && rises (y ∷ ys)

rising : (xs : List (List ℕ)) → rises xs ≡ true → IsStrictlySortedBy text_cmp xs
rising [] h = sorted-nil text_cmp
rising (x ∷ []) h = sorted-cons text_cmp x [] (λ w a. absurd a) (sorted-nil text_cmp)
rising (x ∷ y ∷ ys) h =
    let parts = both_true (is_lt (text_cmp x y)) (rises (y ∷ ys)) h in
    let rest = rising (y ∷ ys) parts.1 in
    sorted-cons text_cmp x (y ∷ ys) (below_all text_cmp text_cmp_total x y ys (less_is (text_cmp x y) parts.0) rest) rest

pub columns_are_strictly_sorted : ColumnsAreStrictlySorted
columns_are_strictly_sorted entity.Nodes = rising _ refl
columns_are_strictly_sorted entity.Factsets = rising _ refl
columns_are_strictly_sorted entity.Facts = rising _ refl
columns_are_strictly_sorted entity.Catalogs = rising _ refl
columns_are_strictly_sorted entity.Resources = rising _ refl
columns_are_strictly_sorted entity.Edges = rising _ refl
columns_are_strictly_sorted entity.Reports = rising _ refl
columns_are_strictly_sorted entity.FactContents = rising _ refl
columns_are_strictly_sorted entity.Inventory = rising _ refl
columns_are_strictly_sorted entity.Events = rising _ refl
columns_are_strictly_sorted entity.EventCounts = rising _ refl

-- ---- what holds of the rows of every command holds of every row

module _ (P : Cells → Type 0) where
  of_factset : ((c : FactsChange) → P (factset_cells c)) → (change : Change) (row : Cells) → IsFactsetOf change row → P row
  of_factset each (Facts c) row h = subst P (sym h) (each c)
  of_factset each (Catalog c) row h = absurd h
  of_factset each (Report c) row h = absurd h
  of_factset each (Deactivate c) row h = absurd h
  of_factset each (Expiration c) row h = absurd h

  of_catalog : ((c : CatalogChange) → P (catalog_cells c)) → (change : Change) (row : Cells) → IsCatalogOf change row → P row
  of_catalog each (Facts c) row h = absurd h
  of_catalog each (Catalog c) row h = subst P (sym h) (each c)
  of_catalog each (Report c) row h = absurd h
  of_catalog each (Deactivate c) row h = absurd h
  of_catalog each (Expiration c) row h = absurd h

  of_resource : ((c : CatalogChange) (r : Resource) → P (resource_cells c r)) → (change : Change) (row : Cells) → IsResourceOf change row → P row
  of_resource each (Facts c) row h = absurd h
  of_resource each (Catalog c) row h = subst P (sym h.2) (each c h.0)
  of_resource each (Report c) row h = absurd h
  of_resource each (Deactivate c) row h = absurd h
  of_resource each (Expiration c) row h = absurd h

  of_edge : ((c : CatalogChange) (e : Edge) → P (edge_cells c e)) → (change : Change) (row : Cells) → IsEdgeOf change row → P row
  of_edge each (Facts c) row h = absurd h
  of_edge each (Catalog c) row h = subst P (sym h.2) (each c h.0)
  of_edge each (Report c) row h = absurd h
  of_edge each (Deactivate c) row h = absurd h
  of_edge each (Expiration c) row h = absurd h

  of_report : ((received : Option ℤ) (c : ReportChange) → P (report_cells received c)) → (received : Option ℤ) (change : Change) (row : Cells) → IsReportOf received change row → P row
  of_report each received (Facts c) row h = absurd h
  of_report each received (Catalog c) row h = absurd h
  of_report each received (Report c) row h = subst P (sym h) (each received c)
  of_report each received (Deactivate c) row h = absurd h
  of_report each received (Expiration c) row h = absurd h

  module _ (ttls : Ttls) (history : Trace) (row : Cells) where
    pub factset_rows_have : ((c : FactsChange) → P (factset_cells c)) → Contains (rows entity.Factsets ttls history) row → P row
    factset_rows_have each h = let shown = (factsets_are_of_the_newest ttls history row).0 h in of_factset each shown.command.change row shown.shows

    pub catalog_rows_have : ((c : CatalogChange) → P (catalog_cells c)) → Contains (rows entity.Catalogs ttls history) row → P row
    catalog_rows_have each h = let shown = (catalogs_are_of_the_newest ttls history row).0 h in of_catalog each shown.command.change row shown.shows

    pub resource_rows_have : ((c : CatalogChange) (r : Resource) → P (resource_cells c r)) → Contains (rows entity.Resources ttls history) row → P row
    resource_rows_have each h = let shown = (resources_are_of_the_newest ttls history row).0 h in of_resource each shown.command.change row shown.shows

    pub edge_rows_have : ((c : CatalogChange) (e : Edge) → P (edge_cells c e)) → Contains (rows entity.Edges ttls history) row → P row
    edge_rows_have each h = let shown = (edges_are_of_the_newest ttls history row).0 h in of_edge each shown.command.change row shown.shows

    pub report_rows_have : ((received : Option ℤ) (c : ReportChange) → P (report_cells received c)) → Contains (rows entity.Reports ttls history) row → P row
    report_rows_have each h = let shown = (reports_are_those_kept ttls history row).0 h in of_report each shown.command.received shown.command.change row shown.shows

-- ---- each row has a cell for each column

node_fills : (ttls : Ttls) (history : Trace) (row : Cells) (n : List ℕ) → Among row (rows_of entity.Nodes ttls history n) → length row ≡ length (columns entity.Nodes)
node_fills ttls history row n (inl same) = ap length same
node_fills ttls history row n (inr a) = absurd a

fact_fills : (ttls : Ttls) (history : Trace) (row : Cells) → Among row (map fact_cells (facts.fact_rows ttls history)) → length row ≡ length (columns entity.Facts)
fact_fills ttls history row a = let image = Among-from_map fact_cells (facts.fact_rows ttls history) row a in ap length image.2

pub rows_fill_their_columns : RowsFillTheirColumns
rows_fill_their_columns entity.Nodes ttls history row h =
    let block = Among-from_flat_map (rows_of entity.Nodes ttls history) (nodes ttls history) row (Among-from_Contains (rows entity.Nodes ttls history) row h) in
    node_fills ttls history row block.0 block.2
rows_fill_their_columns entity.Factsets ttls history row h = factset_rows_have (λ r. length r ≡ length (columns entity.Factsets)) ttls history row (λ c. refl) h
rows_fill_their_columns entity.Facts ttls history row h =
    fact_fills ttls history row (subst (λ rs. Among row rs) (facts_are_those_of_the_history ttls history) (Among-from_Contains (rows entity.Facts ttls history) row h))
rows_fill_their_columns entity.Catalogs ttls history row h = catalog_rows_have (λ r. length r ≡ length (columns entity.Catalogs)) ttls history row (λ c. refl) h
rows_fill_their_columns entity.Resources ttls history row h = resource_rows_have (λ r. length r ≡ length (columns entity.Resources)) ttls history row (λ c r. refl) h
rows_fill_their_columns entity.Edges ttls history row h = edge_rows_have (λ r. length r ≡ length (columns entity.Edges)) ttls history row (λ c e. refl) h
rows_fill_their_columns entity.Reports ttls history row h = report_rows_have (λ r. length r ≡ length (columns entity.Reports)) ttls history row (λ received c. refl) h
rows_fill_their_columns e ttls history row h =
    absurd ((Among-from_flat_map (rows_of e ttls history) (nodes ttls history) row (Among-from_Contains (rows e ttls history) row h)).2)
