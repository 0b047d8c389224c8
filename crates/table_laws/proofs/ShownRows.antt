-- A row is there exactly where a newest command, or a report that is kept, shows it.
use Rattle.std.proofs.Common.{◌≡◌, ℕ, ℤ, List, refl, sym, subst, map, Option, Some, None, inl, inr}
use Rattle.std.specs.List.{Contains, flat_map}
use Rattle.table_machine.specs.fleet_rows.declared.change.Change.{Change}
use Rattle.table_machine.specs.fleet_rows.declared.change.Change.TheVariants.{Facts, Catalog, Report, Deactivate, Expiration}
use Rattle.table_machine.specs.fleet_rows.declared.command.Kind.{Kind}
use Rattle.table_machine.specs.fleet_rows.declared.command.Kind.TheVariants as kind
use Rattle.table_machine.specs.fleet_rows.declared.settings.Ttls.{Ttls}
use Rattle.table_machine.specs.fleet_rows.declared.applied.Applied.{Applied}
use Rattle.table_machine.specs.history_spec.Trace.{Trace}
use Rattle.table_machine.specs.history_spec.Node.{newest}
use Rattle.table_machine.specs.history_spec.Life.{life, nodes, kept_reports}
use Rattle.table_machine.specs.table_spec.Cells.{resource_cells, edge_cells}
use Rattle.table_machine.specs.table_spec.Rows.{Cells, change_of, shown, newest_change, factset_rows, catalog_rows, resource_rows, edge_rows, report_rows}
use Rattle.table_machine.specs.table_spec.Sorted.{sorted_by, resource_cmp, edge_cmp, report_cmp}
use Rattle.table_machine.proofs.of_plain_laws.Members.{Among, Among-from_Contains, Contains-from_Among, Among-from_map, Among-map, Among-from_flat_map, Among-flat_map}
use Rattle.table_machine.proofs.of_history_laws.NewestIsGreatest.{newest_is_greatest}
use Rattle.table_machine.proofs.of_history_laws.Lives.{is_node}
use Rattle.table_machine.proofs.TableLaws.{kept_among_life}
use Rattle.table_laws.specs.RowLaws.{IsFactsetOf, IsCatalogOf, IsResourceOf, IsEdgeOf, IsReportOf, IsOfTheNewest, IsOfAKeptReport, FactsetsAreOfTheNewest, CatalogsAreOfTheNewest, ResourcesAreOfTheNewest, EdgesAreOfTheNewest, ReportsAreThoseKept}
use Rattle.table_laws.proofs.SortedLists.{among-sorted_by, among-from_sorted_by}

-- ---- the rows of one command

pub factset_told : (change : Change) (row : Cells) → Among row (factset_rows change) → IsFactsetOf change row
factset_told (Facts c) row (inl same) = same
factset_told (Facts c) row (inr a) = absurd a
factset_told (Catalog c) row a = a
factset_told (Report c) row a = a
factset_told (Deactivate c) row a = a
factset_told (Expiration c) row a = a

factset_there : (change : Change) (row : Cells) → IsFactsetOf change row → Among row (factset_rows change)
factset_there (Facts c) row h = inl h
factset_there (Catalog c) row h = h
factset_there (Report c) row h = h
factset_there (Deactivate c) row h = h
factset_there (Expiration c) row h = h

pub catalog_told : (change : Change) (row : Cells) → Among row (catalog_rows change) → IsCatalogOf change row
catalog_told (Facts c) row a = a
catalog_told (Catalog c) row (inl same) = same
catalog_told (Catalog c) row (inr a) = absurd a
catalog_told (Report c) row a = a
catalog_told (Deactivate c) row a = a
catalog_told (Expiration c) row a = a

catalog_there : (change : Change) (row : Cells) → IsCatalogOf change row → Among row (catalog_rows change)
catalog_there (Facts c) row h = h
catalog_there (Catalog c) row h = inl h
catalog_there (Report c) row h = h
catalog_there (Deactivate c) row h = h
catalog_there (Expiration c) row h = h

pub report_told : (received : Option ℤ) (change : Change) (row : Cells) → Among row (report_rows received change) → IsReportOf received change row
report_told received (Facts c) row a = a
report_told received (Catalog c) row a = a
report_told received (Report c) row (inl same) = same
report_told received (Report c) row (inr a) = absurd a
report_told received (Deactivate c) row a = a
report_told received (Expiration c) row a = a

pub report_there : (received : Option ℤ) (change : Change) (row : Cells) → IsReportOf received change row → Among row (report_rows received change)
report_there received (Facts c) row h = h
report_there received (Catalog c) row h = h
report_there received (Report c) row h = inl h
report_there received (Deactivate c) row h = h
report_there received (Expiration c) row h = h

pub resource_told : (change : Change) (row : Cells) → Among row (resource_rows change) → IsResourceOf change row
resource_told (Facts c) row a = a
resource_told (Catalog c) row a =
    let image = Among-from_map (resource_cells c) (sorted_by resource_cmp c.resources) row a in
    (image.0, Contains-from_Among c.resources image.0 (among-from_sorted_by resource_cmp image.0 c.resources image.1), image.2)
resource_told (Report c) row a = a
resource_told (Deactivate c) row a = a
resource_told (Expiration c) row a = a

resource_there : (change : Change) (row : Cells) → IsResourceOf change row → Among row (resource_rows change)
resource_there (Facts c) row h = h
resource_there (Catalog c) row h =
    subst (λ r. Among r (map (resource_cells c) (sorted_by resource_cmp c.resources))) (sym h.2)
    (Among-map (resource_cells c) (sorted_by resource_cmp c.resources) h.0 (among-sorted_by resource_cmp h.0 c.resources (Among-from_Contains c.resources h.0 h.1)))
resource_there (Report c) row h = h
resource_there (Deactivate c) row h = h
resource_there (Expiration c) row h = h

pub edge_told : (change : Change) (row : Cells) → Among row (edge_rows change) → IsEdgeOf change row
edge_told (Facts c) row a = a
edge_told (Catalog c) row a =
    let image = Among-from_map (edge_cells c) (sorted_by edge_cmp c.edges) row a in
    (image.0, Contains-from_Among c.edges image.0 (among-from_sorted_by edge_cmp image.0 c.edges image.1), image.2)
edge_told (Report c) row a = a
edge_told (Deactivate c) row a = a
edge_told (Expiration c) row a = a

edge_there : (change : Change) (row : Cells) → IsEdgeOf change row → Among row (edge_rows change)
edge_there (Facts c) row h = h
edge_there (Catalog c) row h =
    subst (λ r. Among r (map (edge_cells c) (sorted_by edge_cmp c.edges))) (sym h.2)
    (Among-map (edge_cells c) (sorted_by edge_cmp c.edges) h.0 (among-sorted_by edge_cmp h.0 c.edges (Among-from_Contains c.edges h.0 h.1)))
edge_there (Report c) row h = h
edge_there (Deactivate c) row h = h
edge_there (Expiration c) row h = h

-- ---- the newest command

module _ (k : Kind) (shown_rows : Change → List Cells) (Shows : Change → Cells → Type 0) (ttls : Ttls) (history : Trace) (row : Cells) where
  abbrev of_node : List ℕ → List Cells
  of_node n = shown shown_rows (newest_change k ttls history n)

  of_newest : ((change : Change) → Among row (shown_rows change) → Shows change row) → (n : List ℕ) (o : Option Applied) → newest k (life ttls n history) ≡ o → Among row (shown shown_rows (change_of o)) → IsOfTheNewest k Shows ttls history row
  of_newest told n None e a = absurd a
  of_newest told n (Some x) e a = record { node = n; command = x; is_newest = e; shows = told x.change a }

  pub is_shown : ((change : Change) → Among row (shown_rows change) → Shows change row) → Contains (flat_map of_node (nodes ttls history)) row → IsOfTheNewest k Shows ttls history row
  is_shown told h =
      let block = Among-from_flat_map of_node (nodes ttls history) row (Among-from_Contains (flat_map of_node (nodes ttls history)) row h) in
      of_newest told block.0 (newest k (life ttls block.0 history)) refl block.2

  pub is_there : ((change : Change) → Shows change row → Among row (shown_rows change)) → IsOfTheNewest k Shows ttls history row → Contains (flat_map of_node (nodes ttls history)) row
  is_there there h =
      let among = (newest_is_greatest k (life ttls h.node history) h.command h.is_newest).among in
      let in_node : Among row (of_node h.node) = subst (λ o. Among row (shown shown_rows (change_of o))) (sym h.is_newest) (there h.command.change h.shows) in
      Contains-from_Among (flat_map of_node (nodes ttls history)) row (Among-flat_map of_node (nodes ttls history) h.node row (is_node ttls h.node history h.command among) in_node)

pub factsets_are_of_the_newest : FactsetsAreOfTheNewest
factsets_are_of_the_newest ttls history row = (
  is_shown kind.Facts factset_rows IsFactsetOf ttls history row (λ change. factset_told change row),
  is_there kind.Facts factset_rows IsFactsetOf ttls history row (λ change. factset_there change row),
)

pub catalogs_are_of_the_newest : CatalogsAreOfTheNewest
catalogs_are_of_the_newest ttls history row = (
  is_shown kind.Catalog catalog_rows IsCatalogOf ttls history row (λ change. catalog_told change row),
  is_there kind.Catalog catalog_rows IsCatalogOf ttls history row (λ change. catalog_there change row),
)

pub resources_are_of_the_newest : ResourcesAreOfTheNewest
resources_are_of_the_newest ttls history row = (
  is_shown kind.Catalog resource_rows IsResourceOf ttls history row (λ change. resource_told change row),
  is_there kind.Catalog resource_rows IsResourceOf ttls history row (λ change. resource_there change row),
)

pub edges_are_of_the_newest : EdgesAreOfTheNewest
edges_are_of_the_newest ttls history row = (
  is_shown kind.Catalog edge_rows IsEdgeOf ttls history row (λ change. edge_told change row),
  is_there kind.Catalog edge_rows IsEdgeOf ttls history row (λ change. edge_there change row),
)

-- ---- reports

module _ (ttls : Ttls) (history : Trace) (row : Cells) where
  abbrev rows_of_report : Applied → List Cells
  rows_of_report x = report_rows x.received x.change

  abbrev in_order : List ℕ → List Applied
  in_order n = sorted_by report_cmp (kept_reports ttls n history)

  abbrev of_reports : List ℕ → List Cells
  of_reports n = flat_map rows_of_report (in_order n)

  report_is_shown : Contains (flat_map of_reports (nodes ttls history)) row → IsOfAKeptReport ttls history row
  report_is_shown h =
      let block = Among-from_flat_map of_reports (nodes ttls history) row (Among-from_Contains (flat_map of_reports (nodes ttls history)) row h) in
      let report = Among-from_flat_map rows_of_report (in_order block.0) row block.2 in
      record {
        node = block.0;
        command = report.0;
        kept = Contains-from_Among (kept_reports ttls block.0 history) report.0 (among-from_sorted_by report_cmp report.0 (kept_reports ttls block.0 history) report.1);
        shows = report_told report.0.received report.0.change row report.2;
      }

  report_is_there : IsOfAKeptReport ttls history row → Contains (flat_map of_reports (nodes ttls history)) row
  report_is_there h =
      let among = Among-from_Contains (kept_reports ttls h.node history) h.command h.kept in
      let in_node : Among row (of_reports h.node) = Among-flat_map rows_of_report (in_order h.node) h.command row (among-sorted_by report_cmp h.command (kept_reports ttls h.node history) among) (report_there h.command.received h.command.change row h.shows) in
      Contains-from_Among (flat_map of_reports (nodes ttls history)) row
      (Among-flat_map of_reports (nodes ttls history) h.node row (is_node ttls h.node history h.command (kept_among_life ttls history h.node h.command among)) in_node)

pub reports_are_those_kept : ReportsAreThoseKept
reports_are_those_kept ttls history row = (report_is_shown ttls history row, report_is_there ttls history row)
