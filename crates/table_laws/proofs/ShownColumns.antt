-- What rows show of their commands, column by column.
use Rattle.std.proofs.Common.{◌≡◌, ◌∙◌, ℕ, ℤ, List, [], ◌∷◌, refl, sym, ap, subst, true, false, ◌||◌, Option, Some, None, codes, inl}
use Rattle.std.specs.Prelude.{is_some}
use Rattle.std.specs.List.{Contains}
use Rattle.table_machine.specs.text_spec.Json.{null}
use Rattle.table_machine.specs.fleet_rows.Cell.{plain}
use Rattle.table_machine.specs.fleet_rows.declared.applied.Applied.{Applied}
use Rattle.table_machine.specs.fleet_rows.declared.change.Change.{Change}
use Rattle.table_machine.specs.fleet_rows.declared.change.Change.TheVariants.{Facts, Catalog, Report, Deactivate, Expiration}
use Rattle.table_machine.specs.fleet_rows.declared.command.Kind.{Kind}
use Rattle.table_machine.specs.fleet_rows.declared.command.Kind.TheVariants as kind
use Rattle.table_machine.specs.fleet_rows.declared.row.Entity.{Entity}
use Rattle.table_machine.specs.fleet_rows.declared.row.Entity.TheVariants as entity
use Rattle.table_machine.specs.fleet_rows.declared.settings.Ttls.{Ttls}
use Rattle.table_machine.specs.history_spec.Facts.{rows_of_facts}
use Rattle.table_machine.specs.history_spec.Life.{life, nodes, greatest_expiry, kept_reports}
use Rattle.table_machine.specs.history_spec.Node.{newest, deactivated, expired}
use Rattle.table_machine.specs.history_spec.Report.{text_or_null}
use Rattle.table_machine.specs.history_spec.Trace.{Trace}
use Rattle.table_machine.proofs.of_plain_laws.Members.{Among, Among-from_Contains, Contains-from_Among, Among-from_map, Among-from_flat_map}
use Rattle.table_machine.proofs.of_history_laws.NewestIsGreatest.{newest_is_greatest, none_of_kind}
use Rattle.table_machine.proofs.of_history_laws.Ranks.{kind_from_is_kind}
use Rattle.table_machine.specs.table_spec.Cells.{moment_or_null, fact_cells}
use Rattle.table_machine.specs.table_spec.Rows.{Cells, change_of, shown, change_environment, environment_cell, timestamp_cell, factset_rows, fact_rows, catalog_rows, resource_rows, report_rows, node_cells, rows, rows_of}
use Rattle.table_machine.specs.table_spec.Sorted.{sorted_by, report_cmp}
use Rattle.table_laws.specs.JoinLaws.{certname_of, ShowsTheReport}
use Rattle.table_laws.specs.Named.{cell_under}
use Rattle.table_laws.specs.RowLaws.{IsFactsetOf, IsCatalogOf, IsResourceOf, IsReportOf}
use Rattle.table_laws.specs.ShownLaws.{shown_environment, shown_timestamp, ShowsTheNode, NodesShowTheirState, is_moment, NodesShowWhetherTheyAreInactive, IsOfTheGreatestRank, ShowsTheGreatest, NodesShowTheirGreatestReport, ShowsItsEnvironment, RowsShowTheirEnvironment, ReportsShowTheirReceipt}
use Rattle.table_laws.proofs.Joins.{each_node}
use Rattle.table_laws.proofs.LatestReports.{IsShown, kept_is_report}
use Rattle.table_laws.proofs.LatestReports as latest
use Rattle.table_laws.proofs.RowNodes.{row_of_node}
use Rattle.table_laws.proofs.ShownRows.{factset_told, catalog_told, resource_told, report_told}
use Rattle.table_laws.proofs.SortedLists.{among-from_sorted_by}

-- ---- the state of a node

environment_is : (o : Option Applied) → environment_cell (change_of o) ≡ shown_environment o
environment_is None = refl
environment_is (Some x) = refl

timestamp_is : (o : Option Applied) → timestamp_cell (change_of o) ≡ shown_timestamp o
timestamp_is None = refl
timestamp_is (Some x) = refl

pub nodes_show_their_state : NodesShowTheirState
nodes_show_their_state ttls history node h =
    each_node ttls history (λ row. ShowsTheNode ttls history (life ttls (certname_of entity.Nodes row) history) row)
    (λ n a. record {
      deactivated = refl;
      expired = refl;
      facts_environment = environment_is (newest kind.Facts (life ttls n history));
      facts_timestamp = timestamp_is (newest kind.Facts (life ttls n history));
      catalog_environment = environment_is (newest kind.Catalog (life ttls n history));
      catalog_timestamp = timestamp_is (newest kind.Catalog (life ttls n history));
    }) node h

moment_is : (o : Option ℤ) → is_some o ≡ is_moment (moment_or_null o)
moment_is None = refl
moment_is (Some m) = refl

pub nodes_show_whether_they_are_inactive : NodesShowWhetherTheyAreInactive
nodes_show_whether_they_are_inactive ttls history node h =
    let shows = nodes_show_their_state ttls history node h in
    let xs = life ttls (certname_of entity.Nodes node) history in
    (λ i. moment_is (deactivated xs) i || moment_is (expired ttls (greatest_expiry history) xs) i)
    ∙ (λ i. is_moment (sym shows.deactivated i) || is_moment (sym shows.expired i))

-- ---- its report of the greatest rank

none_kept : (reports : List Applied) (node : Cells) → ((x : Applied) → Among x reports → ⊥) → ShowsTheReport node (λ name. plain null) → ShowsTheGreatest reports node
none_kept [] node none h = h
none_kept (x ∷ reports) node none h = absurd (none x (inl refl))

one_kept : (reports : List Applied) (node : Cells) (x : Applied) → IsOfTheGreatestRank reports x → (report : Cells) × IsReportOf x.received x.change report × ShowsTheReport node (λ name. cell_under entity.Reports name report) → ShowsTheGreatest reports node
one_kept [] node x greatest h = absurd (Among-from_Contains [] x greatest.one_of_them)
one_kept (y ∷ reports) node x greatest h = (x, greatest, h)

module _ (ttls : Ttls) (history : Trace) (n : List ℕ) where
  abbrev kept : List Applied
  kept = kept_reports ttls n history

  shows_the_greatest : (d x : Option ℤ) (f c : Option Change) (r : Option Applied) → newest kind.Report kept ≡ r → ShowsTheGreatest kept (node_cells n d x f c (change_of r))
  shows_the_greatest d x f c None e =
      none_kept kept (node_cells n d x f c None)
      (λ y a. let apart : true ≡ false = sym (kept_is_report ttls history n y a) ∙ none_of_kind kind.Report kept e y a in cc)
      (record { hash = refl; noop = refl; status = refl; environment = refl; timestamp = refl })
  shows_the_greatest d x f c (Some y) e =
      let g = newest_is_greatest kind.Report kept y e in
      let row = latest.shown n d x f c y.received y.change (kind_from_is_kind kind.Report y g.kind) in
      one_kept kept (node_cells n d x f c (Some y.change)) y
      (record { one_of_them = Contains-from_Among kept y g.among; greatest = λ z h. let a = Among-from_Contains kept z h in g.greatest z a (kept_is_report ttls history n z a) })
      (row.report, row.is_of, row.shows)

pub nodes_show_their_greatest_report : NodesShowTheirGreatestReport
nodes_show_their_greatest_report ttls history node h =
    each_node ttls history (λ row. ShowsTheGreatest (kept_reports ttls (certname_of entity.Nodes row) history) row)
    (λ n a. shows_the_greatest ttls history n _ _ _ _ (newest kind.Report (kept_reports ttls n history)) refl) node h

-- ---- the environments of rows

module _ (e : Entity) where
  abbrev ShowsEnvironment : Cells → Change → Type 0
  ShowsEnvironment row change = cell_under e (codes "environment") row ≡ plain (text_or_null (change_environment change))

factset_environment : (change : Change) (row : Cells) → IsFactsetOf change row → ShowsEnvironment entity.Factsets row change
factset_environment (Facts c) row h = ap (cell_under entity.Factsets (codes "environment")) h
factset_environment (Catalog c) row h = absurd h
factset_environment (Report c) row h = absurd h
factset_environment (Deactivate c) row h = absurd h
factset_environment (Expiration c) row h = absurd h

fact_environment : (change : Change) (row : Cells) → Among row (fact_rows change) → ShowsEnvironment entity.Facts row change
fact_environment (Facts c) row a =
    let cells = Among-from_map fact_cells (rows_of_facts c) row a in
    let fact = Among-from_map _ _ cells.0 cells.1 in
    ap (cell_under entity.Facts (codes "environment")) (cells.2 ∙ ap fact_cells fact.2)
fact_environment (Catalog c) row a = absurd a
fact_environment (Report c) row a = absurd a
fact_environment (Deactivate c) row a = absurd a
fact_environment (Expiration c) row a = absurd a

catalog_environment : (change : Change) (row : Cells) → IsCatalogOf change row → ShowsEnvironment entity.Catalogs row change
catalog_environment (Facts c) row h = absurd h
catalog_environment (Catalog c) row h = ap (cell_under entity.Catalogs (codes "environment")) h
catalog_environment (Report c) row h = absurd h
catalog_environment (Deactivate c) row h = absurd h
catalog_environment (Expiration c) row h = absurd h

resource_environment : (change : Change) (row : Cells) → IsResourceOf change row → ShowsEnvironment entity.Resources row change
resource_environment (Facts c) row h = absurd h
resource_environment (Catalog c) row h = ap (cell_under entity.Resources (codes "environment")) h.2
resource_environment (Report c) row h = absurd h
resource_environment (Deactivate c) row h = absurd h
resource_environment (Expiration c) row h = absurd h

module _ (ttls : Ttls) (history : Trace) (e : Entity) (k : Kind) (shown_rows : Change → List Cells) (row : Cells)
    (told : (change : Change) → Among row (shown_rows change) → ShowsEnvironment e row change)
    (are : (n : List ℕ) → rows_of e ttls history n ≡ shown shown_rows (change_of (newest k (life ttls n history)))) where
  of_newest : (n : List ℕ) (o : Option Applied) → certname_of e row ≡ n → newest k (life ttls n history) ≡ o → Among row (shown shown_rows (change_of o)) → ShowsItsEnvironment e k ttls history row
  of_newest n None s f a = absurd a
  of_newest n (Some x) s f a = record { command = x; is_newest = ap (λ m. newest k (life ttls m history)) s ∙ f; environment = told x.change a }

  pub environment_shown : Contains (rows e ttls history) row → ShowsItsEnvironment e k ttls history row
  environment_shown h =
      let block = Among-from_flat_map (rows_of e ttls history) (nodes ttls history) row (Among-from_Contains (rows e ttls history) row h) in
      of_newest block.0 (newest k (life ttls block.0 history)) (row_of_node ttls history block.0 row e block.2) refl (subst (Among row) (are block.0) block.2)

pub factsets_show_their_environment : RowsShowTheirEnvironment entity.Factsets kind.Facts
factsets_show_their_environment ttls history row h =
    environment_shown ttls history entity.Factsets kind.Facts factset_rows row (λ change a. factset_environment change row (factset_told change row a)) (λ n. refl) h

pub facts_show_their_environment : RowsShowTheirEnvironment entity.Facts kind.Facts
facts_show_their_environment ttls history row h =
    environment_shown ttls history entity.Facts kind.Facts fact_rows row (λ change a. fact_environment change row a) (λ n. refl) h

pub catalogs_show_their_environment : RowsShowTheirEnvironment entity.Catalogs kind.Catalog
catalogs_show_their_environment ttls history row h =
    environment_shown ttls history entity.Catalogs kind.Catalog catalog_rows row (λ change a. catalog_environment change row (catalog_told change row a)) (λ n. refl) h

pub resources_show_their_environment : RowsShowTheirEnvironment entity.Resources kind.Catalog
resources_show_their_environment ttls history row h =
    environment_shown ttls history entity.Resources kind.Catalog resource_rows row (λ change a. resource_environment change row (resource_told change row a)) (λ n. refl) h

-- ---- the receipts of reports

receive_time : (received : Option ℤ) (change : Change) (row : Cells) → IsReportOf received change row → cell_under entity.Reports (codes "receive_time") row ≡ moment_or_null received
receive_time received (Facts c) row h = absurd h
receive_time received (Catalog c) row h = absurd h
receive_time received (Report c) row h = ap (cell_under entity.Reports (codes "receive_time")) h
receive_time received (Deactivate c) row h = absurd h
receive_time received (Expiration c) row h = absurd h

report_environment : (received : Option ℤ) (change : Change) (row : Cells) → IsReportOf received change row → ShowsEnvironment entity.Reports row change
report_environment received (Facts c) row h = absurd h
report_environment received (Catalog c) row h = absurd h
report_environment received (Report c) row h = ap (cell_under entity.Reports (codes "environment")) h
report_environment received (Deactivate c) row h = absurd h
report_environment received (Expiration c) row h = absurd h

pub reports_show_their_receipt : ReportsShowTheirReceipt
reports_show_their_receipt ttls history row h =
    let block = Among-from_flat_map (rows_of entity.Reports ttls history) (nodes ttls history) row (Among-from_Contains (rows entity.Reports ttls history) row h) in
    let reports = kept_reports ttls block.0 history in
    let report = Among-from_flat_map (λ (x : Applied). report_rows x.received x.change) (sorted_by report_cmp reports) row block.2 in
    let certname : certname_of entity.Reports row ≡ block.0 = row_of_node ttls history block.0 row entity.Reports block.2 in
    let told = report_told report.0.received report.0.change row report.2 in
    record {
      command = report.0;
      kept = subst (λ n. Contains (kept_reports ttls n history) report.0) (sym certname)
          (Contains-from_Among reports report.0 (among-from_sorted_by report_cmp report.0 reports report.1));
      is_of = told;
      receive_time = receive_time report.0.received report.0.change row told;
      environment = report_environment report.0.received report.0.change row told;
    }
