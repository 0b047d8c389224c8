-- Of a node's rows of reports the one that its own row shows is a latest.
use Rattle.std.proofs.Common.{◌≡◌, ◌∙◌, ℕ, ℤ, ◌≤ℤ◌, ◌<ℤ◌, List, [], ◌∷◌, arith, refl, sym, ap, subst, true, false, Option, Some, None, inl}
use Rattle.std.specs.Ordering.{is_lt, int_cmp, nat_cmp, ordering_then}
use Rattle.std.specs.declared.cmp.Ordering.{Ordering}
use Rattle.std.specs.declared.cmp.Ordering.TheVariants.{Less, Equal, Greater}
use Rattle.std.proofs.lemmas.Cmp.{int_ranked}
use Rattle.std.proofs.lemmas.Int.{ints}
use Rattle.table_machine.specs.text_spec.Json.{null}
use Rattle.table_machine.specs.fleet_rows.Cell.{plain}
use Rattle.table_machine.specs.fleet_rows.Change.{change_kind, change_stamp}
use Rattle.table_machine.specs.fleet_rows.Rank.{rank_cmp}
use Rattle.table_machine.specs.fleet_rows.declared.change.Change.{Change}
use Rattle.table_machine.specs.fleet_rows.declared.change.Change.TheVariants.{Facts, Catalog, Report, Deactivate, Expiration}
use Rattle.table_machine.specs.fleet_rows.declared.command.Kind.TheVariants as kind
use Rattle.table_machine.specs.fleet_rows.declared.row.Entity.TheVariants as entity
use Rattle.table_machine.specs.fleet_rows.declared.settings.Ttls.{Ttls}
use Rattle.table_machine.specs.history_spec.Life.{life, greatest_retention, kept_reports}
use Rattle.table_machine.specs.history_spec.Node.{newest}
use Rattle.table_machine.specs.fleet_rows.declared.applied.Applied.{Applied}
use Rattle.table_machine.specs.history_spec.Trace.{Trace, is_kind, rank_of}
use Rattle.table_machine.proofs.of_plain_laws.Members.{Among, Among-from_Contains, Contains-from_Among, Among-from_flat_map, Among-flat_map}
use Rattle.table_machine.proofs.of_history_laws.NewestIsGreatest.{IsGreatest, newest_is_greatest, none_of_kind}
use Rattle.table_machine.proofs.of_history_laws.Ranks.{kind_from_is_kind}
use Rattle.table_machine.specs.table_spec.Cells.{report_cells}
use Rattle.table_machine.specs.table_spec.Rows.{Cells, report_rows, change_of, node_cells, rows_of}
use Rattle.table_machine.specs.table_spec.Sorted.{sorted_by, report_cmp}
use Rattle.table_machine.proofs.KeptReports.{retained_are_reports}
use Rattle.table_machine.proofs.TableLaws.{kept_among_stay}
use Rattle.table_laws.specs.JoinLaws.{certname_of, rows_with, timestamp_of_report, IsLatestOf, ShowsTheReport, ShowsTheLatest, NodesShowTheirLatestReport}
use Rattle.table_laws.specs.Named.{cell_under}
use Rattle.table_laws.specs.RowLaws.{IsReportOf}
use Rattle.table_laws.proofs.Joins.{each_node, node_row, rows_with_certname}
use Rattle.table_laws.proofs.ShownRows.{report_told, report_there}
use Rattle.table_laws.proofs.SortedLists.{among-sorted_by, among-from_sorted_by}

-- ---- what is of no lower rank is no earlier

upto_step : (o p : Ordering) (a b : ℤ) → int_cmp a b ≡ o → is_lt (ordering_then o p) ≡ false → b ≤ℤ a
upto_step Less p a b e h = absurd (let apart : true ≡ false = h in cc)
upto_step Equal p a b e h = let same : a ≡ b = int_ranked a b Equal (sym e) in grind (arith, ints)
upto_step Greater p a b e h = let below : b <ℤ a = int_ranked a b Greater (sym e) in grind (arith, ints)

no_later : (x y : Applied) → is_lt (rank_cmp (rank_of x) (rank_of y)) ≡ false → change_stamp y.change ≤ℤ change_stamp x.change
no_later x y h = upto_step (int_cmp (change_stamp x.change) (change_stamp y.change)) (nat_cmp x.receipt y.receipt) (change_stamp x.change) (change_stamp y.change) refl h

-- ---- the row of one report

timestamp_told : (received : Option ℤ) (change : Change) (row : Cells) → IsReportOf received change row → timestamp_of_report row ≡ change_stamp change
timestamp_told received (Facts c) row h = absurd h
timestamp_told received (Catalog c) row h = absurd h
timestamp_told received (Report c) row h = ap timestamp_of_report h
timestamp_told received (Deactivate c) row h = absurd h
timestamp_told received (Expiration c) row h = absurd h

-- this row is the report's, and the node's row shows it
pub record IsShown (received : Option ℤ) (change : Change) (node : Cells) : Type 0 where
  pub report : Cells
  pub is_of : IsReportOf received change report
  pub shows : ShowsTheReport node (λ name. cell_under entity.Reports name report)

module _ (n : List ℕ) (d x : Option ℤ) (f c : Option Change) (received : Option ℤ) where
  pub shown : (change : Change) → change_kind change ≡ kind.Report → IsShown received change (node_cells n d x f c (Some change))
  shown (Facts r) k = cc
  shown (Catalog r) k = cc
  shown (Report r) k = record {
    report = report_cells received r;
    is_of = refl;
    shows = record { hash = refl; noop = refl; status = refl; environment = refl; timestamp = refl };
  }
  shown (Deactivate r) k = cc
  shown (Expiration r) k = cc

-- ---- the rows of a node's reports

none_latest : (rows : List Cells) (node : Cells) → ((row : Cells) → Among row rows → ⊥) → ShowsTheReport node (λ name. plain null) → ShowsTheLatest rows node
none_latest [] node none h = h
none_latest (row ∷ rows) node none h = absurd (none row (inl refl))

one_latest : (rows : List Cells) (node report : Cells) → IsLatestOf rows report → ShowsTheReport node (λ name. cell_under entity.Reports name report) → ShowsTheLatest rows node
one_latest [] node report latest h = absurd (Among-from_Contains [] report latest.one_of_them)
one_latest (row ∷ rows) node report latest h = (report, latest, h)

module _ (ttls : Ttls) (history : Trace) (n : List ℕ) where
  abbrev kept : List Applied
  kept = kept_reports ttls n history

  abbrev report_rows_of : Applied → List Cells
  report_rows_of x = report_rows x.received x.change

  pub kept_is_report : (x : Applied) → Among x kept → is_kind kind.Report x ≡ true
  kept_is_report x a = retained_are_reports ttls (greatest_retention history) (life ttls n history) x (kept_among_stay ttls history n x a)

  of_kept : (row : Cells) → Among row (rows_of entity.Reports ttls history n) → (x : Applied) × Among x kept × IsReportOf x.received x.change row
  of_kept row a =
      let report = Among-from_flat_map report_rows_of (sorted_by report_cmp kept) row a in
      (report.0, among-from_sorted_by report_cmp report.0 kept report.1, report_told report.0.received report.0.change row report.2)

  is_latest : (x : Applied) (row : Cells) → IsGreatest kind.Report kept x → IsReportOf x.received x.change row → IsLatestOf (rows_of entity.Reports ttls history n) row
  is_latest x row greatest is_of = record {
    one_of_them = Contains-from_Among (rows_of entity.Reports ttls history n) row
        (Among-flat_map report_rows_of (sorted_by report_cmp kept) x row (among-sorted_by report_cmp x kept greatest.among) (report_there x.received x.change row is_of));
    latest = λ other h.
        let from = of_kept other (Among-from_Contains (rows_of entity.Reports ttls history n) other h) in
        subst (λ t. t ≤ℤ timestamp_of_report row) (sym (timestamp_told from.0.received from.0.change other from.2))
        (subst (λ t. change_stamp from.0.change ≤ℤ t) (sym (timestamp_told x.received x.change row is_of))
        (no_later x from.0 (greatest.greatest from.0 from.1 (kept_is_report from.0 from.1))));
  }

  shows_the_latest : (d x : Option ℤ) (f c : Option Change) (r : Option Applied) → newest kind.Report kept ≡ r → ShowsTheLatest (rows_of entity.Reports ttls history n) (node_cells n d x f c (change_of r))
  shows_the_latest d x f c None e =
      none_latest (rows_of entity.Reports ttls history n) (node_cells n d x f c None)
      (λ row a.
      let from = of_kept row a in
      let apart : true ≡ false = sym (kept_is_report from.0 from.1) ∙ none_of_kind kind.Report kept e from.0 from.1 in cc)
      (record { hash = refl; noop = refl; status = refl; environment = refl; timestamp = refl })
  shows_the_latest d x f c (Some y) e =
      let greatest = newest_is_greatest kind.Report kept y e in
      let row = shown n d x f c y.received y.change (kind_from_is_kind kind.Report y greatest.kind) in
      one_latest (rows_of entity.Reports ttls history n) (node_cells n d x f c (Some y.change)) row.report (is_latest y row.report greatest row.is_of) row.shows

pub nodes_show_their_latest_report : NodesShowTheirLatestReport
nodes_show_their_latest_report ttls history node h =
    each_node ttls history (λ row. ShowsTheLatest (rows_with entity.Reports ttls history (certname_of entity.Nodes row)) row)
    (λ n a. subst (λ rows. ShowsTheLatest rows (node_row ttls history n)) (sym (rows_with_certname ttls history n a entity.Reports)) (shows_the_latest ttls history n _ _ _ _ _ refl)) node h
