-- Traces that differ in the order of events between purges have the same rows.
use Rattle.std.proofs.Common.{◌≡◌, ◌≢◌, ◌∙◌, ℕ, List, [], ◌∷◌, refl, sym, ap, map}
use Rattle.std.specs.List.{flat_map}
use Rattle.table_machine.specs.fleet_rows.declared.command.Kind.TheVariants as kind
use Rattle.table_machine.specs.fleet_rows.declared.row.Entity.{Entity}
use Rattle.table_machine.specs.fleet_rows.declared.row.Entity.TheVariants as entity
use Rattle.table_machine.specs.fleet_rows.declared.settings.Ttls.{Ttls}
use Rattle.table_machine.specs.fleet_rows.declared.applied.Applied.{Applied}
use Rattle.table_machine.specs.history_spec.Trace.{TraceEvent, applied, swept, Trace, IsTrace, receipts}
use Rattle.table_machine.specs.history_spec.Node.{newest}
use Rattle.table_machine.specs.history_spec.Life.{kept_reports}
use Rattle.table_machine.specs.history_laws.OrderLaws.{Reordered, unchanged, swapped, behind, stepwise, SayTheSame}
use Rattle.table_machine.proofs.of_plain_laws.Members.{Among-from_Contains, Contains-from_Among, All-Among, All-from_Among}
use Rattle.table_machine.proofs.of_history_laws.Reorderings.{the_order_between_purges_says_nothing}
use Rattle.table_machine.proofs.of_history_laws.SameMembers.{SameMembers, same_members-refl, same_members-through, same_members-cons, same_members-swapped}
use Rattle.table_machine.proofs.of_plain_laws.StrictlySorted.{sorted-unique}
use Rattle.table_machine.proofs.of_history_laws.TraceLemmas.{traces_have_distinct_receipts}
use Rattle.table_machine.specs.Table.{node_of, table_of}
use Rattle.table_machine.proofs.ReportOrder.{report_cmp_total}
use Rattle.table_machine.proofs.TableLaws.{reports_are_sorted, reports_are_those_kept}
use Rattle.table_machine.proofs.TableRows.{nodes_have_the_newest_report}
use Rattle.table_machine.specs.table_spec.Sorted.{report_cmp}
use Rattle.table_machine.specs.table_spec.Rows.{change_of, shown, factset_rows, fact_rows, catalog_rows, resource_rows, edge_rows, report_rows, node_cells, rows_of, rows}
use Rattle.table_laws.specs.OrderLaws.{TheOrderBetweenPurgesLeavesTheRows, TheOrderBetweenPurgesLeavesTheTable, ReorderedTracesAreTraces}
use Rattle.table_laws.proofs.SortedRows.{report_rows_are}

-- ---- a reordered trace is a trace

record Stays (history other : Trace) : Type 0 where
  trace : IsTrace other
  numbers : SameMembers (receipts history) (receipts other)

swapped_trace : (e f : TraceEvent) (earlier : Trace) → IsTrace (e ∷ f ∷ earlier) → IsTrace (f ∷ e ∷ earlier)
swapped_trace (applied x) (applied y) earlier h =
    (h.4.0, h.4.1, h.4.2, ((λ same. h.3.0 (sym same)), h.4.3), (h.0, h.1, h.2, h.3.1, h.4.4))
swapped_trace (applied x) (swept kinds m) earlier h = (h.4.0, (h.0, h.1, h.2, h.3, h.4.1))
swapped_trace (swept kinds m) (applied y) earlier h = (h.1.0, h.1.1, h.1.2, h.1.3, (h.0, h.1.4))
swapped_trace (swept kinds m) (swept others n) earlier h = (h.1.0, (h.0, h.1.1))

swapped_receipts : (e f : TraceEvent) (earlier : Trace) → SameMembers (receipts (e ∷ f ∷ earlier)) (receipts (f ∷ e ∷ earlier))
swapped_receipts (applied x) (applied y) earlier = same_members-swapped x.receipt y.receipt (receipts earlier)
swapped_receipts (applied x) (swept kinds m) earlier = same_members-refl _
swapped_receipts (swept kinds m) (applied y) earlier = same_members-refl _
swapped_receipts (swept kinds m) (swept others n) earlier = same_members-refl _

rest_of : (e : TraceEvent) (history : Trace) → IsTrace (e ∷ history) → IsTrace history
rest_of (applied x) history h = h.4
rest_of (swept kinds m) history h = h.1

in_front : (e : TraceEvent) (history other : Trace) → IsTrace (e ∷ history) → Stays history other → Stays (e ∷ history) (e ∷ other)
in_front (applied x) history other h rest = record {
  trace = (h.0, h.1, h.2, All-from_Among (λ r. r ≢ x.receipt) (receipts other) (λ r a. All-Among (λ s. s ≢ x.receipt) (receipts history) r h.3 (rest.numbers.back r a)), rest.trace);
  numbers = same_members-cons x.receipt (receipts history) (receipts other) rest.numbers;
}
in_front (swept kinds m) history other h rest = record { trace = (h.0, rest.trace); numbers = rest.numbers }

stays : {history other : Trace} → Reordered history other → IsTrace history → Stays history other
stays {history} unchanged h = record { trace = h; numbers = same_members-refl (receipts history) }
stays (swapped e f {earlier} p q) h = record { trace = swapped_trace e f earlier h; numbers = swapped_receipts e f earlier }
stays (behind e {history} {other} r) h = in_front e history other h (stays r (rest_of e history h))
stays (stepwise {history} {between} {other} r s) h =
    let first = stays r h in
    let second = stays s first.trace in
    record { trace = second.trace; numbers = same_members-through (receipts history) (receipts between) (receipts other) first.numbers second.numbers }

pub reordered_traces_are_traces : ReorderedTracesAreTraces
reordered_traces_are_traces history other h r = (stays r h).trace

module _ (ttls : Ttls) (history other : Trace) (trace : IsTrace history) (reordered : Reordered history other) where
  same : SayTheSame ttls history other
  same = the_order_between_purges_says_nothing ttls history other (traces_have_distinct_receipts history trace) reordered

  other_trace : IsTrace other
  other_trace = reordered_traces_are_traces history other trace reordered

  same_reports : (n : List ℕ) → (node_of ttls history n).reports ≡ (node_of ttls other n).reports
  same_reports n =
      let here = (node_of ttls history n).reports in
      let there = (node_of ttls other n).reports in
      sorted-unique report_cmp report_cmp_total here there (reports_are_sorted ttls history n) (reports_are_sorted ttls other n)
      (λ x a. Among-from_Contains there x ((reports_are_those_kept ttls other n x other_trace).1 ((same.reports n x).0 ((reports_are_those_kept ttls history n x trace).0 (Contains-from_Among here x a)))))
      (λ x a. Among-from_Contains here x ((reports_are_those_kept ttls history n x trace).1 ((same.reports n x).1 ((reports_are_those_kept ttls other n x other_trace).0 (Contains-from_Among there x a)))))

  same_newest_report : (n : List ℕ) → newest kind.Report (kept_reports ttls n history) ≡ newest kind.Report (kept_reports ttls n other)
  same_newest_report n =
      sym (nodes_have_the_newest_report ttls history n trace) ∙ ap (newest kind.Report) (same_reports n) ∙ nodes_have_the_newest_report ttls other n other_trace

  by_nodes : (e : Entity) → ((n : List ℕ) → rows_of e ttls history n ≡ rows_of e ttls other n) → rows e ttls history ≡ rows e ttls other
  by_nodes e each = λ i. flat_map (λ n. each n i) (same.nodes i)

  same_rows : (e : Entity) → rows e ttls history ≡ rows e ttls other
  same_rows entity.Nodes =
      by_nodes entity.Nodes (λ n i. node_cells n (same.deactivated n i) (same.expired n i) (change_of (same.newest kind.Facts n i)) (change_of (same.newest kind.Catalog n i)) (change_of (same_newest_report n i)) ∷ [])
  same_rows entity.Factsets = by_nodes entity.Factsets (λ n. ap (λ o. shown factset_rows (change_of o)) (same.newest kind.Facts n))
  same_rows entity.Facts = by_nodes entity.Facts (λ n. ap (λ o. shown fact_rows (change_of o)) (same.newest kind.Facts n))
  same_rows entity.Catalogs = by_nodes entity.Catalogs (λ n. ap (λ o. shown catalog_rows (change_of o)) (same.newest kind.Catalog n))
  same_rows entity.Resources = by_nodes entity.Resources (λ n. ap (λ o. shown resource_rows (change_of o)) (same.newest kind.Catalog n))
  same_rows entity.Edges = by_nodes entity.Edges (λ n. ap (λ o. shown edge_rows (change_of o)) (same.newest kind.Catalog n))
  same_rows entity.Reports =
      sym (report_rows_are ttls history trace)
      ∙ (λ i. flat_map (λ n. flat_map (λ (x : Applied). report_rows x.received x.change) (same_reports n i)) (same.nodes i))
      ∙ report_rows_are ttls other other_trace
  same_rows e = by_nodes e (λ n. refl)

pub the_order_between_purges_leaves_the_rows : TheOrderBetweenPurgesLeavesTheRows
the_order_between_purges_leaves_the_rows e ttls history other trace reordered = same_rows ttls history other trace reordered e

pub the_order_between_purges_leaves_the_table : TheOrderBetweenPurgesLeavesTheTable
the_order_between_purges_leaves_the_table ttls history other trace reordered =
    let h = same ttls history other trace reordered in
    let node : (n : List ℕ) → node_of ttls history n ≡ node_of ttls other n =
    λ n i. record (node_of ttls history n) {
      active = h.activity n i;
      facts = h.newest kind.Facts n i;
      catalog = h.newest kind.Catalog n i;
      deactivate = h.newest kind.Deactivate n i;
      expiration = h.newest kind.Expiration n i;
      reports = same_reports ttls history other trace reordered n i;
    } in
    λ i. record (table_of ttls history) { expiry = h.expiry i; retention = h.retention i; nodes = map (λ n. node n i) (h.nodes i) }
