-- Room is made for rows that can be counted.
use Rattle.std.proofs.Common.{◌≡◌, ◌∙◌, ℕ, ◌<◌, ◌^◌, List, length, Option, Some, None, Result, IfSome, refl, sym, ap, subst, arith, lit≤}
use Rattle.std.specs.Option.{option_map, unwrap_or}
use Rattle.std.specs.Vec.{vec_capacity}
use Rattle.std.specs.declared.alloc.Global.{Global}
use Rattle.std.specs.declared.vec.Vec.{Vec}
use Rattle.checkpoint_spec.specs.fleet_rows.Change.{change_certname}
use Rattle.checkpoint_spec.specs.fleet_rows.declared.change.Change.{Change}
use Rattle.checkpoint_spec.specs.fleet_rows.declared.change.Change.TheVariants as change
use Rattle.checkpoint_spec.specs.fleet_rows.declared.change.ReportChange.{ReportChange}
use Rattle.checkpoint_spec.specs.fleet_rows.declared.applied.Applied.{Applied}
use Rattle.checkpoint_spec.specs.fleet_rows.declared.row.Entity.{Entity}
use Rattle.checkpoint_spec.specs.fleet_rows.declared.row.Entity.TheVariants.{Nodes, Factsets, Facts, Catalogs, Resources, Edges, Reports}
use Rattle.checkpoint_spec.specs.table_machine.Table as machine
use Rattle.checkpoint_spec.specs.table_machine.Table.{Table}
use Rattle.checkpoint_spec.specs.table_machine.Steps.{find_node}
use Rattle.checkpoint_spec.specs.table_machine.Rows.{table_rows}
use Rattle.checkpoint_spec.specs.table_spec.Rows.{factset_rows, fact_rows, catalog_rows, resource_rows, edge_rows, report_rows}
use Rattle.kept_nodes.specs.Counted.{plus, count_of, counts_changed, IsWithin}
use Rattle.fleet_tables.specs.Groups.{AreCountsOf}
use Rattle.row_cells.specs.Texts.{HasPrintableMoments}
use Rattle.kept_nodes.specs.ReportPlaces.{IsPlaceFor}
use Rattle.kept_nodes.specs.Computed.{IsShownOf, HasRoomFor, IsListFor, with_reports}
use Rattle.fleet_tables.specs.Rooms.{IsNewFor, IsFirstFor, Fits, IsSpare, IsRoom}
use Rattle.kept_nodes.specs.Places.{reports_of}
use Rattle.kept_nodes.specs.declared.counts.Counts.{Counts}
use Rattle.kept_nodes.specs.declared.kept.Report.{Report}
use Rattle.fleet_tables.specs.declared.room.NewNode.{NewNode}
use Rattle.kept_nodes.specs.declared.computed.Derived.{Derived}
use Rattle.kept_nodes.specs.declared.computed.Derived.TheVariants as shown
use Rattle.fleet_tables.specs.declared.room.Spare.{Spare}
use Rattle.kept_nodes.proofs.RowCounts.{facts_length, resources_length, edges_length, nodes_count}

-- so many rows the change has
pub record ChangeCounts (c : Counts) (change : Change) : Type 0 where
  pub factsets : c.factsets ≡ length (factset_rows change)
  pub facts : c.facts ≡ length (fact_rows change)
  pub catalogs : c.catalogs ≡ length (catalog_rows change)
  pub resources : c.resources ≡ length (resource_rows change)
  pub edges : c.edges ≡ length (edge_rows change)
  pub reports : c.reports ≡ length (report_rows None change)
  pub nodes : c.nodes ≡ 1

pub change_counts : (change : Change) → ChangeCounts (counts_changed change) change
change_counts (change.Facts c) = record { factsets = refl; facts = facts_length c; catalogs = refl; resources = refl; edges = refl; reports = refl; nodes = refl }
change_counts (change.Catalog c) = record { factsets = refl; facts = refl; catalogs = refl; resources = resources_length c; edges = edges_length c; reports = refl; nodes = refl }
change_counts (change.Report c) = record { factsets = refl; facts = refl; catalogs = refl; resources = refl; edges = refl; reports = refl; nodes = refl }
change_counts (change.Deactivate c) = record { factsets = refl; facts = refl; catalogs = refl; resources = refl; edges = refl; reports = refl; nodes = refl }
change_counts (change.Expiration c) = record { factsets = refl; facts = refl; catalogs = refl; resources = refl; edges = refl; reports = refl; nodes = refl }

pub fits : (table : Table) (total : Counts) → AreCountsOf total table.nodes → (change : Change) → IsWithin (plus total (counts_changed change)) → Fits table change
fits table total counted change w =
    let more = change_counts change in
    let rows : (entity : Entity) → count_of entity total ≡ length (table_rows entity table) = λ entity. counted entity table.ttls table.expiry in (
      omega (arith, w.0, rows Factsets, more.factsets),
      omega (arith, w.1, rows Facts, more.facts),
      omega (arith, w.2, rows Catalogs, more.catalogs),
      omega (arith, w.3, rows Resources, more.resources),
      omega (arith, w.4, rows Edges, more.edges),
      omega (arith, w.5, rows Reports, more.reports),
      omega (arith, w.6, rows Nodes, more.nodes, nodes_count table.ttls table.expiry table.nodes),
    )

-- ---- room for a change

reports_kept : (o : Option machine.Node) → unwrap_or (option_map (λ (node : machine.Node). length node.reports) o) 0 ≡ length (reports_of o)
reports_kept None = refl
reports_kept (Some node) = refl

new_kept : (new : Option NewNode) (o : Option machine.Node) (certname : List ℕ) (nodes : ℕ) → IsNewFor new (option_map (λ (node : machine.Node). length node.reports) o) certname nodes → IsNewFor new o certname nodes
new_kept None None certname nodes h = h
new_kept None (Some node) certname nodes h = h
new_kept (Some new) None certname nodes h = h
new_kept (Some new) (Some node) certname nodes h = h

-- a list with room and the report's place are room for it
room_of : (shown : Derived) (list : Vec Report Global) (place : Result ℕ ℕ) (change : Change) (n : ℕ) (reports : List Applied) → n ≡ length reports → IsListFor shown list n → IsPlaceFor change reports place
    → HasRoomFor (with_reports shown list place) change reports
room_of (shown.Facts s) list place change n reports same h p = tt
room_of (shown.Catalog s) list place change n reports same h p = tt
room_of (shown.Report s) list place change n reports same h p = (h.0, subst (λ (m : ℕ). m < vec_capacity list) same h.1, p)
room_of shown.Nothing list place change n reports same h p = tt

pub spare_at : (table : Table) (change : Change) (shown : Derived) (spare : Spare) (name : List ℕ) (reports : Option ℕ) (nodes : ℕ)
    → name ≡ change_certname change → nodes ≡ length table.nodes → reports ≡ option_map (λ (node : machine.Node). length node.reports) (find_node name table.nodes)
    → IsListFor shown spare.reports (unwrap_or reports 0) → IsPlaceFor change (reports_of (find_node (change_certname change) table.nodes)) spare.place → IsNewFor spare.new reports name nodes → IsFirstFor spare.first.items table.nodes → Fits table change
    → IsSpare spare shown table change
spare_at table change shown spare name reports nodes named number e room place n first fits =
    let found = find_node (change_certname change) table.nodes in
    let same : reports ≡ option_map (λ (node : machine.Node). length node.reports) found = e ∙ ap (λ x. option_map (λ (node : machine.Node). length node.reports) (find_node x table.nodes)) named in (
      room_of shown spare.reports spare.place change (unwrap_or reports 0) (reports_of found) (ap (λ r. unwrap_or r 0) same ∙ reports_kept found) room place,
      new_kept spare.new found (change_certname change) (length table.nodes)
          (subst (λ (p : List ℕ × Option ℕ × ℕ). IsNewFor spare.new p.1 p.0 p.2) (λ i. (named i, same i, number i)) n),
      first,
      fits,
    )

-- ---- what is shown, and room for it

shown_still : (shown : Derived) (change : Change) (reports : Vec Report Global) (place : Result ℕ ℕ) → IsShownOf shown change → IsShownOf (with_reports shown reports place) change
shown_still (shown.Facts s) change reports place h = h
shown_still (shown.Catalog s) change reports place h = h
shown_still (shown.Report s) (change.Report c) reports place h = h
shown_still (shown.Report s) (change.Facts c) reports place h = absurd h
shown_still (shown.Report s) (change.Catalog c) reports place h = absurd h
shown_still (shown.Report s) (change.Deactivate c) reports place h = absurd h
shown_still (shown.Report s) (change.Expiration c) reports place h = absurd h
shown_still shown.Nothing change reports place h = h

-- the moments of a report for which something is shown can be printed
pub shown_printable : (shown : Derived) (r : ReportChange) → IsShownOf shown (change.Report r) → HasPrintableMoments r
shown_printable (shown.Report s) r h = h.1
shown_printable (shown.Facts s) r h = absurd h
shown_printable (shown.Catalog s) r h = absurd h
shown_printable shown.Nothing r h = absurd h

pub room_with : (spare : Spare) (shown with : Derived) (table other : Table) (change same : Change) → with ≡ with_reports shown spare.reports spare.place → other ≡ table → same ≡ change
    → IsShownOf shown change → IsSpare spare shown table change → IsRoom with spare.new spare.first.items other same
room_with spare shown with table other change same w e f h s =
    subst (λ (p : Derived × Table × Change). IsRoom p.0 spare.new spare.first.items p.1 p.2) (λ i. (sym w i, sym e i, sym f i))
    (((shown_still shown change spare.reports spare.place h, s.0), s.1), s.2, s.3)

pub few_reports : (o : Option ℕ) → IfSome o (λ n. n < 2 ^ 63) → unwrap_or o 0 < 2 ^ 63
few_reports None h = lit≤ tt
few_reports (Some n) h = h
