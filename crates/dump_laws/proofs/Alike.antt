-- Nodes whose commands have the same changes show the same rows, but for the moments of receipt.
use Rattle.std.proofs.Common.{◌≡◌, ◌∙◌, ℤ, List, [], ◌∷◌, ◌++◌, map, refl, sym, ap, Bool, true, Option, Some, None, if◌then◌else◌}
use Rattle.std.specs.List.{flat_map}
use Rattle.std.specs.Option.{option_map}
use Rattle.dump_spec.specs.fleet_rows.Change.{change_stamp}
use Rattle.dump_spec.specs.fleet_rows.declared.applied.Applied.{Applied}
use Rattle.dump_spec.specs.fleet_rows.declared.change.Change.{Change}
use Rattle.dump_spec.specs.fleet_rows.declared.change.Change.TheVariants.{Facts, Catalog, Report, Deactivate, Expiration}
use Rattle.dump_spec.specs.fleet_rows.declared.command.Kind.TheVariants as kind
use Rattle.dump_spec.specs.fleet_rows.declared.row.Entity.{Entity}
use Rattle.dump_spec.specs.fleet_rows.declared.row.Entity.TheVariants as entity
use Rattle.dump_spec.specs.fleet_rows.declared.settings.Ttls.{Ttls}
use Rattle.dump_spec.specs.history_spec.Node.{days, newest, not_before, newest_lets_expire, lets_expire, expired_at}
use Rattle.dump_spec.specs.table_spec.Rows.{Cells, change_of, shown, factset_rows, fact_rows, catalog_rows, resource_rows, edge_rows, report_rows, node_cells}
use Rattle.dump_spec.specs.table_machine.Node.{stamp_of_newest, node_deactivated, node_expired}
use Rattle.dump_spec.specs.table_machine.Rows.{node_rows}
use Rattle.dump_spec.specs.table_machine.Table.{Node}
use Rattle.dump_spec.specs.list_again.Told.{change_in}
use Rattle.dump_spec.proofs.of_plain_laws.Lists.{map_both}
use Rattle.dump_laws.specs.RowLaws.{untold}

-- the same certname, activity and changes; of the reports the newest has the same change too
pub record AreAlike (a b : Node) : Type 0 where
  pub certname : a.certname ≡ b.certname
  pub active : a.active ≡ b.active
  pub facts : change_of a.facts ≡ change_of b.facts
  pub catalog : change_of a.catalog ≡ change_of b.catalog
  pub deactivate : change_of a.deactivate ≡ change_of b.deactivate
  pub expiration : change_of a.expiration ≡ change_of b.expiration
  pub reports : map change_in a.reports ≡ map change_in b.reports
  pub latest : change_of (newest kind.Report a.reports) ≡ change_of (newest kind.Report b.reports)

-- ---- what commands say by their changes

stamp_is : (o : Option Applied) → stamp_of_newest o ≡ option_map change_stamp (change_of o)
stamp_is None = refl
stamp_is (Some x) = refl

lets : Option Change → Bool
lets None = true
lets (Some c) = lets_expire c

lets_is : (o : Option Applied) → newest_lets_expire o ≡ lets (change_of o)
unfolding lets
lets_is None = refl
lets_is (Some x) = refl

-- the row of a report without the moment of receipt
without_moment : (received : Option ℤ) (c : Change) → map (untold entity.Reports) (report_rows received c) ≡ map (untold entity.Reports) (report_rows None c)
without_moment received (Facts c) = refl
without_moment received (Catalog c) = refl
without_moment received (Report r) = refl
without_moment received (Deactivate c) = refl
without_moment received (Expiration c) = refl

abbrev rows_of_change : Change → List Cells
rows_of_change c = map (untold entity.Reports) (report_rows None c)

reports_by_change : (xs : List Applied) → map (untold entity.Reports) (flat_map (λ (x : Applied). report_rows x.received x.change) xs) ≡ flat_map rows_of_change (map change_in xs)
reports_by_change [] = refl
reports_by_change (x ∷ xs) =
    map_both (untold entity.Reports) (report_rows x.received x.change) (flat_map (λ (y : Applied). report_rows y.received y.change) xs)
    ∙ (λ i. without_moment x.received x.change i ++ reports_by_change xs i)

-- ---- rows

module _ (ttls : Ttls) (expiry : Option ℤ) (a b : Node) (same : AreAlike a b) where
  deactivated : node_deactivated a ≡ node_deactivated b
  deactivated =
      let stamp = stamp_is a.deactivate ∙ ap (option_map change_stamp) same.deactivate ∙ sym (stamp_is b.deactivate) in
      λ i. not_before (stamp i) (same.active i)

  expired : node_expired ttls expiry a ≡ node_expired ttls expiry b
  expired =
      let may = lets_is a.expiration ∙ ap lets same.expiration ∙ sym (lets_is b.expiration) in
      λ i. if may i then expired_at (days ttls.node_days) (same.active i) expiry else None

  pub rows_are_alike : (e : Entity) → map (untold e) (node_rows e ttls expiry a) ≡ map (untold e) (node_rows e ttls expiry b)
  rows_are_alike entity.Nodes =
      λ i. untold entity.Nodes (node_cells (same.certname i) (deactivated i) (expired i) (same.facts i) (same.catalog i) (same.latest i)) ∷ []
  rows_are_alike entity.Factsets = ap (λ o. map (untold entity.Factsets) (shown factset_rows o)) same.facts
  rows_are_alike entity.Facts = ap (λ o. map (untold entity.Facts) (shown fact_rows o)) same.facts
  rows_are_alike entity.Catalogs = ap (λ o. map (untold entity.Catalogs) (shown catalog_rows o)) same.catalog
  rows_are_alike entity.Resources = ap (λ o. map (untold entity.Resources) (shown resource_rows o)) same.catalog
  rows_are_alike entity.Edges = ap (λ o. map (untold entity.Edges) (shown edge_rows o)) same.catalog
  rows_are_alike entity.Reports = reports_by_change a.reports ∙ ap (flat_map rows_of_change) same.reports ∙ sym (reports_by_change b.reports)
  rows_are_alike _ = refl
