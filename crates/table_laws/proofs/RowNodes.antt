-- The certname in a row is that of its node.
use Rattle.std.proofs.Common.{◌≡◌, ◌∙◌, ℕ, ℤ, List, [], ◌∷◌, refl, sym, ap, subst, Bool, true, false, ◌&&◌, Option, Some, None, if◌then◌else◌, inl, inr}
use Rattle.std.specs.Str.{bytes_eq}
use Rattle.table_machine.specs.fleet_rows.Change.{change_certname}
use Rattle.table_machine.specs.fleet_rows.declared.change.Change.{Change}
use Rattle.table_machine.specs.fleet_rows.declared.change.Change.TheVariants.{Facts, Catalog, Report, Deactivate, Expiration}
use Rattle.table_machine.specs.fleet_rows.declared.command.Kind.{Kind}
use Rattle.table_machine.specs.fleet_rows.declared.command.Kind.TheVariants as kind
use Rattle.table_machine.specs.fleet_rows.declared.row.Entity.{Entity}
use Rattle.table_machine.specs.fleet_rows.declared.row.Entity.TheVariants as entity
use Rattle.table_machine.specs.fleet_rows.declared.settings.Ttls.{Ttls}
use Rattle.table_machine.specs.history_spec.Lawful.{IsChange}
use Rattle.table_machine.specs.history_spec.Facts.{rows_of_facts}
use Rattle.table_machine.specs.fleet_rows.declared.applied.Applied.{Applied}
use Rattle.table_machine.specs.history_spec.Trace.{applied, swept, Trace, IsTrace}
use Rattle.table_machine.specs.history_spec.Node.{newest, is_purged}
use Rattle.table_machine.specs.history_spec.Life.{life, greatest_expiry, kept_reports}
use Rattle.table_machine.specs.table_spec.Cells.{fact_cells}
use Rattle.table_machine.specs.table_spec.Rows.{Cells, change_of, shown, factset_rows, fact_rows, catalog_rows, resource_rows, edge_rows, report_rows, rows_of}
use Rattle.table_machine.specs.table_spec.Sorted.{sorted_by, report_cmp}
use Rattle.table_machine.proofs.of_plain_laws.Members.{Among, Among-from_map, Among-from_flat_map}
use Rattle.table_machine.proofs.of_history_laws.NewestIsGreatest.{newest_is_greatest}
use Rattle.table_machine.proofs.of_history_laws.Lives.{comes_from}
use Rattle.table_machine.proofs.TableLaws.{kept_among_life}
use Rattle.table_laws.specs.RowLaws.{IsFactsetOf, IsCatalogOf, IsResourceOf, IsEdgeOf, IsReportOf}
use Rattle.table_laws.specs.JoinLaws.{certname_of}
use Rattle.table_laws.proofs.ShownRows.{factset_told, catalog_told, resource_told, edge_told, report_told}
use Rattle.table_laws.proofs.SortedLists.{among-from_sorted_by}

-- ---- the rows of one command

of_factset : (change : Change) (row : Cells) → IsFactsetOf change row → certname_of entity.Factsets row ≡ change_certname change
of_factset (Facts c) row h = ap (certname_of entity.Factsets) h
of_factset (Catalog c) row h = absurd h
of_factset (Report c) row h = absurd h
of_factset (Deactivate c) row h = absurd h
of_factset (Expiration c) row h = absurd h

of_fact : (change : Change) (row : Cells) → Among row (fact_rows change) → certname_of entity.Facts row ≡ change_certname change
of_fact (Facts c) row a =
    let cells = Among-from_map fact_cells (rows_of_facts c) row a in
    let fact = Among-from_map _ _ cells.0 cells.1 in
    ap (certname_of entity.Facts) cells.2 ∙ ap (λ f. certname_of entity.Facts (fact_cells f)) fact.2
of_fact (Catalog c) row a = absurd a
of_fact (Report c) row a = absurd a
of_fact (Deactivate c) row a = absurd a
of_fact (Expiration c) row a = absurd a

pub of_catalog : (change : Change) (row : Cells) → IsCatalogOf change row → certname_of entity.Catalogs row ≡ change_certname change
of_catalog (Facts c) row h = absurd h
of_catalog (Catalog c) row h = ap (certname_of entity.Catalogs) h
of_catalog (Report c) row h = absurd h
of_catalog (Deactivate c) row h = absurd h
of_catalog (Expiration c) row h = absurd h

of_resource : (change : Change) (row : Cells) → IsResourceOf change row → certname_of entity.Resources row ≡ change_certname change
of_resource (Facts c) row h = absurd h
of_resource (Catalog c) row h = ap (certname_of entity.Resources) h.2
of_resource (Report c) row h = absurd h
of_resource (Deactivate c) row h = absurd h
of_resource (Expiration c) row h = absurd h

of_edge : (change : Change) (row : Cells) → IsEdgeOf change row → certname_of entity.Edges row ≡ change_certname change
of_edge (Facts c) row h = absurd h
of_edge (Catalog c) row h = ap (certname_of entity.Edges) h.2
of_edge (Report c) row h = absurd h
of_edge (Deactivate c) row h = absurd h
of_edge (Expiration c) row h = absurd h

pub of_report : (received : Option ℤ) (change : Change) (row : Cells) → IsReportOf received change row → certname_of entity.Reports row ≡ change_certname change
of_report received (Facts c) row h = absurd h
of_report received (Catalog c) row h = absurd h
of_report received (Report c) row h = ap (certname_of entity.Reports) h
of_report received (Deactivate c) row h = absurd h
of_report received (Expiration c) row h = absurd h

-- ---- the rows of one node

module _ (ttls : Ttls) (history : Trace) (n : List ℕ) (row : Cells) where
  of_newest : (e : Entity) (k : Kind) (shown_rows : Change → List Cells) → ((change : Change) → Among row (shown_rows change) → certname_of e row ≡ change_certname change) →
      (o : Option Applied) → newest k (life ttls n history) ≡ o → Among row (shown shown_rows (change_of o)) → certname_of e row ≡ n
  of_newest e k shown_rows told None f a = absurd a
  of_newest e k shown_rows told (Some x) f a =
      told x.change a ∙ sym (comes_from ttls n history x (newest_is_greatest k (life ttls n history) x f).among).certname

  node_row : Among row (rows_of entity.Nodes ttls history n) → certname_of entity.Nodes row ≡ n
  node_row (inl same) = ap (certname_of entity.Nodes) same
  node_row (inr a) = absurd a

  report_row : Among row (rows_of entity.Reports ttls history n) → certname_of entity.Reports row ≡ n
  report_row a =
      let report = Among-from_flat_map (λ (x : Applied). report_rows x.received x.change) (sorted_by report_cmp (kept_reports ttls n history)) row a in
      let in_life = kept_among_life ttls history n report.0 (among-from_sorted_by report_cmp report.0 (kept_reports ttls n history) report.1) in
      of_report report.0.received report.0.change row (report_told report.0.received report.0.change row report.2) ∙ sym (comes_from ttls n history report.0 in_life).certname

  pub row_of_node : (e : Entity) → Among row (rows_of e ttls history n) → certname_of e row ≡ n
  row_of_node entity.Nodes a = node_row a
  row_of_node entity.Factsets a = of_newest entity.Factsets kind.Facts factset_rows (λ change b. of_factset change row (factset_told change row b)) (newest kind.Facts (life ttls n history)) refl a
  row_of_node entity.Facts a = of_newest entity.Facts kind.Facts fact_rows (λ change b. of_fact change row b) (newest kind.Facts (life ttls n history)) refl a
  row_of_node entity.Catalogs a = of_newest entity.Catalogs kind.Catalog catalog_rows (λ change b. of_catalog change row (catalog_told change row b)) (newest kind.Catalog (life ttls n history)) refl a
  row_of_node entity.Resources a = of_newest entity.Resources kind.Catalog resource_rows (λ change b. of_resource change row (resource_told change row b)) (newest kind.Catalog (life ttls n history)) refl a
  row_of_node entity.Edges a = of_newest entity.Edges kind.Catalog edge_rows (λ change b. of_edge change row (edge_told change row b)) (newest kind.Catalog (life ttls n history)) refl a
  row_of_node entity.Reports a = report_row a
  row_of_node _ a = absurd a

-- ---- what holds of the changes of a history holds of those of a life

module _ (P : Change → Type 0) where
  abbrev pub EachChange : Trace → Type 0
  EachChange [] = Unit {0}
  EachChange (applied x ∷ earlier) = P x.change × EachChange earlier
  EachChange (swept kinds m ∷ earlier) = EachChange earlier

  module _ (ttls : Ttls) (n : List ℕ) where
    of_command : (b : Bool) (x y : Applied) (earlier : Trace) → P y.change → Among x (if b then y ∷ life ttls n earlier else life ttls n earlier) → (Among x (life ttls n earlier) → P x.change) → P x.change
    of_command true x y earlier h (inl same) next = subst (λ (z : Applied). P z.change) (sym same) h
    of_command true x y earlier h (inr a) next = next a
    of_command false x y earlier h a next = next a

    of_sweep : (b : Bool) (x : Applied) (earlier : Trace) → Among x (if b then [] else life ttls n earlier) → (Among x (life ttls n earlier) → P x.change) → P x.change
    of_sweep true x earlier a next = absurd a
    of_sweep false x earlier a next = next a

    pub life_has : (history : Trace) → EachChange history → (x : Applied) → Among x (life ttls n history) → P x.change
    life_has [] h x a = absurd a
    life_has (applied y ∷ earlier) h x a = of_command (bytes_eq n (change_certname y.change)) x y earlier h.0 a (life_has earlier h.1 x)
    life_has (swept kinds m ∷ earlier) h x a =
        of_sweep (kinds.purge && is_purged ttls m (greatest_expiry (swept kinds m ∷ earlier)) (life ttls n earlier)) x earlier a (life_has earlier h x)

each_is_lawful : (history : Trace) → IsTrace history → EachChange IsChange history
each_is_lawful [] h = tt
each_is_lawful (applied x ∷ earlier) h = (h.0, each_is_lawful earlier h.4)
each_is_lawful (swept kinds m ∷ earlier) h = each_is_lawful earlier h.1

pub life_is_lawful : (ttls : Ttls) (n : List ℕ) (history : Trace) → IsTrace history → (x : Applied) → Among x (life ttls n history) → IsChange x.change
life_is_lawful ttls n history h = life_has IsChange ttls n history (each_is_lawful history h)
