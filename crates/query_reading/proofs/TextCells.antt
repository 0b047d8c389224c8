-- In tables each certname, each name of a fact, each type and title of a resource is a text.
use Rattle.std.proofs.Common.{◌≡◌, ℕ, ℤ, List, [], ◌∷◌, Option, Some, None, refl}
use Rattle.std.specs.Prelude.{codes, flat_map}
use Rattle.std.specs.List.{AllByRecursion}
use Rattle.fleet_tables.proofs.of_plain_laws.Members.{all_both, all_mapped}
use Rattle.fleet_tables.specs.fleet_rows.declared.applied.Applied.{Applied}
use Rattle.fleet_tables.specs.fleet_rows.declared.change.Change.{Change}
use Rattle.fleet_tables.specs.fleet_rows.declared.change.Change.TheVariants as change
use Rattle.fleet_tables.specs.fleet_rows.declared.row.Entity.{Entity}
use Rattle.fleet_tables.specs.fleet_rows.declared.row.Entity.TheVariants.{Nodes, Factsets, Facts, Catalogs, Resources, Edges, Reports}
use Rattle.fleet_tables.specs.fleet_rows.declared.settings.Ttls.{Ttls}
use Rattle.fleet_tables.specs.history_spec.Facts.{rows_of_facts}
use Rattle.fleet_tables.specs.table_machine.Rows.{node_rows, table_rows}
use Rattle.fleet_tables.specs.table_machine.Table.{Node, Table}
use Rattle.query_plan.specs.table_spec.Cells.{text_cell, fact_cells, resource_cells, edge_cells}
use Rattle.query_plan.specs.table_spec.Columns.{columns}
use Rattle.query_plan.specs.table_spec.Named.{cell_under}
use Rattle.query_plan.specs.table_spec.Rows.{Cells, change_of, shown, factset_rows, fact_rows, catalog_rows, resource_rows, edge_rows, report_rows}
use Rattle.query_plan.specs.table_spec.Sorted.{sorted_by, resource_cmp, edge_cmp}

-- the row's column shows a text
abbrev pub IsTextIn : Entity → List ℕ → Cells → Type 0
IsTextIn e column row = (s : List ℕ) × (cell_under (columns e) column row ≡ text_cell s)

abbrev AreTextsIn : Entity → List ℕ → List Cells → Type 0
AreTextsIn e column rows = AllByRecursion (IsTextIn e column) rows

all_joined : {A B : Type 0} (P : B → Type 0) (f : A → List B) (xs : List A) → ((x : A) → AllByRecursion P (f x)) → AllByRecursion P (flat_map f xs)
all_joined P f [] h = tt
all_joined P f (x ∷ xs) h = all_both P (f x) (flat_map f xs) (h x) (all_joined P f xs h)

all_shown : (P : Cells → Type 0) (rows : Change → List Cells) → ((c : Change) → AllByRecursion P (rows c)) → (o : Option Applied) → AllByRecursion P (shown rows (change_of o))
all_shown P rows each None = tt
all_shown P rows each (Some x) = each x.change

-- ---- certnames

factset_texts : (c : Change) → AreTextsIn Factsets (codes "certname") (factset_rows c)
factset_texts (change.Facts c) = ((c.certname, refl), tt)
factset_texts (change.Catalog c) = tt
factset_texts (change.Report c) = tt
factset_texts (change.Deactivate c) = tt
factset_texts (change.Expiration c) = tt

fact_texts : (c : Change) → AreTextsIn Facts (codes "certname") (fact_rows c)
fact_texts (change.Facts c) = all_mapped (IsTextIn Facts (codes "certname")) fact_cells (rows_of_facts c) (λ f. (f.certname, refl))
fact_texts (change.Catalog c) = tt
fact_texts (change.Report c) = tt
fact_texts (change.Deactivate c) = tt
fact_texts (change.Expiration c) = tt

catalog_texts : (c : Change) → AreTextsIn Catalogs (codes "certname") (catalog_rows c)
catalog_texts (change.Facts c) = tt
catalog_texts (change.Catalog c) = ((c.certname, refl), tt)
catalog_texts (change.Report c) = tt
catalog_texts (change.Deactivate c) = tt
catalog_texts (change.Expiration c) = tt

resource_texts : (c : Change) → AreTextsIn Resources (codes "certname") (resource_rows c)
resource_texts (change.Facts c) = tt
resource_texts (change.Catalog c) = all_mapped (IsTextIn Resources (codes "certname")) (resource_cells c) (sorted_by resource_cmp c.resources) (λ r. (c.certname, refl))
resource_texts (change.Report c) = tt
resource_texts (change.Deactivate c) = tt
resource_texts (change.Expiration c) = tt

edge_texts : (c : Change) → AreTextsIn Edges (codes "certname") (edge_rows c)
edge_texts (change.Facts c) = tt
edge_texts (change.Catalog c) = all_mapped (IsTextIn Edges (codes "certname")) (edge_cells c) (sorted_by edge_cmp c.edges) (λ r. (c.certname, refl))
edge_texts (change.Report c) = tt
edge_texts (change.Deactivate c) = tt
edge_texts (change.Expiration c) = tt

report_texts : (received : Option ℤ) (c : Change) → AreTextsIn Reports (codes "certname") (report_rows received c)
report_texts received (change.Facts c) = tt
report_texts received (change.Catalog c) = tt
report_texts received (change.Report c) = ((c.certname, refl), tt)
report_texts received (change.Deactivate c) = tt
report_texts received (change.Expiration c) = tt

node_texts : (e : Entity) (ttls : Ttls) (expiry : Option ℤ) (node : Node) → AreTextsIn e (codes "certname") (node_rows e ttls expiry node)
node_texts Nodes ttls expiry node = ((node.certname, refl), tt)
node_texts Factsets ttls expiry node = all_shown (IsTextIn Factsets (codes "certname")) factset_rows factset_texts node.facts
node_texts Facts ttls expiry node = all_shown (IsTextIn Facts (codes "certname")) fact_rows fact_texts node.facts
node_texts Catalogs ttls expiry node = all_shown (IsTextIn Catalogs (codes "certname")) catalog_rows catalog_texts node.catalog
node_texts Resources ttls expiry node = all_shown (IsTextIn Resources (codes "certname")) resource_rows resource_texts node.catalog
node_texts Edges ttls expiry node = all_shown (IsTextIn Edges (codes "certname")) edge_rows edge_texts node.catalog
node_texts Reports ttls expiry node =
    all_joined (IsTextIn Reports (codes "certname")) (λ (x : Applied). report_rows x.received x.change) node.reports (λ x. report_texts x.received x.change)
node_texts _ ttls expiry node = tt

pub certnames_are_texts : (e : Entity) (table : Table) → AllByRecursion (IsTextIn e (codes "certname")) (table_rows e table)
certnames_are_texts e table = all_joined (IsTextIn e (codes "certname")) (node_rows e table.ttls table.expiry) table.nodes (node_texts e table.ttls table.expiry)

-- ---- facts by name

fact_named : (c : Change) → AreTextsIn Facts (codes "name") (fact_rows c)
fact_named (change.Facts c) = all_mapped (IsTextIn Facts (codes "name")) fact_cells (rows_of_facts c) (λ f. (f.name, refl))
fact_named (change.Catalog c) = tt
fact_named (change.Report c) = tt
fact_named (change.Deactivate c) = tt
fact_named (change.Expiration c) = tt

pub names_are_texts : (table : Table) → AllByRecursion (IsTextIn Facts (codes "name")) (table_rows Facts table)
names_are_texts table =
    all_joined (IsTextIn Facts (codes "name")) (node_rows Facts table.ttls table.expiry) table.nodes (λ node. all_shown (IsTextIn Facts (codes "name")) fact_rows fact_named node.facts)

-- ---- resources by type and title

resource_typed : (c : Change) → AreTextsIn Resources (codes "type") (resource_rows c)
resource_typed (change.Facts c) = tt
resource_typed (change.Catalog c) = all_mapped (IsTextIn Resources (codes "type")) (resource_cells c) (sorted_by resource_cmp c.resources) (λ r. (r.rtype, refl))
resource_typed (change.Report c) = tt
resource_typed (change.Deactivate c) = tt
resource_typed (change.Expiration c) = tt

resource_titled : (c : Change) → AreTextsIn Resources (codes "title") (resource_rows c)
resource_titled (change.Facts c) = tt
resource_titled (change.Catalog c) = all_mapped (IsTextIn Resources (codes "title")) (resource_cells c) (sorted_by resource_cmp c.resources) (λ r. (r.title, refl))
resource_titled (change.Report c) = tt
resource_titled (change.Deactivate c) = tt
resource_titled (change.Expiration c) = tt

pub types_are_texts : (table : Table) → AllByRecursion (IsTextIn Resources (codes "type")) (table_rows Resources table)
types_are_texts table =
    all_joined (IsTextIn Resources (codes "type")) (node_rows Resources table.ttls table.expiry) table.nodes (λ node. all_shown (IsTextIn Resources (codes "type")) resource_rows resource_typed node.catalog)

pub titles_are_texts : (table : Table) → AllByRecursion (IsTextIn Resources (codes "title")) (table_rows Resources table)
titles_are_texts table =
    all_joined (IsTextIn Resources (codes "title")) (node_rows Resources table.ttls table.expiry) table.nodes (λ node. all_shown (IsTextIn Resources (codes "title")) resource_rows resource_titled node.catalog)
