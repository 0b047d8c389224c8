-- What the hash of a catalog is made from: its columns, and the rows of its resources and edges.
use Rattle.std.proofs.Common.{◌≡◌, ◌∙◌, List, [], ◌∷◌, refl, sym, ap, subst, map, codes}
use Rattle.table_machine.specs.text_spec.Json.{Json, string, array, object, items_of, members_of}
use Rattle.table_machine.specs.text_spec.Compact.{insert_member}
use Rattle.table_machine.specs.fleet_rows.declared.catalog.CatalogChange.{CatalogChange}
use Rattle.table_machine.specs.fleet_rows.declared.change.Change.{Change}
use Rattle.table_machine.specs.fleet_rows.declared.change.Change.TheVariants.{Facts, Catalog, Report, Deactivate, Expiration}
use Rattle.table_machine.specs.fleet_rows.declared.command.Kind.TheVariants as kind
use Rattle.table_machine.specs.fleet_rows.declared.row.Entity.TheVariants.{Catalogs, Resources, Edges}
use Rattle.table_machine.specs.history_spec.Life.{life}
use Rattle.table_machine.proofs.of_history_laws.Lives.{comes_from, is_node}
use Rattle.table_machine.proofs.of_history_laws.NewestIsGreatest.{newest_is_greatest}
use Rattle.table_machine.specs.table_spec.Cells.{hash, catalog_cells, resource_cells, edge_cells, resource_object, resource_hashes, edge_texts}
use Rattle.table_machine.specs.table_spec.Rows.{Cells, change_of, shown, resource_rows, edge_rows}
use Rattle.table_machine.specs.table_spec.Sorted.{sorted_by, resource_cmp, edge_cmp}
use Rattle.table_laws.specs.JoinLaws.{certname_of, rows_with, edge_of_row, CatalogsAreHashed}
use Rattle.table_laws.specs.Named.{value_under, values_without}
use Rattle.table_laws.specs.RowLaws.{IsCatalogOf}
use Rattle.table_laws.proofs.Joins.{rows_with_certname}
use Rattle.table_laws.proofs.RowNodes.{of_catalog}
use Rattle.table_laws.proofs.ShownRows.{catalogs_are_of_the_newest}

map-map : {X Y Z : Type 0} (f : Y → Z) (g : X → Y) (h : X → Z) → ((x : X) → f (g x) ≡ h x) → (xs : List X) → map f (map g xs) ≡ map h xs
map-map f g h e [] = refl
map-map f g h e (x ∷ xs) = λ i. e x i ∷ map-map f g h e xs i

-- ---- by the rows of the change

abbrev hashes_of : List Cells → Json
hashes_of rows = array (items_of (map (value_under Resources (codes "resource")) rows))

abbrev edges_of : List Cells → Json
edges_of rows = array (items_of (map edge_of_row rows))

resources_by_rows : (c : CatalogChange) → resource_hashes c.resources ≡ hashes_of (resource_rows (Catalog c))
resources_by_rows c = sym (ap (λ js. array (items_of js)) (map-map _ (resource_cells c) (λ r. string (hash (resource_object r))) (λ r. refl) (sorted_by resource_cmp c.resources)))

edges_by_rows : (c : CatalogChange) → array (items_of (map edge_texts (sorted_by edge_cmp c.edges))) ≡ edges_of (edge_rows (Catalog c))
edges_by_rows c = sym (ap (λ js. array (items_of js)) (map-map _ (edge_cells c) edge_texts (λ e. refl) (sorted_by edge_cmp c.edges)))

abbrev object_with : Cells → Json → Json → Json
object_with row edges resources = object (insert_member (codes "edges") edges (insert_member (codes "resources") resources (members_of (values_without (codes "hash" ∷ []) Catalogs row))))

hashed_change : (c : CatalogChange) → value_under Catalogs (codes "hash") (catalog_cells c) ≡ string (hash (object_with (catalog_cells c) (edges_of (edge_rows (Catalog c))) (hashes_of (resource_rows (Catalog c)))))
hashed_change c = λ i. string (hash (object_with (catalog_cells c) (edges_by_rows c i) (resources_by_rows c i)))

hashed : (change : Change) (row : Cells) → IsCatalogOf change row → value_under Catalogs (codes "hash") row ≡ string (hash (object_with row (edges_of (edge_rows change)) (hashes_of (resource_rows change))))
hashed (Facts c) row h = absurd h
hashed (Catalog c) row h =
    subst (λ r. value_under Catalogs (codes "hash") r ≡ string (hash (object_with r (edges_of (edge_rows (Catalog c))) (hashes_of (resource_rows (Catalog c)))))) (sym h) (hashed_change c)
hashed (Report c) row h = absurd h
hashed (Deactivate c) row h = absurd h
hashed (Expiration c) row h = absurd h

-- ---- by the rows of the tables

pub catalogs_are_hashed : CatalogsAreHashed
catalogs_are_hashed ttls history row h =
    let seen = (catalogs_are_of_the_newest ttls history row).0 h in
    let among = (newest_is_greatest kind.Catalog (life ttls seen.node history) seen.command seen.is_newest).among in
    let node = is_node ttls seen.node history seen.command among in
    let certname : seen.node ≡ certname_of Catalogs row = (comes_from ttls seen.node history seen.command among).certname ∙ sym (of_catalog seen.command.change row seen.shows) in
    let edges : edge_rows seen.command.change ≡ rows_with Edges ttls history (certname_of Catalogs row) =
    sym (ap (λ o. shown edge_rows (change_of o)) seen.is_newest) ∙ sym (rows_with_certname ttls history seen.node node Edges) ∙ ap (rows_with Edges ttls history) certname in
    let resources : resource_rows seen.command.change ≡ rows_with Resources ttls history (certname_of Catalogs row) =
    sym (ap (λ o. shown resource_rows (change_of o)) seen.is_newest) ∙ sym (rows_with_certname ttls history seen.node node Resources) ∙ ap (rows_with Resources ttls history) certname in
    hashed seen.command.change row seen.shows ∙ (λ i. string (hash (object_with row (edges_of (edges i)) (hashes_of (resources i)))))
