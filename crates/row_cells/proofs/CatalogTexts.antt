-- The text that a catalog's hash is made from, in its parts.
use Rattle.std.proofs.Common.{◌≡◌, ◌∙◌, ℕ, List, [], ◌∷◌, ◌++◌, map, refl, ap, sym, Bool, true, false, append_assoc, codes}
use Rattle.table_spec.specs.text_spec.Json.{Json, string, array, object, items_of, members_of}
use Rattle.table_spec.specs.text_spec.Compact.{canonical}
use Rattle.table_spec.specs.fleet_rows.declared.catalog.CatalogChange.{CatalogChange}
use Rattle.table_spec.specs.fleet_rows.declared.catalog.Edge.{Edge}
use Rattle.table_spec.specs.history_spec.Report.{text_or_null}
use Rattle.table_spec.specs.Cells.{hash, tags_value, resource_object, resource_hashes, catalog_object}
use Rattle.table_spec.specs.Sorted.{sorted_by, resource_cmp, edge_cmp}
use Rattle.row_cells.specs.Catalogs.{edges_value, before_edges, behind_edges}
use Rattle.row_cells.specs.Texts.{member_text, members_text}
use Rattle.row_cells.proofs.ObjectTexts.{object_text, wrapped}
use Rattle.row_cells.proofs.SortedLaws.{mapped_items}

joined_more : (xs ys : List (List ℕ × Json)) → members_text true (xs ++ ys) ≡ members_text true xs ++ members_text true ys
joined_more [] ys = refl
joined_more (x ∷ xs) ys =
    ap (λ t. member_text true x.0 x.1 ++ t) (joined_more xs ys) ∙ sym (append_assoc (member_text true x.0 x.1) (members_text true xs) (members_text true ys))

joined : (later : Bool) (x : List ℕ × Json) (xs ys : List (List ℕ × Json)) → members_text later (x ∷ xs ++ ys) ≡ members_text later (x ∷ xs) ++ members_text true ys
joined later x xs ys =
    ap (λ t. member_text later x.0 x.1 ++ t) (joined_more xs ys) ∙ sym (append_assoc (member_text later x.0 x.1) (members_text true xs) (members_text true ys))

abbrev parts : CatalogChange → Json → Json → List (List ℕ × Json)
parts c edges resources = before_edges c ++ (codes "edges", edges) ∷ behind_edges c resources

text_of_parts : (c : CatalogChange) (edges resources : Json)
    → 123 ∷ (members_text false (before_edges c) ++ (member_text true (codes "edges") edges ++ members_text true (behind_edges c resources)) ++ 125 ∷ [])
    ≡ canonical (object (members_of (parts c edges resources)))
text_of_parts c edges resources =
    ap (λ t. 123 ∷ (t ++ 125 ∷ [])) (sym (joined false (codes "catalog_uuid", text_or_null c.catalog_uuid)
    ((codes "certname", string c.certname) ∷ (codes "code_id", text_or_null c.code_id) ∷ []) ((codes "edges", edges) ∷ behind_edges c resources)))
    ∙ sym (object_text (parts c edges resources) refl)

in_parts : (out a e b : List ℕ) → out ++ 123 ∷ [] ++ a ++ e ++ b ++ 125 ∷ [] ≡ out ++ 123 ∷ (a ++ (e ++ b) ++ 125 ∷ [])
in_parts out a e b =
    ap (λ t. t ++ 125 ∷ []) (append_assoc (out ++ 123 ∷ [] ++ a) e b ∙ append_assoc (out ++ 123 ∷ []) a (e ++ b)) ∙ wrapped 123 125 out (a ++ (e ++ b))

pub catalog_text : (out : List ℕ) (c : CatalogChange) (hashes : List (List ℕ)) (es : List Edge)
    → hashes ≡ map (λ r. hash (resource_object r)) (sorted_by resource_cmp c.resources) → es ≡ sorted_by edge_cmp c.edges
    → out ++ 123 ∷ [] ++ members_text false (before_edges c) ++ member_text true (codes "edges") (edges_value es) ++ members_text true (behind_edges c (tags_value hashes)) ++ 125 ∷ []
    ≡ out ++ canonical (catalog_object c)
catalog_text out c hashes es hashed sorted =
    let resources : tags_value hashes ≡ resource_hashes c.resources =
    ap tags_value hashed
    ∙ ap (λ js. array (items_of js)) (sym (mapped_items (λ r. hash (resource_object r)) string (sorted_by resource_cmp c.resources) (map (λ r. hash (resource_object r)) (sorted_by resource_cmp c.resources)) refl)) in
    in_parts out (members_text false (before_edges c)) (member_text true (codes "edges") (edges_value es)) (members_text true (behind_edges c (tags_value hashes)))
    ∙ ap (λ t. out ++ t) (text_of_parts c (edges_value es) (tags_value hashes)
    ∙ (λ i. canonical (object (members_of (parts c (edges_value (sorted i)) (resources i))))))
