-- The query of an entity without a filter selects the rows of active nodes.
use Rattle.std.proofs.Common.{◌≡◌, ◌∙◌, ℕ, List, [], ◌∷◌, ◌++◌, Bool, true, false, not, cond, Option, Some, None, refl, sym, ap, subst, map, inl, inr, true≢false}
use Rattle.std.specs.Prelude.{IsTrue}
use Rattle.std.specs.List.{Contains, filter, flat_map}
use Rattle.std.specs.declared.cmp.Ordering.TheVariants.{Equal}
use Rattle.table_laws.proofs.of_plain_laws.Members.{Among, Contains-from_Among, Among-from_Contains, Among-from_map, Among-flat_map}
use Rattle.table_laws.specs.fleet_rows.declared.row.Entity.{Entity}
use Rattle.table_laws.specs.fleet_rows.declared.row.Entity.TheVariants as entity
use Rattle.table_laws.specs.fleet_rows.declared.settings.Ttls.{Ttls}
use Rattle.table_laws.specs.history_spec.Facts.{fact_rows}
use Rattle.table_laws.specs.history_spec.Life.{nodes, is_inactive}
use Rattle.table_laws.specs.history_spec.Trace.{Trace}
use Rattle.paging_text.specs.query_spec.Answer.{entity_name, is_queryable}
use Rattle.paging_text.specs.query_spec.Check.{entity_named}
use Rattle.paging_text.specs.query_spec.Parts.{unpaged}
use Rattle.paging_text.specs.query_spec.Query.{no_clause}
use Rattle.table_laws.specs.table_spec.Cells.{fact_cells}
use Rattle.table_laws.specs.table_spec.Rows.{Cells, rows, rows_of, active_rows}
use Rattle.table_laws.specs.table_spec.Sorted.{insert_by, sorted_by}
use Rattle.table_laws.specs.JoinLaws.{certname_of}
use Rattle.table_laws.proofs.EachRow.{factset_rows_have, catalog_rows_have, resource_rows_have, edge_rows_have, report_rows_have}
use Rattle.table_laws.proofs.FactTables.{facts_are_those_of_the_history}
use Rattle.table_laws.proofs.RowNodes.{row_of_node}
use Rattle.paging_text.specs.means_spec.Cells.{node_in}
use Rattle.paging_text.specs.means_spec.Means as means
use Rattle.paging_text.specs.means_spec.Means.{answered}
use Rattle.paging_text.specs.means_spec.Shown.{output_names}
use Rattle.paging_text.specs.means_spec.World.{World, world_of, rows_in}
use Rattle.means_laws.specs.Laws.{ActiveRowsAreSelected}

-- ---- lists

-- a sort in which all tie leaves the list as it is
pub tied : (rows : List Cells) → sorted_by (λ a b. Equal) rows ≡ rows
tied [] = refl
tied (x ∷ xs) = ap (insert_by (λ a b. Equal) x) (tied xs) ∙ in_front x xs
  where
    in_front : (x : Cells) (ys : List Cells) → insert_by (λ a b. Equal) x ys ≡ x ∷ ys
    in_front x [] = refl
    in_front x (y ∷ ys) = refl

same_rows : (rows : List Cells) → map (λ (row : Cells). row) rows ≡ rows
same_rows [] = refl
same_rows (x ∷ xs) = ap (λ ys. x ∷ ys) (same_rows xs)

module _ (f : List ℕ → List Cells) (p : Cells → Bool) (q : List ℕ → Bool) where
  append_nothing : (xs : List Cells) → xs ++ [] ≡ xs
  append_nothing [] = refl
  append_nothing (x ∷ xs) = ap (λ l. x ∷ l) (append_nothing xs)

  joined : (b : Bool) (x : Cells) (xs ys zs : List Cells) → zs ≡ xs ++ ys → cond b (x ∷ zs) zs ≡ cond b (x ∷ xs) xs ++ ys
  joined true x xs ys zs e = ap (λ l. x ∷ l) e
  joined false x xs ys zs e = e

  filter_join : (xs ys : List Cells) → filter p (xs ++ ys) ≡ filter p xs ++ filter p ys
  filter_join [] ys = refl
  filter_join (x ∷ xs) ys = joined (p x) x (filter p xs) (filter p ys) (filter p (xs ++ ys)) (filter_join xs ys)

  -- a block passes as a whole, or not at all
  whole_step : (b : Bool) (c : Bool) (x : Cells) (xs : List Cells) → c ≡ b → filter p xs ≡ cond b xs [] → cond c (x ∷ filter p xs) (filter p xs) ≡ cond b (x ∷ xs) []
  whole_step true true x xs e h = ap (λ l. x ∷ l) h
  whole_step true false x xs e h = absurd (let apart : false ≡ true = e in cc)
  whole_step false true x xs e h = absurd (let apart : true ≡ false = e in cc)
  whole_step false false x xs e h = h

  nothing : (b : Bool) → ◌≡◌ {A = List Cells} [] (cond b [] [])
  nothing true = refl
  nothing false = refl

  whole_block : (b : Bool) (xs : List Cells) → ((row : Cells) → Among row xs → p row ≡ b) → filter p xs ≡ cond b xs []
  whole_block b [] h = nothing b
  whole_block b (x ∷ xs) h = whole_step b (p x) x xs (h x (inl refl)) (whole_block b xs (λ row a. h row (inr a)))

  blocks_step : (b : Bool) (n : List ℕ) (ns : List (List ℕ)) → cond b (f n) [] ++ flat_map f (filter q ns) ≡ flat_map f (cond b (n ∷ filter q ns) (filter q ns))
  blocks_step true n ns = refl
  blocks_step false n ns = refl

  filter_blocks : (ns : List (List ℕ)) → ((n : List ℕ) (row : Cells) → Among n ns → Among row (f n) → p row ≡ q n) → filter p (flat_map f ns) ≡ flat_map f (filter q ns)
  filter_blocks [] h = refl
  filter_blocks (n ∷ ns) h =
      filter_join (f n) (flat_map f ns)
      ∙ (λ i. whole_block (q n) (f n) (λ row a. h n row (inl refl) a) i ++ filter_blocks ns (λ m row a b. h m row (inr a) b) i)
      ∙ blocks_step (q n) n ns

-- ---- the node of a row

module _ (ttls : Ttls) (history : Trace) (n : List ℕ) (row : Cells) where
  node_row : Among row (rows_of entity.Nodes ttls history n) → node_in (Some entity.Nodes) row ≡ n
  node_row (inl same) = ap (node_in (Some entity.Nodes)) same
  node_row (inr a) = absurd a

  fact_named : Contains (rows entity.Facts ttls history) row → node_in (Some entity.Facts) row ≡ certname_of entity.Facts row
  fact_named c =
      let image = Among-from_map fact_cells (fact_rows ttls history) row (subst (λ rs. Among row rs) (facts_are_those_of_the_history ttls history) (Among-from_Contains (rows entity.Facts ttls history) row c)) in
      ap (node_in (Some entity.Facts)) image.2 ∙ sym (ap (certname_of entity.Facts) image.2)

  contained : (e : Entity) → Among n (nodes ttls history) → Among row (rows_of e ttls history n) → Contains (rows e ttls history) row
  contained e a b = Contains-from_Among (rows e ttls history) row (Among-flat_map (rows_of e ttls history) (nodes ttls history) n row a b)

  named : (e : Entity) → Contains (rows e ttls history) row → Among row (rows_of e ttls history n) → node_in (Some e) row ≡ n
  named entity.Nodes c b = node_row b
  named entity.Factsets c b = factset_rows_have (λ r. node_in (Some entity.Factsets) r ≡ certname_of entity.Factsets r) ttls history row (λ c. refl) c ∙ row_of_node ttls history n row entity.Factsets b
  named entity.Facts c b = fact_named c ∙ row_of_node ttls history n row entity.Facts b
  named entity.Catalogs c b = catalog_rows_have (λ r. node_in (Some entity.Catalogs) r ≡ certname_of entity.Catalogs r) ttls history row (λ c. refl) c ∙ row_of_node ttls history n row entity.Catalogs b
  named entity.Resources c b = resource_rows_have (λ r. node_in (Some entity.Resources) r ≡ certname_of entity.Resources r) ttls history row (λ c r. refl) c ∙ row_of_node ttls history n row entity.Resources b
  named entity.Edges c b = edge_rows_have (λ r. node_in (Some entity.Edges) r ≡ certname_of entity.Edges r) ttls history row (λ c e. refl) c ∙ row_of_node ttls history n row entity.Edges b
  named entity.Reports c b = report_rows_have (λ r. node_in (Some entity.Reports) r ≡ certname_of entity.Reports r) ttls history row (λ received c. refl) c ∙ row_of_node ttls history n row entity.Reports b
  named _ c b = absurd b

-- ---- the rows

entity_is : (e : Entity) → IsTrue (is_queryable e) → entity_named (entity_name e) ≡ Some e
unfolding entity_named
entity_is entity.Nodes h = refl
entity_is entity.Factsets h = refl
entity_is entity.Facts h = refl
entity_is entity.Catalogs h = refl
entity_is entity.Resources h = refl
entity_is entity.Edges h = refl
entity_is entity.Reports h = refl
entity_is entity.FactContents h = absurd (true≢false (sym h))
entity_is entity.Inventory h = absurd (true≢false (sym h))
entity_is entity.Events h = absurd (true≢false (sym h))
entity_is entity.EventCounts h = absurd (true≢false (sym h))

module _ (ttls : Ttls) (history : Trace) (matches : List ℕ → List ℕ → Bool) (e : Entity) where
  abbrev w : World
  w = world_of ttls history matches

  passing : filter (λ row. means.passes w no_clause (Some e) row) (rows e ttls history) ≡ active_rows e ttls history
  passing =
      filter_blocks (rows_of e ttls history) (λ row. means.passes w no_clause (Some e) row) (λ n. not (is_inactive ttls history n)) (nodes ttls history)
      (λ n row a b. ap (λ node. not (is_inactive ttls history node)) (named ttls history n row e (contained ttls history n row e a b) b))

  selected_rows : (o : Option Entity) → o ≡ Some e → answered o None [] unpaged (filter (λ row. means.passes w no_clause o row) (rows_in w o)) ≡ active_rows e ttls history
  selected_rows o same =
      ap (λ x. answered x None [] unpaged (filter (λ row. means.passes w no_clause x row) (rows_in w x))) same
      ∙ same_rows (sorted_by (λ a b. Equal) (filter (λ row. means.passes w no_clause (Some e) row) (rows e ttls history)))
      ∙ tied (filter (λ row. means.passes w no_clause (Some e) row) (rows e ttls history))
      ∙ passing

pub active_rows_are_selected : ActiveRowsAreSelected
active_rows_are_selected e ttls history matches h =
    λ i. record {
      names = output_names (entity_is e h i) None;
      rows = selected_rows ttls history matches e (entity_named (entity_name e)) (entity_is e h) i;
    }
