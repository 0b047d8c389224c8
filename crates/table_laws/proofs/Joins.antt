-- The rows with a node's certname are those of the node.
use Rattle.std.proofs.Common.{◌≡◌, ◌∙◌, ℕ, List, [], ◌∷◌, ◌++◌, refl, sym, ap, subst, map, ℤ, Bool, true, false, cond, Option, Some, None, codes, inl, inr, append-nil}
use Rattle.std.specs.List.{Contains, filter, flat_map}
use Rattle.std.specs.List.Sorted.{IsStrictlySortedBy}
use Rattle.std.specs.Str.{bytes_eq}
use Rattle.std.proofs.lemmas.Slice.Eq.{bytes_eq-Decides}
use Rattle.table_machine.specs.text_spec.Compact.{text_cmp}
use Rattle.table_machine.specs.fleet_rows.declared.change.Change.{Change}
use Rattle.table_machine.specs.fleet_rows.declared.change.Change.TheVariants.{Facts, Catalog, Report, Deactivate, Expiration}
use Rattle.table_machine.specs.fleet_rows.declared.command.Kind.TheVariants as kind
use Rattle.table_machine.specs.fleet_rows.declared.row.Entity.{Entity}
use Rattle.table_machine.specs.fleet_rows.declared.row.Entity.TheVariants as entity
use Rattle.table_machine.specs.fleet_rows.declared.settings.Ttls.{Ttls}
use Rattle.table_machine.specs.fleet_rows.Change.{change_kind}
use Rattle.table_machine.specs.history_spec.Life.{life, nodes, greatest_expiry, kept_reports}
use Rattle.table_machine.specs.history_spec.Node.{newest, deactivated, expired}
use Rattle.table_machine.specs.fleet_rows.declared.applied.Applied.{Applied}
use Rattle.table_machine.specs.history_spec.Trace.{Trace}
use Rattle.table_machine.proofs.of_plain_laws.Lists.{map_both}
use Rattle.table_machine.proofs.of_plain_laws.Members.{Among, Among-from_Contains, Contains-from_Among, Among-from_flat_map, Among-flat_map}
use Rattle.table_machine.proofs.of_history_laws.NewestIsGreatest.{newest_is_greatest}
use Rattle.table_machine.proofs.of_history_laws.Ranks.{kind_from_is_kind}
use Rattle.table_machine.proofs.of_history_laws.SortedTexts.{apart_texts}
use Rattle.table_machine.proofs.of_plain_laws.StrictlySorted.{sorted-below, sorted-rest}
use Rattle.table_machine.proofs.of_history_laws.TraceLemmas.{nodes_are_strictly_sorted}
use Rattle.table_machine.specs.table_spec.Rows.{Cells, change_of, shown, newest_change, factset_rows, catalog_rows, node_cells, rows, rows_of}
use Rattle.table_laws.specs.JoinLaws.{certname_of, rows_with, cell_of_first, ShowsTheRow, NodesHaveOneRow, RowsAreOfNodes, NodesShowTheirFactset, NodesShowTheirCatalog}
use Rattle.table_laws.specs.Named.{cell_under}
use Rattle.table_laws.proofs.RowNodes.{row_of_node}

-- ---- one block of many

module _ {A : Type 0} (p : A → Bool) where
  pass_step : (b : Bool) (x : A) (xs ys : List A) → b ≡ true → xs ≡ ys → cond b (x ∷ xs) xs ≡ x ∷ ys
  pass_step true x xs ys h e = ap (λ l. x ∷ l) e
  pass_step false x xs ys h e = absurd (let apart : false ≡ true = h in cc)

  all_pass : (xs : List A) → ((x : A) → Among x xs → p x ≡ true) → filter p xs ≡ xs
  all_pass [] h = refl
  all_pass (x ∷ xs) h = pass_step (p x) x (filter p xs) xs (h x (inl refl)) (all_pass xs (λ y a. h y (inr a)))

  none_step : (b : Bool) (x : A) (xs : List A) → b ≡ false → xs ≡ [] → cond b (x ∷ xs) xs ≡ []
  none_step true x xs h e = absurd (let apart : true ≡ false = h in cc)
  none_step false x xs h e = e

  none_pass : (xs : List A) → ((x : A) → Among x xs → p x ≡ false) → filter p xs ≡ []
  none_pass [] h = refl
  none_pass (x ∷ xs) h = none_step (p x) x (filter p xs) (h x (inl refl)) (none_pass xs (λ y a. h y (inr a)))

  joined : (b : Bool) (x : A) (xs ys zs : List A) → zs ≡ xs ++ ys → cond b (x ∷ zs) zs ≡ cond b (x ∷ xs) xs ++ ys
  joined true x xs ys zs e = ap (λ l. x ∷ l) e
  joined false x xs ys zs e = e

  filter_join : (xs ys : List A) → filter p (xs ++ ys) ≡ filter p xs ++ filter p ys
  filter_join [] ys = refl
  filter_join (x ∷ xs) ys = joined (p x) x (filter p xs) (filter p ys) (filter p (xs ++ ys)) (filter_join xs ys)

itself : (n : List ℕ) → bytes_eq n n ≡ true
itself n = (bytes_eq-Decides n n).1 refl

other_step : (b : Bool) (n m : List ℕ) → bytes_eq n m ≡ b → (n ≡ m → ⊥) → b ≡ false
other_step true n m e apart = absurd (apart ((bytes_eq-Decides n m).0 e))
other_step false n m e apart = refl

-- of two texts one below the other they are two
module _ (f : List ℕ → List Cells) (p : Cells → Bool) (n : List ℕ) (is_of : (m : List ℕ) (row : Cells) → Among row (f m) → p row ≡ bytes_eq n m) where
  none_of : (ms : List (List ℕ)) → ((m : List ℕ) → Among m ms → n ≡ m → ⊥) → filter p (flat_map f ms) ≡ []
  none_of ms apart =
      none_pass p (flat_map f ms) (λ row a. let block = Among-from_flat_map f ms row a in is_of block.0 row block.2 ∙ other_step (bytes_eq n block.0) n block.0 refl (apart block.0 block.1))

  first_block : (m : List ℕ) (ms : List (List ℕ)) → n ≡ m → IsStrictlySortedBy text_cmp (m ∷ ms) → filter p (f m) ++ filter p (flat_map f ms) ≡ f n
  first_block m ms same s =
      (λ i. all_pass p (f m) (λ row a. is_of m row a ∙ ap (bytes_eq n) (sym same) ∙ itself n) i ++ none_of ms (λ k a e. apart_texts m k (sorted-below text_cmp m ms s k a) (sym same ∙ e)) i)
      ∙ append-nil (f m) ∙ ap f (sym same)

  pub one_block : (ms : List (List ℕ)) → IsStrictlySortedBy text_cmp ms → Among n ms → filter p (flat_map f ms) ≡ f n
  one_block [] s a = absurd a
  one_block (m ∷ ms) s (inl same) = filter_join p (f m) (flat_map f ms) ∙ first_block m ms same s
  one_block (m ∷ ms) s (inr a) =
      filter_join p (f m) (flat_map f ms)
      ∙ (λ i. none_pass p (f m) (λ row b. is_of m row b ∙ other_step (bytes_eq n m) n m refl (λ same. apart_texts m n (sorted-below text_cmp m ms s n a) (sym same))) i ++ one_block ms (sorted-rest text_cmp m ms s) a i)

-- ---- the rows with a certname

pub rows_with_certname : (ttls : Ttls) (history : Trace) (n : List ℕ) → Among n (nodes ttls history) → (e : Entity) → rows_with e ttls history n ≡ rows_of e ttls history n
rows_with_certname ttls history n a e =
    one_block (rows_of e ttls history) (λ row. bytes_eq n (certname_of e row)) n
    (λ m row b. ap (bytes_eq n) (row_of_node ttls history m row e b)) (nodes ttls history) (nodes_are_strictly_sorted ttls history) a

-- ---- the rows of nodes

certnames_of : (f : List ℕ → List Cells) → ((n : List ℕ) → map (certname_of entity.Nodes) (f n) ≡ n ∷ []) → ((xs ys : List Cells) → map (certname_of entity.Nodes) (xs ++ ys) ≡ map (certname_of entity.Nodes) xs ++ map (certname_of entity.Nodes) ys) → (ns : List (List ℕ)) → map (certname_of entity.Nodes) (flat_map f ns) ≡ ns
certnames_of f one join [] = refl
certnames_of f one join (n ∷ ns) = join (f n) (flat_map f ns) ∙ (λ i. one n i ++ certnames_of f one join ns i)

pub nodes_have_one_row : NodesHaveOneRow
nodes_have_one_row ttls history = certnames_of (rows_of entity.Nodes ttls history) (λ n. refl) (map_both (certname_of entity.Nodes)) (nodes ttls history)

abbrev pub node_row : Ttls → Trace → List ℕ → Cells
node_row ttls history n =
    node_cells n (deactivated (life ttls n history)) (expired ttls (greatest_expiry history) (life ttls n history)) (newest_change kind.Facts ttls history n) (newest_change kind.Catalog ttls history n) (change_of (newest kind.Report (kept_reports ttls n history)))

pub rows_are_of_nodes : RowsAreOfNodes
rows_are_of_nodes e ttls history row h =
    let block = Among-from_flat_map (rows_of e ttls history) (nodes ttls history) row (Among-from_Contains (rows e ttls history) row h) in (
      node_row ttls history block.0,
      Contains-from_Among (rows entity.Nodes ttls history) (node_row ttls history block.0) (Among-flat_map (rows_of entity.Nodes ttls history) (nodes ttls history) block.0 (node_row ttls history block.0) block.1 (inl refl)),
      sym (row_of_node ttls history block.0 row e block.2),
    )

-- ---- what a node's row shows of its facts and of its catalog

module _ (n : List ℕ) (xs : List Applied) where
  record Agrees (e : Entity) (environment_name timestamp_name : List ℕ) (row : Cells) (others : List Cells) : Type 0 where
    environment : cell_under entity.Nodes environment_name row ≡ cell_of_first e (codes "environment") others
    timestamp : cell_under entity.Nodes timestamp_name row ≡ cell_of_first e (codes "producer_timestamp") others

  facts_agree : (d x : Option ℤ) (c r : Option Change) (change : Change) → change_kind change ≡ kind.Facts → Agrees entity.Factsets (codes "facts_environment") (codes "facts_timestamp") (node_cells n d x (Some change) c r) (factset_rows change)
  facts_agree d x c r (Facts f) k = record { environment = refl; timestamp = refl }
  facts_agree d x c r (Catalog f) k = cc
  facts_agree d x c r (Report f) k = cc
  facts_agree d x c r (Deactivate f) k = cc
  facts_agree d x c r (Expiration f) k = cc

  facts_shown : (d x : Option ℤ) (f : Option Applied) (c r : Option Change) → newest kind.Facts xs ≡ f → Agrees entity.Factsets (codes "facts_environment") (codes "facts_timestamp") (node_cells n d x (change_of f) c r) (shown factset_rows (change_of f))
  facts_shown d x None c r e = record { environment = refl; timestamp = refl }
  facts_shown d x (Some y) c r e = facts_agree d x c r y.change (kind_from_is_kind kind.Facts y (newest_is_greatest kind.Facts xs y e).kind)

  catalog_agrees : (d x : Option ℤ) (f r : Option Change) (change : Change) → change_kind change ≡ kind.Catalog → Agrees entity.Catalogs (codes "catalog_environment") (codes "catalog_timestamp") (node_cells n d x f (Some change) r) (catalog_rows change)
  catalog_agrees d x f r (Facts c) k = cc
  catalog_agrees d x f r (Catalog c) k = record { environment = refl; timestamp = refl }
  catalog_agrees d x f r (Report c) k = cc
  catalog_agrees d x f r (Deactivate c) k = cc
  catalog_agrees d x f r (Expiration c) k = cc

  catalog_shown : (d x : Option ℤ) (f : Option Change) (c : Option Applied) (r : Option Change) → newest kind.Catalog xs ≡ c → Agrees entity.Catalogs (codes "catalog_environment") (codes "catalog_timestamp") (node_cells n d x f (change_of c) r) (shown catalog_rows (change_of c))
  catalog_shown d x f None r e = record { environment = refl; timestamp = refl }
  catalog_shown d x f (Some y) r e = catalog_agrees d x f r y.change (kind_from_is_kind kind.Catalog y (newest_is_greatest kind.Catalog xs y e).kind)

module _ (ttls : Ttls) (history : Trace) where
  shows_rows : (n : List ℕ) → Among n (nodes ttls history) → (e : Entity) (environment_name timestamp_name : List ℕ) → Agrees n (life ttls n history) e environment_name timestamp_name (node_row ttls history n) (rows_of e ttls history n) → ShowsTheRow e environment_name timestamp_name ttls history (node_row ttls history n)
  shows_rows n a e environment_name timestamp_name h =
      let same = rows_with_certname ttls history n a e in
      record {
        environment = h.environment ∙ ap (cell_of_first e (codes "environment")) (sym same);
        timestamp = h.timestamp ∙ ap (cell_of_first e (codes "producer_timestamp")) (sym same);
      }

  of_node : (P : Cells → Type 0) (n : List ℕ) (row : Cells) → P (node_row ttls history n) → Among row (rows_of entity.Nodes ttls history n) → P row
  of_node P n row h (inl same) = subst P (sym same) h
  of_node P n row h (inr a) = absurd a

  pub each_node : (P : Cells → Type 0) → ((n : List ℕ) → Among n (nodes ttls history) → P (node_row ttls history n)) → (row : Cells) → Contains (rows entity.Nodes ttls history) row → P row
  each_node P each row h =
      let block = Among-from_flat_map (rows_of entity.Nodes ttls history) (nodes ttls history) row (Among-from_Contains (rows entity.Nodes ttls history) row h) in
      of_node P block.0 row (each block.0 block.1) block.2

pub nodes_show_their_factset : NodesShowTheirFactset
nodes_show_their_factset ttls history node h =
    each_node ttls history (ShowsTheRow entity.Factsets (codes "facts_environment") (codes "facts_timestamp") ttls history)
    (λ n a. shows_rows ttls history n a entity.Factsets (codes "facts_environment") (codes "facts_timestamp") (facts_shown n (life ttls n history) _ _ _ _ _ refl)) node h

pub nodes_show_their_catalog : NodesShowTheirCatalog
nodes_show_their_catalog ttls history node h =
    each_node ttls history (ShowsTheRow entity.Catalogs (codes "catalog_environment") (codes "catalog_timestamp") ttls history)
    (λ n a. shows_rows ttls history n a entity.Catalogs (codes "catalog_environment") (codes "catalog_timestamp") (catalog_shown n (life ttls n history) _ _ _ _ _ refl)) node h
