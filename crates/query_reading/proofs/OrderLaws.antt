-- Rows that rise by an order: sorting leaves them as they are, and so rise the rows of the tables by the columns of their key.
use Rattle.std.proofs.Common.{◌≡◌, ◌∙◌, ◌<◌, ◌≤◌, ℕ, ℤ, zero, suc, arith, get_or, length, List, [], ◌∷◌, ◌++◌, take, map, Bool, true, false, Option, Some, None, refl, sym, ap, subst, if◌then◌else◌}
use Rattle.std.specs.Prelude.{codes, filter, flat_map}
use Rattle.std.specs.Cmp.{IsTotalOrder}
use Rattle.std.specs.List.{AllByRecursion}
use Rattle.std.specs.Ordering.{is_gt, ordering_reverse, ordering_then}
use Rattle.std.specs.declared.cmp.Ordering.{Ordering}
use Rattle.std.specs.declared.cmp.Ordering.TheVariants.{Less, Equal, Greater}
use Rattle.std.proofs.lemmas.Cmp.{tied_itself, upto}
use Rattle.fleet_tables.proofs.of_history_laws.SortedTexts.{text_cmp_total}
use Rattle.fleet_tables.proofs.of_kept_nodes.SoughtRows.{IsNamed, rows_named}
use Rattle.fleet_tables.proofs.of_plain_laws.Members.{All-from_Among, all_both, all_take}
use Rattle.fleet_tables.proofs.of_plain_laws.StrictlySorted.{sorted-below, sorted-rest}
use Rattle.fleet_tables.proofs.of_row_cells.CmpLaws.{name_total}
use Rattle.fleet_tables.proofs.of_row_cells.SortedLaws.{sorted-by_name}
use Rattle.fleet_tables.specs.Groups.{StandInOrder}
use Rattle.fleet_tables.specs.fleet_rows.Cell.{cell_cmp}
use Rattle.fleet_tables.specs.fleet_rows.declared.applied.Applied.{Applied}
use Rattle.fleet_tables.specs.fleet_rows.declared.change.Change.{Change}
use Rattle.fleet_tables.specs.fleet_rows.declared.change.Change.TheVariants as change
use Rattle.fleet_tables.specs.fleet_rows.declared.row.Entity.{Entity}
use Rattle.fleet_tables.specs.fleet_rows.declared.row.Entity.TheVariants.{Facts}
use Rattle.fleet_tables.specs.fleet_rows.declared.settings.Ttls.{Ttls}
use Rattle.fleet_tables.specs.history_spec.Facts.{FactRow, by_name}
use Rattle.fleet_tables.specs.kept_nodes.Owned.{IsOwn}
use Rattle.fleet_tables.specs.table_machine.Rows.{node_rows}
use Rattle.fleet_tables.specs.table_machine.Table.{Node, node_cmp}
use Rattle.query_plan.specs.means_spec.Paging.{order_cmp, orders_cmp}
use Rattle.query_plan.specs.query_spec.declared.parts.Order.{Order}
use Rattle.query_plan.specs.table_spec.Cells.{fact_cells}
use Rattle.query_plan.specs.table_spec.Columns.{columns}
use Rattle.query_plan.specs.table_spec.Named.{cell_under}
use Rattle.query_plan.specs.table_spec.Rows.{Cells, change_of, fact_rows, shown}
use Rattle.query_plan.specs.table_spec.Sorted.{insert_by, sorted_by}
use Rattle.query_plan.specs.table_spec.text_spec.Compact.{text_cmp}
use Rattle.query_plan.specs.table_spec.text_spec.Json.{Json, members_list}
use Rattle.query_reading.specs.Ordered.{From, Rises}

-- ---- lists that rise

module _ {A : Type 0} (cmp : A → A → Ordering) where
  first_stays : (x : A) (xs : List A) → From cmp x xs → insert_by cmp x xs ≡ x ∷ xs
  first_stays x [] h = refl
  first_stays x (y ∷ ys) h = ap (λ b. if b then y ∷ insert_by cmp x ys else x ∷ y ∷ ys) h.0

  pub sorted_stays : (xs : List A) → Rises cmp xs → sorted_by cmp xs ≡ xs
  sorted_stays [] h = refl
  sorted_stays (x ∷ xs) h = ap (insert_by cmp x) (sorted_stays xs h.1) ∙ first_stays x xs h.0

  pub front_rises : (n : ℕ) (xs : List A) → Rises cmp xs → Rises cmp (take n xs)
  front_rises zero xs h = tt
  front_rises (suc n) [] h = tt
  front_rises (suc n) (x ∷ xs) h = (all_take (λ y. is_gt (cmp x y) ≡ false) n xs h.0, front_rises n xs h.1)

  module _ (test : A → Bool) where
    from_kept : (b : Bool) (x y : A) (ys : List A) → is_gt (cmp x y) ≡ false → From cmp x ys → From cmp x (if b then y ∷ ys else ys)
    from_kept true x y ys h f = (h, f)
    from_kept false x y ys h f = f

    from_filtered : (x : A) (xs : List A) → From cmp x xs → From cmp x (filter test xs)
    from_filtered x [] h = tt
    from_filtered x (y ∷ ys) h = from_kept (test y) x y (filter test ys) h.0 (from_filtered x ys h.1)

    rises_kept : (b : Bool) (x : A) (xs : List A) → From cmp x xs → Rises cmp xs → Rises cmp (if b then x ∷ xs else xs)
    rises_kept true x xs f h = (f, h)
    rises_kept false x xs f h = h

    pub filtered_rises : (xs : List A) → Rises cmp xs → Rises cmp (filter test xs)
    filtered_rises [] h = tt
    filtered_rises (x ∷ xs) h = rises_kept (test x) x (filter test xs) (from_filtered x xs h.0) (filtered_rises xs h.1)

  both_rise : (xs ys : List A) → Rises cmp xs → Rises cmp ys → AllByRecursion (λ x. From cmp x ys) xs → Rises cmp (xs ++ ys)
  both_rise [] ys h g across = g
  both_rise (x ∷ xs) ys h g across = (all_both (λ y. is_gt (cmp x y) ≡ false) xs ys h.0 across.0, both_rise xs ys h.1 g across.1)

  -- what is sorted rises
  module _ (o : IsTotalOrder cmp) where
    from_less : (x y : A) (ys : List A) → is_gt (cmp x y) ≡ false → From cmp y ys → From cmp x ys
    from_less x y [] h f = tt
    from_less x y (z ∷ zs) h f = (upto o x y z h f.0, from_less x y zs h f.1)

    turned : (r : Ordering) → is_gt r ≡ true → is_gt (ordering_reverse r) ≡ false
    turned Less h = cc
    turned Equal h = cc
    turned Greater h = refl

    from_step : (b : Bool) (z x y : A) (ys more : List A) → is_gt (cmp z x) ≡ false → From cmp z (y ∷ ys) → From cmp z more → From cmp z (if b then y ∷ more else x ∷ y ∷ ys)
    from_step true z x y ys more h f g = (f.0, g)
    from_step false z x y ys more h f g = (h, f)

    from_insert : (z x : A) (ys : List A) → is_gt (cmp z x) ≡ false → From cmp z ys → From cmp z (insert_by cmp x ys)
    from_insert z x [] h f = (h, tt)
    from_insert z x (y ∷ ys) h f = from_step (is_gt (cmp x y)) z x y ys (insert_by cmp x ys) h f (from_insert z x ys h f.1)

    insert_step : (b : Bool) (x y : A) (ys : List A) → is_gt (cmp x y) ≡ b → Rises cmp (y ∷ ys) → Rises cmp (insert_by cmp x ys) → Rises cmp (if b then y ∷ insert_by cmp x ys else x ∷ y ∷ ys)
    insert_step true x y ys e h g = (from_insert y x ys (ap is_gt (o.antisymm y x) ∙ turned (cmp x y) e) h.0, g)
    insert_step false x y ys e h g = ((e, from_less x y ys e h.0), h)

    insert_rises : (x : A) (ys : List A) → Rises cmp ys → Rises cmp (insert_by cmp x ys)
    insert_rises x [] h = (tt, tt)
    insert_rises x (y ∷ ys) h = insert_step (is_gt (cmp x y)) x y ys refl h (insert_rises x ys h.1)

    sorted_rises : (xs : List A) → Rises cmp (sorted_by cmp xs)
    sorted_rises [] = tt
    sorted_rises (x ∷ xs) = insert_rises x (sorted_by cmp xs) (sorted_rises xs)

module _ {A B : Type 0} (cmp : A → A → Ordering) (new : B → B → Ordering) (f : A → B) (alike : (x y : A) → is_gt (cmp x y) ≡ false → is_gt (new (f x) (f y)) ≡ false) where
  from_mapped : (x : A) (xs : List A) → From cmp x xs → From new (f x) (map f xs)
  from_mapped x [] h = tt
  from_mapped x (y ∷ ys) h = (alike x y h.0, from_mapped x ys h.1)

  mapped_rises : (xs : List A) → Rises cmp xs → Rises new (map f xs)
  mapped_rises [] h = tt
  mapped_rises (x ∷ xs) h = (from_mapped x xs h.0, mapped_rises xs h.1)

-- without an order all rows rise
from_any : (names : List (List ℕ)) (row : Cells) (rows : List Cells) → From (orders_cmp names []) row rows
from_any names row [] = tt
from_any names row (r ∷ rs) = (refl, from_any names row rs)

pub unordered_rises : (names : List (List ℕ)) (rows : List Cells) → Rises (orders_cmp names []) rows
unordered_rises names [] = tt
unordered_rises names (r ∷ rs) = (from_any names r rs, unordered_rises names rs)

-- ---- the rows of a table, by certname and then by more columns

module _ (e : Entity) (ttls : Ttls) (expiry : Option ℤ) (o : Order) (more : List Order) (named : o.column.text ≡ codes "certname") (rising : o.descends ≡ false) where
  abbrev next : Cells → Cells → Ordering
  next = orders_cmp (columns e) more

  abbrev by_both : Cells → Cells → Ordering
  by_both = orders_cmp (columns e) (o ∷ more)

  first_is : (a b : Cells) (s t : List ℕ) → IsNamed e s a → IsNamed e t b → order_cmp (columns e) o a b ≡ text_cmp s t
  first_is a b s t g h =
      (λ i. let found = cell_cmp (cell_under (columns e) (named i) a) (cell_under (columns e) (named i) b) in if rising i then ordering_reverse found else found)
      ∙ (λ i. cell_cmp (g i) (h i))

  -- within a node
  from_within : (s : List ℕ) (x : Cells) (xs : List Cells) → IsNamed e s x → AllByRecursion (IsNamed e s) xs → From next x xs → From by_both x xs
  from_within s x [] g h f = tt
  from_within s x (y ∷ ys) g h f = (ap (λ p. is_gt (ordering_then p (next x y))) (first_is x y s s g h.0 ∙ tied_itself text_cmp_total s) ∙ f.0, from_within s x ys g h.1 f.1)

  within_rises : (s : List ℕ) (xs : List Cells) → AllByRecursion (IsNamed e s) xs → Rises next xs → Rises by_both xs
  within_rises s [] h r = tt
  within_rises s (x ∷ xs) h r = (from_within s x xs h.0 h.1 r.0, within_rises s xs h.1 r.1)

  -- and behind it
  from_behind : (s t : List ℕ) (x : Cells) (ys : List Cells) → text_cmp s t ≡ Less → IsNamed e s x → AllByRecursion (IsNamed e t) ys → From by_both x ys
  from_behind s t x [] less g h = tt
  from_behind s t x (y ∷ ys) less g h = (ap (λ p. is_gt (ordering_then p (next x y))) (first_is x y s t g h.0 ∙ less), from_behind s t x ys less g h.1)

  from_nodes : (s : List ℕ) (x : Cells) (nodes : List Node) → IsNamed e s x → AllByRecursion (λ (m : Node). text_cmp s m.certname ≡ Less) nodes → AllByRecursion IsOwn nodes
      → From by_both x (flat_map (node_rows e ttls expiry) nodes)
  from_nodes s x [] g less own = tt
  from_nodes s x (m ∷ ms) g less own =
      all_both (λ y. is_gt (by_both x y) ≡ false) (node_rows e ttls expiry m) (flat_map (node_rows e ttls expiry) ms)
      (from_behind s m.certname x (node_rows e ttls expiry m) less.0 g (rows_named ttls expiry e m own.0)) (from_nodes s x ms g less.1 own.1)

  all_behind : (s : List ℕ) (xs : List Cells) (nodes : List Node) → AllByRecursion (IsNamed e s) xs → AllByRecursion (λ (m : Node). text_cmp s m.certname ≡ Less) nodes → AllByRecursion IsOwn nodes
      → AllByRecursion (λ x. From by_both x (flat_map (node_rows e ttls expiry) nodes)) xs
  all_behind s [] nodes h less own = tt
  all_behind s (x ∷ xs) nodes h less own = (from_nodes s x nodes h.0 less own, all_behind s xs nodes h.1 less own)

  pub nodes_rise : ((node : Node) → Rises next (node_rows e ttls expiry node)) → (nodes : List Node) → StandInOrder nodes → AllByRecursion IsOwn nodes → Rises by_both (flat_map (node_rows e ttls expiry) nodes)
  nodes_rise each [] s own = tt
  nodes_rise each (n ∷ ns) s own =
      let name = rows_named ttls expiry e n own.0 in
      let less = All-from_Among (λ (m : Node). text_cmp n.certname m.certname ≡ Less) ns (λ m a. sorted-below node_cmp n ns s m a) in
      both_rise by_both (node_rows e ttls expiry n) (flat_map (node_rows e ttls expiry) ns) (within_rises n.certname (node_rows e ttls expiry n) name (each n)) (nodes_rise each ns (sorted-rest node_cmp n ns s) own.1)
      (all_behind n.certname (node_rows e ttls expiry n) ns name less own.1)

-- ---- the facts of a node, by name

then_equal : (r : Ordering) → is_gt r ≡ false → is_gt (ordering_then r Equal) ≡ false
then_equal Less h = refl
then_equal Equal h = refl
then_equal Greater h = h

module _ (o : Order) (named : o.column.text ≡ codes "name") (rising : o.descends ≡ false) where
  abbrev by_fact : Cells → Cells → Ordering
  by_fact = orders_cmp (columns Facts) (o ∷ [])

  change_rises : (c : Change) → Rises by_fact (fact_rows c)
  change_rises (change.Facts c) =
      let sorted : Rises (λ (m n : List ℕ × Json). text_cmp m.0 n.0) (members_list (by_name c.values)) = subst (Rises (λ (m n : List ℕ × Json). text_cmp m.0 n.0)) (sorted-by_name c.values) (sorted_rises (λ (m n : List ℕ × Json). text_cmp m.0 n.0) name_total c.values) in
      let fact_of : List ℕ × Json → FactRow = λ m. record { certname = c.certname; environment = c.environment; name = m.0; value = m.1 } in
      let told : (m n : List ℕ × Json) → order_cmp (columns Facts) o (fact_cells (fact_of m)) (fact_cells (fact_of n)) ≡ text_cmp m.0 n.0 =
      λ m n i. let found = cell_cmp (cell_under (columns Facts) (named i) (fact_cells (fact_of m))) (cell_under (columns Facts) (named i) (fact_cells (fact_of n))) in if rising i then ordering_reverse found else found in
      mapped_rises (λ f g. by_fact (fact_cells f) (fact_cells g)) by_fact fact_cells (λ f g h. h) (map fact_of (members_list (by_name c.values)))
      (mapped_rises (λ (m n : List ℕ × Json). text_cmp m.0 n.0) (λ f g. by_fact (fact_cells f) (fact_cells g)) fact_of (λ m n h. ap (λ p. is_gt (ordering_then p Equal)) (told m n) ∙ then_equal (text_cmp m.0 n.0) h)
      (members_list (by_name c.values)) sorted)
  change_rises (change.Catalog c) = tt
  change_rises (change.Report c) = tt
  change_rises (change.Deactivate c) = tt
  change_rises (change.Expiration c) = tt

  some_rises : (x : Option Applied) → Rises by_fact (shown fact_rows (change_of x))
  some_rises None = tt
  some_rises (Some x) = change_rises x.change

  pub facts_rise : (ttls : Ttls) (expiry : Option ℤ) (node : Node) → Rises by_fact (node_rows Facts ttls expiry node)
  facts_rise ttls expiry node = some_rises node.facts

-- ---- short lists of orders

pub no_item : (os : List Order) → length os < 1 → os ≡ []
no_item [] h = refl
no_item (o ∷ os) h = absurd (omega (arith, h))

pub one_item : (os : List Order) (a d : Order) → 1 ≤ length os → length os < 2 → a ≡ get_or os 0 d → os ≡ a ∷ []
one_item [] a d h g e = absurd (omega (arith, h))
one_item (o ∷ []) a d h g e = ap (λ (x : Order). x ∷ []) (sym e)
one_item (o ∷ p ∷ os) a d h g e = absurd (omega (arith, g))

pub two_items : (os : List Order) (a b d k : Order) → 2 ≤ length os → length os < 3 → a ≡ get_or os 0 d → b ≡ get_or os 1 k → os ≡ a ∷ b ∷ []
two_items [] a b d k h g e f = absurd (omega (arith, h))
two_items (o ∷ []) a b d k h g e f = absurd (omega (arith, h))
two_items (o ∷ p ∷ []) a b d k h g e f = λ i. sym e i ∷ sym f i ∷ []
two_items (o ∷ p ∷ q ∷ os) a b d k h g e f = absurd (omega (arith, g))
