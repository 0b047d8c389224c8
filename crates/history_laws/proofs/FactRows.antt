-- The rows of facts: sorted, and those of the newest facts.
use Rattle.std.proofs.Common.{◌≡◌, ◌∙◌, ℕ, List, [], ◌∷◌, ◌++◌, refl, sym, ap, subst, Bool, true, false, not, if◌then◌else◌, Option, Some, None, inl, inr}
use Rattle.std.specs.List.{Contains, filter, flat_map}
use Rattle.std.specs.List.Sorted.{IsStrictlySortedBy}
use Rattle.std.specs.declared.cmp.Ordering.TheVariants.{Less}
use Rattle.std.proofs.lemmas.Cmp.{tied_itself}
use Rattle.std.proofs.lemmas.List.Elements.{filter-append}
use Rattle.std.proofs.lemmas.List.Kept.{IsStrictlySortedBy-filter}
use Rattle.spool_spec.specs.text_spec.Json.{members_list, HasDistinctKeys}
use Rattle.spool_spec.specs.text_spec.Compact.{text_cmp}
use Rattle.spool_spec.specs.fleet_rows.declared.change.Change.{Change}
use Rattle.spool_spec.specs.fleet_rows.declared.change.Change.TheVariants.{Facts, Catalog, Report, Deactivate, Expiration}
use Rattle.spool_spec.specs.fleet_rows.declared.change.FactsChange.{FactsChange}
use Rattle.spool_spec.specs.fleet_rows.declared.command.Kind.TheVariants as kind
use Rattle.spool_spec.specs.fleet_rows.declared.settings.Ttls.{Ttls}
use Rattle.spool_spec.specs.fleet_rows.Texts.{sorted_texts}
use Rattle.spool_spec.specs.fleet_rows.Change.{change_certname}
use Rattle.spool_spec.specs.fleet_rows.declared.applied.Applied.{Applied}
use Rattle.spool_spec.specs.history_spec.Trace.{Trace}
use Rattle.spool_spec.specs.history_spec.Node.{newest}
use Rattle.spool_spec.specs.history_spec.Life.{life, nodes, certnames, is_empty, is_inactive}
use Rattle.spool_spec.specs.history_spec.Facts.{FactRow, by_name, rows_of_facts, rows_of_change, rows_of_newest, node_rows, fact_rows, active_fact_rows}
use Rattle.history_laws.specs.RowLaws.{row_cmp, HasDistinctNames, HaveDistinctNames, RowsAreStrictlySorted, StandsForNewestFact, RowsAreTheNewestFacts, ActiveRowsAreOfActiveNodes, ActiveRowsStandInOrder}
use Rattle.history_laws.proofs.Members.{Among, Among-from_Contains, Contains-from_Among, Among-from_map, Among-map, Among-from_flat_map, Among-flat_map, Among-filter, Among-from_filter}
use Rattle.history_laws.proofs.StrictlySorted.{sorted-nil, sorted-map, sorted-flat_map}
use Rattle.history_laws.proofs.SortedTexts.{text_cmp_total, sorted_texts_are_sorted}
use Rattle.history_laws.proofs.NewestIsGreatest.{newest_is_greatest}
use Rattle.history_laws.proofs.Lives.{comes_from, is_node}
use Rattle.history_laws.proofs.FactNames.{Pair, pair_cmp, Among-by_name, Among-from_by_name, by_name_is_sorted}

abbrev row_of : FactsChange → Pair → FactRow
row_of c m = record { certname = c.certname; environment = c.environment; name = m.0; value = m.1 }

module _ (ttls : Ttls) (history : Trace) where
  -- the row of a fact among the newest facts of the node
  record IsRowOf (node : List ℕ) (row : FactRow) : Type 0 where
    command : Applied
    facts : FactsChange
    fact : Pair
    newest_is : newest kind.Facts (life ttls node history) ≡ Some command
    facts_are : command.change ≡ Facts facts
    among : Among fact facts.values
    row_is : row ≡ row_of facts fact

  of_change : (node : List ℕ) (row : FactRow) (x : Applied) (change : Change) → newest kind.Facts (life ttls node history) ≡ Some x → x.change ≡ change → Among row (rows_of_change change) → IsRowOf node row
  of_change node row x (Facts c) h e a =
      let image = Among-from_map (row_of c) (members_list (by_name c.values)) row a in
      record { command = x; facts = c; fact = image.0; newest_is = h; facts_are = e; among = Among-from_by_name image.0 c.values image.1; row_is = image.2 }
  of_change node row x (Catalog c) h e a = absurd a
  of_change node row x (Report c) h e a = absurd a
  of_change node row x (Deactivate c) h e a = absurd a
  of_change node row x (Expiration c) h e a = absurd a

  of_newest : (node : List ℕ) (row : FactRow) (o : Option Applied) → newest kind.Facts (life ttls node history) ≡ o → Among row (rows_of_newest o) → IsRowOf node row
  of_newest node row None h a = absurd a
  of_newest node row (Some x) h a = of_change node row x x.change h refl a

  of_node : (node : List ℕ) (row : FactRow) → Among row (node_rows ttls history node) → IsRowOf node row
  of_node node row a = of_newest node row (newest kind.Facts (life ttls node history)) refl a

  certname_is : (node : List ℕ) (row : FactRow) → IsRowOf node row → row.certname ≡ node
  certname_is node row h =
      let from = comes_from ttls node history h.command (newest_is_greatest kind.Facts (life ttls node history) h.command h.newest_is).among in
      ap (λ (r : FactRow). r.certname) h.row_is ∙ ap change_certname (sym h.facts_are) ∙ sym from.certname

  in_node : (node : List ℕ) (row : FactRow) → IsRowOf node row → Among row (node_rows ttls history node)
  in_node node row h =
      let member : Among (row_of h.facts h.fact) (rows_of_facts h.facts) = Among-map (row_of h.facts) (members_list (by_name h.facts.values)) h.fact (Among-by_name h.fact h.facts.values h.among) in
      let of_facts : Among row (rows_of_change (Facts h.facts)) = subst (λ r. Among r (rows_of_facts h.facts)) (sym h.row_is) member in
      let of_command : Among row (rows_of_change h.command.change) = subst (λ c. Among row (rows_of_change c)) (sym h.facts_are) of_facts in
      subst (λ o. Among row (rows_of_newest o)) (sym h.newest_is) of_command

  -- ---- order

  rows_of_facts_rise : (c : FactsChange) → HasDistinctKeys c.values → IsStrictlySortedBy row_cmp (rows_of_facts c)
  rows_of_facts_rise c h =
      sorted-map pair_cmp row_cmp (row_of c) (λ a b below. rw (tied_itself text_cmp_total c.certname) below) (members_list (by_name c.values)) (by_name_is_sorted c.values h)

  rows_of_change_rise : (change : Change) → HasDistinctNames change → IsStrictlySortedBy row_cmp (rows_of_change change)
  rows_of_change_rise (Facts c) h = rows_of_facts_rise c h
  rows_of_change_rise (Catalog c) h = sorted-nil row_cmp
  rows_of_change_rise (Report c) h = sorted-nil row_cmp
  rows_of_change_rise (Deactivate c) h = sorted-nil row_cmp
  rows_of_change_rise (Expiration c) h = sorted-nil row_cmp

  rows_of_newest_rise : (node : List ℕ) (o : Option Applied) → newest kind.Facts (life ttls node history) ≡ o → HaveDistinctNames history → IsStrictlySortedBy row_cmp (rows_of_newest o)
  rows_of_newest_rise node None e h = sorted-nil row_cmp
  rows_of_newest_rise node (Some x) e h =
      rows_of_change_rise x.change ((comes_from ttls node history x (newest_is_greatest kind.Facts (life ttls node history) x e).among).names h)

  across : (n m : List ℕ) (i j : FactRow) → text_cmp n m ≡ Less → Among i (node_rows ttls history n) → Among j (node_rows ttls history m) → row_cmp i j ≡ Less
  across n m i j below a b =
      rw (certname_is n i (of_node n i a), certname_is m j (of_node m j b), below) refl

  pub nodes_rise : IsStrictlySortedBy text_cmp (nodes ttls history)
  nodes_rise = IsStrictlySortedBy-filter text_cmp (λ n. not (is_empty (life ttls n history))) (sorted_texts (certnames history)) (sorted_texts_are_sorted (certnames history))

  rows_rise : HaveDistinctNames history → (ns : List (List ℕ)) → IsStrictlySortedBy text_cmp ns → IsStrictlySortedBy row_cmp (flat_map (node_rows ttls history) ns)
  rows_rise h ns s =
      sorted-flat_map text_cmp row_cmp (node_rows ttls history) (λ n. rows_of_newest_rise n (newest kind.Facts (life ttls n history)) refl h) across ns s

pub rows_are_strictly_sorted : RowsAreStrictlySorted
rows_are_strictly_sorted ttls history h = (
  rows_rise ttls history h (nodes ttls history) (nodes_rise ttls history),
  rows_rise ttls history h (filter (λ node. not (is_inactive ttls history node)) (nodes ttls history))
      (IsStrictlySortedBy-filter text_cmp (λ node. not (is_inactive ttls history node)) (nodes ttls history) (nodes_rise ttls history)),
)

-- ---- which rows there are

stands : (ttls : Ttls) (history : Trace) (row : FactRow) → Contains (fact_rows ttls history) row → StandsForNewestFact ttls history row
stands ttls history row h =
    let block = Among-from_flat_map (node_rows ttls history) (nodes ttls history) row (Among-from_Contains (fact_rows ttls history) row h) in
    let is_row = of_node ttls history block.0 row block.2 in
    let certname = certname_is ttls history block.0 row is_row in
    let fact : (row.name, row.value) ≡ is_row.fact = ap (λ (r : FactRow). (r.name, r.value)) is_row.row_is in
    record {
      command = is_row.command;
      facts = is_row.facts;
      is_newest = ap (λ n. newest kind.Facts (life ttls n history)) certname ∙ is_row.newest_is;
      facts_are = is_row.facts_are;
      environment = ap (λ (r : FactRow). r.environment) is_row.row_is;
      fact = Contains-from_Among is_row.facts.values (row.name, row.value) (subst (λ m. Among m is_row.facts.values) (sym fact) is_row.among);
    }

row_for : (ttls : Ttls) (history : Trace) (row : FactRow) → StandsForNewestFact ttls history row → IsRowOf ttls history row.certname row
row_for ttls history row h =
    let from = comes_from ttls row.certname history h.command (newest_is_greatest kind.Facts (life ttls row.certname history) h.command h.is_newest).among in
    let certname : row.certname ≡ h.facts.certname = from.certname ∙ ap change_certname h.facts_are in
    record {
      command = h.command;
      facts = h.facts;
      fact = (row.name, row.value);
      newest_is = h.is_newest;
      facts_are = h.facts_are;
      among = Among-from_Contains h.facts.values (row.name, row.value) h.fact;
      row_is = λ i. record { certname = certname i; environment = h.environment i; name = row.name; value = row.value };
    }

is_there : (ttls : Ttls) (history : Trace) (row : FactRow) → StandsForNewestFact ttls history row → Contains (fact_rows ttls history) row
is_there ttls history row h =
    let among = (newest_is_greatest kind.Facts (life ttls row.certname history) h.command h.is_newest).among in
    Contains-from_Among (fact_rows ttls history) row
    (Among-flat_map (node_rows ttls history) (nodes ttls history) row.certname row (is_node ttls row.certname history h.command among) (in_node ttls history row.certname row (row_for ttls history row h)))

pub rows_are_the_newest_facts : RowsAreTheNewestFacts
rows_are_the_newest_facts ttls history row = (stands ttls history row, is_there ttls history row)

active : (b : Bool) → not b ≡ true → b ≡ false
active true h = cc
active false h = refl

active_there : (ttls : Ttls) (history : Trace) (row : FactRow) → Contains (active_fact_rows ttls history) row → Contains (fact_rows ttls history) row × (is_inactive ttls history row.certname ≡ false)
active_there ttls history row h =
    let block = Among-from_flat_map (node_rows ttls history) (filter (λ n. not (is_inactive ttls history n)) (nodes ttls history)) row (Among-from_Contains (active_fact_rows ttls history) row h) in
    let node = Among-from_filter (λ n. not (is_inactive ttls history n)) (nodes ttls history) block.0 block.1 in
    let certname = certname_is ttls history block.0 row (of_node ttls history block.0 row block.2) in (
      Contains-from_Among (fact_rows ttls history) row (Among-flat_map (node_rows ttls history) (nodes ttls history) block.0 row node.0 block.2),
      ap (is_inactive ttls history) certname ∙ active (is_inactive ttls history block.0) node.1,
    )

active_back : (ttls : Ttls) (history : Trace) (row : FactRow) → Contains (fact_rows ttls history) row → is_inactive ttls history row.certname ≡ false → Contains (active_fact_rows ttls history) row
active_back ttls history row h e =
    let block = Among-from_flat_map (node_rows ttls history) (nodes ttls history) row (Among-from_Contains (fact_rows ttls history) row h) in
    let certname = certname_is ttls history block.0 row (of_node ttls history block.0 row block.2) in
    let passes : not (is_inactive ttls history block.0) ≡ true = ap (λ n. not (is_inactive ttls history n)) (sym certname) ∙ ap not e in
    Contains-from_Among (active_fact_rows ttls history) row
    (Among-flat_map (node_rows ttls history) (filter (λ n. not (is_inactive ttls history n)) (nodes ttls history)) block.0 row (Among-filter (λ n. not (is_inactive ttls history n)) (nodes ttls history) block.0 block.1 passes) block.2)

pub active_rows_are_of_active_nodes : ActiveRowsAreOfActiveNodes
active_rows_are_of_active_nodes ttls history row = (active_there ttls history row, λ h. active_back ttls history row h.0 h.1)

-- ---- active rows in their order

-- a test that says of each element of a block what another says of the block chooses whole blocks
module _ {X Y : Type 0} (p : X → Bool) (q : Y → Bool) (f : X → List Y) (agree : (x : X) (y : Y) → Among y (f x) → q y ≡ p x) where
  one_block : (b : Bool) (ys : List Y) → ((y : Y) → Among y ys → q y ≡ b) → filter q ys ≡ (if b then ys else [])
  one_block true [] h = refl
  one_block false [] h = refl
  one_block true (y ∷ ys) h =
      ap (λ c. if c then y ∷ filter q ys else filter q ys) (h y (inl refl)) ∙ ap (λ l. y ∷ l) (one_block true ys (λ z a. h z (inr a)))
  one_block false (y ∷ ys) h =
      ap (λ c. if c then y ∷ filter q ys else filter q ys) (h y (inl refl)) ∙ one_block false ys (λ z a. h z (inr a))

  chosen : (b : Bool) (x : X) (xs : List X) → flat_map f (if b then x ∷ filter p xs else filter p xs) ≡ (if b then f x else []) ++ flat_map f (filter p xs)
  chosen true x xs = refl
  chosen false x xs = refl

  whole_blocks : (xs : List X) → flat_map f (filter p xs) ≡ filter q (flat_map f xs)
  whole_blocks [] = refl
  whole_blocks (x ∷ xs) =
      chosen (p x) x xs
      ∙ (λ i. sym (one_block (p x) (f x) (agree x)) i ++ whole_blocks xs i)
      ∙ sym (filter-append q (f x) (flat_map f xs))

pub active_rows_stand_in_order : ActiveRowsStandInOrder
active_rows_stand_in_order ttls history =
    whole_blocks (λ n. not (is_inactive ttls history n)) (λ (row : FactRow). not (is_inactive ttls history row.certname)) (node_rows ttls history)
    (λ n row a. ap (λ m. not (is_inactive ttls history m)) (certname_is ttls history n row (of_node ttls history n row a)))
    (nodes ttls history)
