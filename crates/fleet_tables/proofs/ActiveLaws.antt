-- The rows of active nodes: a walk that counts them, and the filter of all rows that finds them.
use Rattle.std.proofs.Common.{◌≡◌, ◌∙◌, ℕ, ℤ, suc, ◌+◌, ◌<◌, ◌≤◌, List, [], ◌∷◌, ◌++◌, length, drop, get_or, slice_get, Bool, true, false, not, cond, if◌then◌else◌, Option, Some, None, refl, sym, ap, arith, add-one, length-append, inl, inr}
use Rattle.std.specs.List.{AllByRecursion, filter}
use Rattle.std.specs.Option.{option_map_or}
use Rattle.std.specs.Ordering.{match_ordering}
use Rattle.std.specs.declared.alloc.Global.{Global}
use Rattle.std.specs.declared.boxed.Box.{Box}
use Rattle.std.proofs.lemmas.Cmp.{tied_itself}
use Rattle.std.proofs.lemmas.Grind.{flat_map-append}
use Rattle.std.proofs.lemmas.List.{drop_all}
use Rattle.std.proofs.lemmas.List.Elements.{filter-append}
use Rattle.std.proofs.lemmas.Option.{slice_get_read}
use Rattle.checkpoint_spec.proofs.ListLaws.{turned_greater}
use Rattle.checkpoint_spec.proofs.of_history_laws.Members.{Among, All-Among, All-from_Among}
use Rattle.checkpoint_spec.proofs.of_history_laws.SortedTexts.{text_cmp_total}
use Rattle.checkpoint_spec.proofs.of_history_laws.StrictlySorted.{sorted-below, sorted-rest}
use Rattle.checkpoint_spec.proofs.of_plain_laws.Lists.{left_at}
use Rattle.checkpoint_spec.specs.fleet_rows.Cell.{CellValue}
use Rattle.checkpoint_spec.specs.fleet_rows.declared.row.Entity.{Entity}
use Rattle.checkpoint_spec.specs.fleet_rows.declared.settings.Ttls.{Ttls}
use Rattle.checkpoint_spec.specs.table_machine.Node.{node_inactive}
use Rattle.checkpoint_spec.specs.table_machine.Rows.{node_rows, table_rows}
use Rattle.checkpoint_spec.specs.table_machine.Steps.{find_node}
use Rattle.checkpoint_spec.specs.table_machine.Table as machine
use Rattle.checkpoint_spec.specs.table_machine.Table.{Table, node_cmp}
use Rattle.checkpoint_spec.specs.table_spec.Rows.{Cells}
use Rattle.checkpoint_spec.specs.text_spec.Compact.{text_cmp}
use Rattle.fleet_tables.specs.Active.{active_rows, active_rows_of, is_active_row, text_shown}
use Rattle.fleet_tables.specs.Asked.{is_inactive_in}
use Rattle.fleet_tables.specs.Groups.{joined, rows_of, StandInOrder}
use Rattle.kept_nodes.specs.Owned.{IsOwn}
use Rattle.kept_nodes.specs.Places.{Boxes, seen_in}
use Rattle.kept_nodes.specs.Seen.{node_seen}
use Rattle.kept_nodes.specs.declared.node.Node.{Node}
use Rattle.kept_nodes.proofs.SoughtRows.{IsNamed, rows_named}
use Rattle.fleet_tables.proofs.JoinedNodes.{Groups, dropped}

-- ---- what is left is the next part, and what is left behind it

module _ (entity : Entity) (ttls : Ttls) (expiry : Option ℤ) where
  pub active_left : (nodes : Boxes) (k : ℕ) (b : Box Node Global) → k < length nodes → b ≡ get_or nodes k b
      → active_rows_of entity ttls expiry (seen_in (drop k nodes)) ≡ active_rows entity ttls expiry (node_seen b.value) ++ active_rows_of entity ttls expiry (seen_in (drop (k + 1) nodes))
  active_left nodes k b within is =
      let next : drop k nodes ≡ b ∷ drop (suc k) nodes = left_at nodes k b (slice_get_read nodes (length nodes) k b refl within is) in
      rw add-one (ap (λ (l : Boxes). active_rows_of entity ttls expiry (seen_in l)) next)

  pub active_none_left : (nodes : Boxes) (k : ℕ) → length nodes ≤ k → active_rows_of entity ttls expiry (seen_in (drop k nodes)) ≡ []
  active_none_left nodes k h = ap (λ (l : Boxes). active_rows_of entity ttls expiry (seen_in l)) (drop_all k nodes h)

  pub active_left_joined : (groups : Groups) (k : ℕ) (g : List machine.Node) → slice_get groups k ≡ Some g
      → active_rows_of entity ttls expiry (joined (drop k groups)) ≡ active_rows_of entity ttls expiry g ++ active_rows_of entity ttls expiry (joined (drop (k + 1) groups))
  active_left_joined groups k g there =
      rw add-one (ap (active_rows_of entity ttls expiry) (dropped groups k g there) ∙ flat_map-append (active_rows entity ttls expiry) g (joined (drop (suc k) groups)))

  pub active_none_left_joined : (groups : Groups) (k : ℕ) → length groups ≤ k → active_rows_of entity ttls expiry (joined (drop k groups)) ≡ []
  active_none_left_joined groups k h = ap (λ (l : Groups). active_rows_of entity ttls expiry (joined l)) (drop_all k groups h)

  -- ---- there are no more of them than rows

  some_fewer : (b : Bool) (rows : List Cells) → length (if b then [] else rows) ≤ length rows
  some_fewer true rows = omega arith
  some_fewer false rows = omega arith

  pub active_fewer : (nodes : List machine.Node) → length (active_rows_of entity ttls expiry nodes) ≤ length (rows_of entity ttls expiry nodes)
  active_fewer [] = omega arith
  active_fewer (n ∷ ns) =
      omega (
        arith,
        some_fewer (node_inactive ttls expiry n) (node_rows entity ttls expiry n),
        active_fewer ns,
        length-append (active_rows entity ttls expiry n) (active_rows_of entity ttls expiry ns),
        length-append (node_rows entity ttls expiry n) (rows_of entity ttls expiry ns),
      )

-- ---- one part more is counted

module _ (left own rest : List Cells) (parts : left ≡ own ++ rest) where
  pub active_step : (count next all : ℕ) → next ≡ count + length own → count + length left ≡ all → next + length rest ≡ all
  active_step count next all n h = omega (arith, n, h, ap length parts, length-append own rest)

  pub active_fits : (count all : ℕ) → count + length left ≡ all → count + length own ≤ all
  active_fits count all h = omega (arith, h, ap length parts, length-append own rest)

pub all_active : (left : List Cells) (count all : ℕ) → left ≡ [] → count + length left ≡ all → count ≡ all
all_active left count all none done = omega (arith, done, ap length none)

-- ---- a filter that tells of each row whether its node is active

module _ (entity : Entity) (ttls : Ttls) (expiry : Option ℤ) (test : Cells → Bool) where
  abbrev Tells : machine.Node → Type 0
  Tells node = AllByRecursion (λ row. test row ≡ not (node_inactive ttls expiry node)) (node_rows entity ttls expiry node)

  all_or_none : (b : Bool) (rows : List Cells) → AllByRecursion (λ row. test row ≡ not b) rows → filter test rows ≡ (if b then [] else rows)
  all_or_none true [] h = refl
  all_or_none false [] h = refl
  all_or_none true (r ∷ rs) h = ap (λ c. cond c (r ∷ filter test rs) (filter test rs)) h.0 ∙ all_or_none true rs h.1
  all_or_none false (r ∷ rs) h = ap (λ c. cond c (r ∷ filter test rs) (filter test rs)) h.0 ∙ ap (λ l. r ∷ l) (all_or_none false rs h.1)

  active_filtered : (nodes : List machine.Node) → AllByRecursion Tells nodes → filter test (rows_of entity ttls expiry nodes) ≡ active_rows_of entity ttls expiry nodes
  active_filtered [] h = refl
  active_filtered (n ∷ ns) h =
      filter-append test (node_rows entity ttls expiry n) (rows_of entity ttls expiry ns)
      ∙ (λ i. all_or_none (node_inactive ttls expiry n) (node_rows entity ttls expiry n) h.0 i ++ active_filtered ns h.1 i)

-- ---- each row shows the certname of its node, which the table finds

found_among : (nodes : List machine.Node) → StandInOrder nodes → (node : machine.Node) → Among node nodes → find_node node.certname nodes ≡ Some node
found_among [] s node a = absurd a
found_among (n ∷ ns) s node (inl e) =
    ap (λ p. match_ordering p None (Some n) (find_node node.certname ns)) (ap (λ (m : machine.Node). text_cmp node.certname m.certname) (sym e) ∙ tied_itself text_cmp_total node.certname)
    ∙ ap Some (sym e)
found_among (n ∷ ns) s node (inr a) =
    ap (λ p. match_ordering p None (Some n) (find_node node.certname ns)) (turned_greater n.certname node.certname (sorted-below node_cmp n ns s node a))
    ∙ found_among ns (sorted-rest node_cmp n ns s) node a

module _ (entity : Entity) (table : Table) where
  tells : (node : machine.Node) → find_node node.certname table.nodes ≡ Some node → (rows : List Cells) → AllByRecursion (IsNamed entity node.certname) rows
      → AllByRecursion (λ row. is_active_row entity table row ≡ not (node_inactive table.ttls table.expiry node)) rows
  tells node found [] h = tt
  tells node found (row ∷ rows) h = (
    ap (λ (x : CellValue). not (is_inactive_in table (text_shown x))) h.0 ∙ ap (λ (o : Option machine.Node). not (option_map_or (node_inactive table.ttls table.expiry) o false)) found,
    tells node found rows h.1,
  )

  pub active_found : StandInOrder table.nodes → AllByRecursion IsOwn table.nodes
      → filter (is_active_row entity table) (table_rows entity table) ≡ active_rows_of entity table.ttls table.expiry table.nodes
  active_found order own =
      active_filtered entity table.ttls table.expiry (is_active_row entity table) table.nodes
      (All-from_Among (Tells entity table.ttls table.expiry (is_active_row entity table)) table.nodes (λ node a.
      tells node (found_among table.nodes order node a) (node_rows entity table.ttls table.expiry node)
      (rows_named table.ttls table.expiry entity node (All-Among IsOwn table.nodes node own a))))
