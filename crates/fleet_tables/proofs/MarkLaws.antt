-- The node of a mark comes to its place, or is changed there, and its rows can be counted then.
use Rattle.std.proofs.Common.{◌≡◌, ◌∙◌, ℕ, ℤ, suc, ◌+◌, ◌≤◌, List, [], length, take, drop, slice_get, Option, Some, None, sym, subst, arith}
use Rattle.std.specs.Cmp.{IsTotalOrder}
use Rattle.std.specs.List.{AllByRecursion, flat_map}
use Rattle.std.specs.List.Sorted.{IsStrictlySortedBy}
use Rattle.std.proofs.lemmas.Cmp.{on_total}
use Rattle.checkpoint_spec.specs.fleet_rows.declared.row.Entity.{Entity}
use Rattle.checkpoint_spec.specs.fleet_rows.declared.row.Entity.TheVariants.{Nodes, Factsets, Facts, Catalogs, Resources, Edges, Reports}
use Rattle.checkpoint_spec.specs.fleet_rows.Defaults.{default_ttls}
use Rattle.checkpoint_spec.specs.fleet_rows.declared.settings.Ttls.{Ttls}
use Rattle.checkpoint_spec.proofs.of_history_laws.SortedTexts.{text_cmp_total}
use Rattle.checkpoint_spec.specs.table_machine.Rows.{node_rows}
use Rattle.checkpoint_spec.specs.table_machine.Steps.{empty_node, stands, with_node}
use Rattle.checkpoint_spec.specs.table_machine.Table.{Node, node_cmp}
use Rattle.checkpoint_spec.proofs.of_table_machine.Risen.{sorted-put}
use Rattle.kept_nodes.specs.Seen.{with_activity}
use Rattle.kept_nodes.specs.Counted.{limit, IsWithin}
use Rattle.fleet_tables.specs.Groups.{joined, IsFilled, StandInOrder, AreBelow, AreAbove, AreCountsOf, AreFew, AreKept}
use Rattle.kept_nodes.specs.Owned.{IsOwn}
use Rattle.kept_nodes.specs.declared.counts.Counts.{Counts}
use Rattle.fleet_tables.proofs.JoinedNodes.{Groups, put_parted}
use Rattle.fleet_tables.proofs.OwnLaws.{all_marked_own}
use Rattle.fleet_tables.proofs.StartLaws.{no_starts}
use Rattle.fleet_tables.proofs.RowBounds.{put_bound, few_part, counted_few}
use Rattle.kept_nodes.proofs.RowCounts.{nodes_count}

node_cmp_total : IsTotalOrder node_cmp
node_cmp_total = on_total (λ (n : Node). n.certname) text_cmp_total

module _ (certname : List ℕ) (active : Option ℤ) where
  abbrev new : Node
  new = with_activity active (empty_node certname)

  pub marked_in_order : (nodes : List Node) → IsStrictlySortedBy node_cmp nodes → IsStrictlySortedBy node_cmp (with_node certname (with_activity active) nodes)
  marked_in_order nodes s = sorted-put node_cmp node_cmp_total new (with_activity active) (λ y e. e) nodes s

  bounded : (a b n : ℕ) → a ≤ b + n → b + n ≤ limit → a ≤ limit
  bounded a b n h k = omega (arith, h, k)

  no_more : (entity : Entity) (ttls : Ttls) (expiry : Option ℤ) (nodes : List Node) → length (node_rows entity ttls expiry new) ≤ 0
      → ((y : Node) → length (node_rows entity ttls expiry (with_activity active y)) ≤ length (node_rows entity ttls expiry y) + 0)
      → length (flat_map (node_rows entity ttls expiry) nodes) ≤ limit → length (flat_map (node_rows entity ttls expiry) (with_node certname (with_activity active) nodes)) ≤ limit
  no_more entity ttls expiry nodes first each few =
      bounded _ _ 0 (put_bound (node_rows entity ttls expiry) 0 (stands certname) new (with_activity active) first each nodes) (omega (arith, few))

  -- one row of the node itself is all that comes
  pub marked_few : (nodes : List Node) → AreFew nodes → length nodes + 1 ≤ limit → AreFew (with_node certname (with_activity active) nodes)
  marked_few nodes few room Nodes ttls expiry =
      bounded _ _ 1 (put_bound (node_rows Nodes ttls expiry) 1 (stands certname) new (with_activity active) (omega arith) (λ y. omega arith) nodes) (omega (arith, room, nodes_count ttls expiry nodes))
  marked_few nodes few room Factsets ttls expiry = no_more Factsets ttls expiry nodes (omega arith) (λ y. omega arith) (few Factsets ttls expiry)
  marked_few nodes few room Facts ttls expiry = no_more Facts ttls expiry nodes (omega arith) (λ y. omega arith) (few Facts ttls expiry)
  marked_few nodes few room Catalogs ttls expiry = no_more Catalogs ttls expiry nodes (omega arith) (λ y. omega arith) (few Catalogs ttls expiry)
  marked_few nodes few room Resources ttls expiry = no_more Resources ttls expiry nodes (omega arith) (λ y. omega arith) (few Resources ttls expiry)
  marked_few nodes few room Edges ttls expiry = no_more Edges ttls expiry nodes (omega arith) (λ y. omega arith) (few Edges ttls expiry)
  marked_few nodes few room Reports ttls expiry = no_more Reports ttls expiry nodes (omega arith) (λ y. omega arith) (few Reports ttls expiry)
  marked_few nodes few room e ttls expiry = no_more e ttls expiry nodes (omega arith) (λ y. omega arith) (few e ttls expiry)

  -- and so in its group
  pub few_marked_in : (groups : Groups) (k : ℕ) (g : List Node) → slice_get groups k ≡ Some g → AreBelow certname (joined (take k groups)) → AreAbove certname (joined (drop (k + 1) groups))
      → AreFew (with_node certname (with_activity active) (joined groups)) → AreFew (with_node certname (with_activity active) g)
  few_marked_in groups k g there below above few =
      few_part (joined (take k groups)) (with_node certname (with_activity active) g) (joined (drop (suc k) groups))
      (subst AreFew (put_parted certname groups k g there below above (with_activity active)) few)

  -- the first node of all
  pub first_few : AreFew (with_node certname (with_activity active) [])
  first_few = marked_few [] (λ entity ttls expiry. omega arith) (omega arith)

-- ---- all that is kept

module _ (expiry retention : Option ℤ) (groups : Groups) (total : Counts) (starts : List Counts) (kept : AreKept expiry retention groups total starts) where
  -- with the node of a mark
  pub marked_kept : (certname : List ℕ) (active : Option ℤ) (others : Groups) (counts : Counts) → joined others ≡ with_node certname (with_activity active) (joined groups) → AllByRecursion IsFilled others
      → AreCountsOf counts (joined others) → IsWithin counts → AreKept expiry retention others counts []
  marked_kept certname active others counts is filled rows within = (
    kept.0,
    kept.1,
    filled,
    subst StandInOrder (sym is) (marked_in_order certname active (joined groups) kept.3),
    rows,
    within,
    subst (AllByRecursion IsOwn) (sym is) (all_marked_own certname active (joined groups) kept.6),
    no_starts others,
  )

  -- its rows can be counted, where one node more can be
  pub few_with_mark : (certname : List ℕ) (active : Option ℤ) → total.nodes + 1 ≤ limit → AreFew (with_node certname (with_activity active) (joined groups))
  few_with_mark certname active room =
      let number : total.nodes ≡ length (joined groups) = kept.4 Nodes default_ttls None ∙ sym (nodes_count default_ttls None (joined groups)) in
      marked_few certname active (joined groups) (counted_few total (joined groups) kept.4 kept.5) (one_more total.nodes (length (joined groups)) limit number room)
    where
      one_more : (n m most : ℕ) → n ≡ m → n + 1 ≤ most → m + 1 ≤ most
      one_more n m most e h = omega (arith, e, h)
