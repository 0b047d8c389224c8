-- Nodes stay in order.
use Rattle.std.proofs.Common.{ℤ, List, [], ◌∷◌, map, Option, Bool, true, false, not, cond}
use Rattle.std.specs.Cmp.{IsTotalOrder}
use Rattle.std.specs.List.{filter}
use Rattle.std.specs.List.Sorted.{IsStrictlySortedBy}
use Rattle.std.proofs.lemmas.Cmp.{on_total}
use Rattle.checkpoint_spec.specs.fleet_rows.Change.{change_certname}
use Rattle.checkpoint_spec.specs.fleet_rows.declared.settings.Ttls.{Ttls}
use Rattle.checkpoint_spec.specs.fleet_rows.declared.applied.Applied.{Applied}
use Rattle.checkpoint_spec.proofs.of_history_laws.Members.{Among-from_filter}
use Rattle.checkpoint_spec.proofs.of_history_laws.SortedTexts.{text_cmp_total}
use Rattle.checkpoint_spec.proofs.of_history_laws.StrictlySorted.{sorted-cons, sorted-below, sorted-rest, sorted-map}
use Rattle.checkpoint_spec.specs.table_machine.Table.{Node, node_cmp}
use Rattle.checkpoint_spec.specs.table_machine.Steps.{empty_node, with_applied, with_node, with_retained}
use Rattle.checkpoint_spec.proofs.of_table_machine.Risen.{sorted-put}
use Rattle.checkpoint_spec.specs.table_machine.Node.{node_purged}
use Rattle.kept_nodes.specs.Places.{left_by_purge}

node_cmp_total : IsTotalOrder node_cmp
node_cmp_total = on_total (λ (n : Node). n.certname) text_cmp_total

pub applied_in_order : (ttls : Ttls) (retention : Option ℤ) (x : Applied) (nodes : List Node) → IsStrictlySortedBy node_cmp nodes → IsStrictlySortedBy node_cmp (with_node (change_certname x.change) (with_applied ttls retention x) nodes)
applied_in_order ttls retention x nodes s =
    sorted-put node_cmp node_cmp_total (with_applied ttls retention x (empty_node (change_certname x.change))) (with_applied ttls retention x) (λ y e. e) nodes s

filter_order : (b : Bool) (test : Node → Bool) (n : Node) (ns : List Node) → IsStrictlySortedBy node_cmp (n ∷ ns) → IsStrictlySortedBy node_cmp (filter test ns) → IsStrictlySortedBy node_cmp (cond b (n ∷ filter test ns) (filter test ns))
filter_order true test n ns s next = sorted-cons node_cmp n (filter test ns) (λ m a. sorted-below node_cmp n ns s m (Among-from_filter test ns m a).0) next
filter_order false test n ns s next = next

filtered_in_order : (test : Node → Bool) (nodes : List Node) → IsStrictlySortedBy node_cmp nodes → IsStrictlySortedBy node_cmp (filter test nodes)
filtered_in_order test [] s = s
filtered_in_order test (n ∷ ns) s = filter_order (test n) test n ns s (filtered_in_order test ns (sorted-rest node_cmp n ns s))

pub purged_in_order : (ttls : Ttls) (m : ℤ) (expiry : Option ℤ) (nodes : List Node) → IsStrictlySortedBy node_cmp nodes → IsStrictlySortedBy node_cmp (left_by_purge ttls m expiry nodes)
purged_in_order ttls m expiry nodes s = filtered_in_order (λ node. not (node_purged ttls m expiry node)) nodes s

pub retained_in_order : (ttls : Ttls) (retention : Option ℤ) (nodes : List Node) → IsStrictlySortedBy node_cmp nodes → IsStrictlySortedBy node_cmp (map (with_retained ttls retention) nodes)
retained_in_order ttls retention nodes s = sorted-map node_cmp node_cmp (with_retained ttls retention) (λ x y h. h) nodes s
