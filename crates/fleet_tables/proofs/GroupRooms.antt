-- Room for a change of all nodes is room for it in its group.
use Rattle.std.proofs.Common.{◌≡◌, ℕ, suc, ◌+◌, ◌≤◌, List, ◌++◌, length, take, drop, slice_get, Option, Some, None, ap, subst, arith, length-append}
use Rattle.checkpoint_spec.specs.fleet_rows.Change.{change_certname}
use Rattle.checkpoint_spec.specs.fleet_rows.declared.change.Change.{Change}
use Rattle.checkpoint_spec.specs.table_machine.Steps.{find_node, with_node}
use Rattle.checkpoint_spec.specs.table_machine.Table.{Node}
use Rattle.fleet_tables.specs.Groups.{joined, AreBelow, AreAbove, AreFew}
use Rattle.kept_nodes.specs.Places.{reports_of}
use Rattle.kept_nodes.specs.Computed.{IsShownFor}
use Rattle.fleet_tables.specs.Rooms.{IsNew, IsNewFor, IsRoomAt}
use Rattle.fleet_tables.specs.declared.room.NewNode.{NewNode}
use Rattle.kept_nodes.specs.declared.computed.Derived.{Derived}
use Rattle.fleet_tables.proofs.JoinedNodes.{Groups, parted, found_in, put_parted}
use Rattle.fleet_tables.proofs.RowBounds.{few_part}

new_fewer : (new : Option NewNode) (found : Option Node) (certname : List ℕ) (nodes fewer : ℕ) → fewer ≤ nodes → IsNewFor new found certname nodes → IsNewFor new found certname fewer
new_fewer None None certname nodes fewer le h = h
new_fewer None (Some node) certname nodes fewer le h = h
new_fewer (Some new) None certname nodes fewer le h = (h.0, h.1, h.2, omega (arith, le, h.3))
new_fewer (Some new) (Some node) certname nodes fewer le h = h

no_longer : (groups : Groups) (k : ℕ) (g : List Node) → slice_get groups k ≡ Some g → length g ≤ length (joined groups)
no_longer groups k g e =
    omega (
      arith,
      ap length (parted groups k g e),
      length-append (joined (take k groups)) (g ++ joined (drop (suc k) groups)),
      length-append g (joined (drop (suc k) groups)),
    )

module _ (groups : Groups) (k : ℕ) (g : List Node) (there : slice_get groups k ≡ Some g) (change : Change)
    (below : AreBelow (change_certname change) (joined (take k groups))) (above : AreAbove (change_certname change) (joined (drop (k + 1) groups))) where
  pub room_in : (shown : Derived) (new : Option NewNode) → IsRoomAt shown new (joined groups) change → IsRoomAt shown new g change
  room_in shown new h =
      let name = change_certname change in
      let same : find_node name (joined groups) ≡ find_node name g = found_in name groups k g there below above in (
        subst (λ (o : Option Node). IsShownFor shown change (reports_of o)) same h.0,
        new_fewer new (find_node name g) name (length (joined groups)) (length g) (no_longer groups k g there) (subst (λ (o : Option Node). IsNewFor new o name (length (joined groups))) same h.1),
      )

  pub few_in : (step : Node → Node) → AreFew (with_node (change_certname change) step (joined groups)) → AreFew (with_node (change_certname change) step g)
  few_in step few =
      few_part (joined (take k groups)) (with_node (change_certname change) step g) (joined (drop (suc k) groups))
      (subst AreFew (put_parted (change_certname change) groups k g there below above step) few)

-- ---- the new node that room has

pub new_for : (new : Option NewNode) (one : NewNode) (found : Option Node) (certname : List ℕ) (nodes : ℕ) → new ≡ Some one → found ≡ None → IsNewFor new found certname nodes → IsNew one certname nodes
new_for new one found certname nodes e absent h = subst (λ (p : Option NewNode × Option Node). IsNewFor p.0 p.1 certname nodes) (λ i. (e i, absent i)) h

pub has_new : (new : Option NewNode) (found : Option Node) (certname : List ℕ) (nodes : ℕ) → new ≡ None → found ≡ None → IsNewFor new found certname nodes → ⊥
has_new new found certname nodes e absent h = subst (λ (p : Option NewNode × Option Node). IsNewFor p.0 p.1 certname nodes) (λ i. (e i, absent i)) h
