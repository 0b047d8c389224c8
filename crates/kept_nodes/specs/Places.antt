-- Positions of nodes in their list.
use Rattle.std.specs.Prelude.{◌≡◌, ℕ, ℤ, not, filter, ◌+◌, ◌<◌, ◌≤◌, List, [], ◌∷◌, length, take, drop, map, slice_get, slice_set, Some, None, Option, Result, Ok, Err}
use Rattle.std.specs.List.{AllByRecursion}
use Rattle.std.specs.List.Sorted.{IsStrictlySortedBy}
use Rattle.std.specs.declared.alloc.Global.{Global}
use Rattle.std.specs.declared.boxed.Box.{Box}
use Rattle.std.specs.declared.cmp.Ordering.TheVariants.{Less, Greater}
use Rattle.checkpoint_spec.specs.text_spec.Compact.{text_cmp}
use Rattle.checkpoint_spec.specs.fleet_rows.declared.applied.Applied.{Applied}
use Rattle.checkpoint_spec.specs.fleet_rows.declared.row.Entity.{Entity}
use Rattle.checkpoint_spec.specs.table_machine.Table as machine
use Rattle.checkpoint_spec.specs.table_machine.Node.{node_purged}
use Rattle.checkpoint_spec.specs.table_machine.Steps.{find_node, with_node}
use Rattle.checkpoint_spec.specs.fleet_rows.declared.settings.Ttls.{Ttls}
use Rattle.kept_nodes.specs.declared.counts.Counts.{Counts}
use Rattle.kept_nodes.specs.declared.node.Node.{Node}
use Rattle.kept_nodes.specs.Counted.{plus, counts, count_of}
use Rattle.kept_nodes.specs.Seen.{node_seen}

abbrev pub Boxes : Type 0
Boxes = List (Box Node Global)

abbrev pub nodes_in : Boxes → List Node
nodes_in = map (λ b. b.value)

abbrev pub seen_in : Boxes → List machine.Node
seen_in boxes = map node_seen (nodes_in boxes)

-- the nodes that remain after a purge at m
abbrev pub left_by_purge : Ttls → ℤ → Option ℤ → List machine.Node → List machine.Node
left_by_purge ttls m expiry = filter (λ node. not (node_purged ttls m expiry node))

-- the nodes are strictly sorted by certname
abbrev pub InOrder : List Node → Type 0
InOrder nodes = IsStrictlySortedBy machine.node_cmp (map node_seen nodes)

-- Ok: the index of the node with this certname. Err: the index between the nodes below it and those above it
abbrev pub IsPlaceOf : List ℕ → List Node → Result ℕ ℕ → Type 0
IsPlaceOf certname nodes (Ok at) =
    (at < length nodes) × ((node : Node) → slice_get nodes at ≡ Some node → node.certname ≡ certname)
IsPlaceOf certname nodes (Err at) =
    (at ≤ length nodes)
    × AllByRecursion (λ node. text_cmp node.certname certname ≡ Less) (take at nodes)
    × AllByRecursion (λ node. text_cmp node.certname certname ≡ Greater) (drop at nodes)

-- stores in each node the numbers of rows before it
abbrev pub recounted : Counts → List Node → List Node
recounted before [] = []
recounted before (node ∷ nodes) = record node { before = before } ∷ recounted (plus before (counts node)) nodes

-- row i of the entity belongs to this node
abbrev pub HasRow : Entity → ℕ → Node → Type 0
HasRow entity i node = (count_of entity node.before ≤ i) × (i < count_of entity node.before + count_of entity (counts node))

abbrev pub reports_of : Option machine.Node → List Applied
reports_of None = []
reports_of (Some node) = node.reports

-- the index of the node to change for this certname; if the old list lacked the node, the new list has one without reports there
abbrev pub IsNodeFor : List ℕ → List machine.Node → List machine.Node → ℕ → Type 0
IsNodeFor certname old new at =
    (node : machine.Node) → slice_get new at ≡ Some node
    → (node.reports ≡ reports_of (find_node certname old))
    × ((change : machine.Node → machine.Node) → with_node certname change old ≡ slice_set new at (change node))
