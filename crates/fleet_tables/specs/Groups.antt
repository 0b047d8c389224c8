-- Nodes in groups of neighbours, as the tables store them.
use Rattle.std.specs.Prelude.{◌≡◌, ℕ, ℤ, ◌+◌, ◌<◌, ◌≤◌, List, [], ◌∷◌, ◌++◌, Bool, false, length, flat_map, take, slice_get, Option, Some, IfSome}
use Rattle.std.specs.List.{AllByRecursion}
use Rattle.std.specs.List.Sorted.{IsStrictlySortedBy}
use Rattle.std.specs.Ordering.{is_gt}
use Rattle.std.specs.declared.cmp.Ordering.TheVariants.{Less, Greater}
use Rattle.checkpoint_spec.specs.text_spec.Compact.{text_cmp}
use Rattle.checkpoint_spec.specs.stamp_time.Range.{IsStampMoment}
use Rattle.checkpoint_spec.specs.fleet_rows.declared.row.Entity.{Entity}
use Rattle.checkpoint_spec.specs.fleet_rows.declared.settings.Ttls.{Ttls}
use Rattle.checkpoint_spec.specs.table_spec.Rows.{Cells}
use Rattle.checkpoint_spec.specs.table_machine.Rows.{node_rows}
use Rattle.checkpoint_spec.specs.table_machine.Table.{Node, node_cmp}
use Rattle.kept_nodes.specs.declared.counts.Counts.{Counts}
use Rattle.kept_nodes.specs.Counted.{count_of, limit, IsWithin}
use Rattle.kept_nodes.specs.Owned.{IsOwn}

-- the nodes of all groups in order
abbrev pub joined : List (List Node) → List Node
joined [] = []
joined (group ∷ groups) = group ++ joined groups

abbrev pub IsFilled : List Node → Type 0
IsFilled group = 0 < length group

-- every group has nodes, unless there is only one group
abbrev pub AreFilledOrOne : List (List Node) → Type 0
AreFilledOrOne [] = Unit {0}
AreFilledOrOne (group ∷ []) = Unit {0}
AreFilledOrOne (group ∷ next ∷ groups) = AllByRecursion IsFilled (group ∷ next ∷ groups)

-- the nodes are strictly sorted by certname
abbrev pub StandInOrder : List Node → Type 0
StandInOrder nodes = IsStrictlySortedBy node_cmp nodes

-- ---- rows

abbrev pub rows_of : Entity → Ttls → Option ℤ → List Node → List Cells
rows_of entity ttls expiry nodes = flat_map (node_rows entity ttls expiry) nodes

-- the counts are the numbers of the nodes' rows
abbrev pub AreCountsOf : Counts → List Node → Type 0
AreCountsOf counts nodes = (entity : Entity) (ttls : Ttls) (expiry : Option ℤ) → count_of entity counts ≡ length (rows_of entity ttls expiry nodes)

-- the nodes' rows can be counted
abbrev pub AreFew : List Node → Type 0
AreFew nodes = (entity : Entity) (ttls : Ttls) (expiry : Option ℤ) → length (rows_of entity ttls expiry nodes) ≤ limit

abbrev pub HaveRow : Entity → ℕ → List Node → Type 0
HaveRow entity i nodes = (ttls : Ttls) (expiry : Option ℤ) → i < length (rows_of entity ttls expiry nodes)

-- row i of the nodes is row j of a part of them, and so on as far as the part has rows
abbrev pub IsRowOf : Entity → List Node → ℕ → List Node → ℕ → Type 0
IsRowOf entity nodes i part j =
    (ttls : Ttls) (expiry : Option ℤ)
    → (j < length (rows_of entity ttls expiry part))
    × (slice_get (rows_of entity ttls expiry nodes) i ≡ slice_get (rows_of entity ttls expiry part) j)
    × ((d : ℕ) → j + d < length (rows_of entity ttls expiry part)
    → slice_get (rows_of entity ttls expiry nodes) (i + d) ≡ slice_get (rows_of entity ttls expiry part) (j + d))

-- so many rows stand before the group at this place
abbrev pub AreBefore : Entity → List (List Node) → ℕ → ℕ → Type 0
AreBefore entity groups at before = (ttls : Ttls) (expiry : Option ℤ) → before ≡ length (rows_of entity ttls expiry (joined (take at groups)))

-- each entry has the numbers of rows before the group at its place
abbrev pub AreStarts : List Counts → List (List Node) → Type 0
AreStarts starts groups = (at : ℕ) (before : Counts) → slice_get starts at ≡ Some before → AreCountsOf before (joined (take at groups))

-- ---- the group of a certname

-- the first node is above the certname
abbrev pub starts_above : List ℕ → List Node → Bool
starts_above certname [] = false
starts_above certname (node ∷ nodes) = is_gt (text_cmp node.certname certname)

abbrev pub AreBelow : List ℕ → List Node → Type 0
AreBelow certname = AllByRecursion (λ node. text_cmp node.certname certname ≡ Less)

abbrev pub AreAbove : List ℕ → List Node → Type 0
AreAbove certname = AllByRecursion (λ node. text_cmp node.certname certname ≡ Greater)

-- ---- the invariant of all groups

abbrev pub AreKept : Option ℤ → Option ℤ → List (List Node) → Counts → List Counts → Type 0
AreKept expiry retention groups total starts =
    IfSome expiry IsStampMoment
    × IfSome retention IsStampMoment
    × AllByRecursion IsFilled groups
    × StandInOrder (joined groups)
    × AreCountsOf total (joined groups)
    × IsWithin total
    × AllByRecursion IsOwn (joined groups)
    × AreStarts starts groups
