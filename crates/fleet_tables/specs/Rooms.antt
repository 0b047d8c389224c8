-- The memory and the computed values that a change needs.
use Rattle.std.specs.Prelude.{◌≡◌, ℕ, ◌+◌, ◌<◌, ◌≤◌, List, [], ◌∷◌, length, Some, None, Option}
use Rattle.std.specs.Coded.{Coded, code_by, coded×}
use Rattle.std.specs.Vec.{vec_capacity}
use Rattle.std.proofs.Common.{refl}
use Rattle.checkpoint_spec.specs.fleet_rows.Change.{change_certname}
use Rattle.checkpoint_spec.specs.fleet_rows.declared.change.Change.{Change}
use Rattle.checkpoint_spec.specs.fleet_rows.declared.row.Entity.{Entity}
use Rattle.checkpoint_spec.specs.fleet_rows.declared.row.Entity.TheVariants.{Factsets, Facts, Catalogs, Resources, Edges, Reports}
use Rattle.checkpoint_spec.specs.table_machine.Table.{Node, Table}
use Rattle.checkpoint_spec.specs.table_machine.Steps.{empty_node, find_node}
use Rattle.checkpoint_spec.specs.table_spec.Rows.{Cells, factset_rows, fact_rows, catalog_rows, resource_rows, edge_rows, report_rows}
use Rattle.fleet_tables.specs.declared.room.NewNode.{NewNode}
use Rattle.kept_nodes.specs.declared.computed.Derived.{Derived}
use Rattle.fleet_tables.specs.declared.room.Spare.{Spare}
use Rattle.kept_nodes.specs.Seen.{node_seen}
use Rattle.kept_nodes.specs.Kept.{IsNode}
use Rattle.kept_nodes.specs.Computed.{HasRoomFor, IsShownFor, with_reports}
use Rattle.kept_nodes.specs.Counted.{limit}
use Rattle.kept_nodes.specs.Places.{reports_of}
use Rattle.checkpoint_spec.specs.table_machine.Rows.{table_rows}

-- a node of which only the certname is known, and a list with room for it and for this many others
abbrev pub IsNew : NewNode → List ℕ → ℕ → Type 0
IsNew new certname nodes =
    (node_seen new.node.value ≡ empty_node certname) × IsNode new.node.value × (new.nodes.items ≡ []) × (nodes < vec_capacity new.nodes)

-- a new node is given exactly if none was found
abbrev pub IsNewFor : {X : Type 0} → Option NewNode → Option X → List ℕ → ℕ → Type 0
IsNewFor None (Some found) certname nodes = Unit {0}
IsNewFor (Some new) None certname nodes = IsNew new certname nodes
IsNewFor _ _ certname nodes = ⊥

abbrev pub FitsBy : Entity → (Change → List Cells) → Table → Change → Type 0
FitsBy entity rows table change = length (table_rows entity table) + length (rows change) ≤ limit

-- the table's rows stay within the limit after the change, and so does the number of nodes
abbrev pub Fits : Table → Change → Type 0
Fits table change =
    FitsBy Factsets factset_rows table change × FitsBy Facts fact_rows table change
    × FitsBy Catalogs catalog_rows table change × FitsBy Resources resource_rows table change
    × FitsBy Edges edge_rows table change × FitsBy Reports (report_rows None) table change
    × (length table.nodes + 1 ≤ limit)

-- if there is no node yet, a first group is given
abbrev pub IsFirstFor : List (List Node) → List Node → Type 0
IsFirstFor first nodes = nodes ≡ [] → first ≡ [] ∷ []

-- the memory fits this change and this table
abbrev pub IsSpare : Spare → Derived → Table → Change → Type 0
IsSpare spare shown table change =
    let node = find_node (change_certname change) table.nodes in
    HasRoomFor (with_reports shown spare.reports spare.place) change (reports_of node) × IsNewFor spare.new node (change_certname change) (length table.nodes)
    × IsFirstFor spare.first.items table.nodes × Fits table change

-- the computed values, and a new node if one is needed, fit this change and these nodes
abbrev pub IsRoomAt : Derived → Option NewNode → List Node → Change → Type 0
IsRoomAt shown new nodes change =
    let node = find_node (change_certname change) nodes in
    IsShownFor shown change (reports_of node) × IsNewFor new node (change_certname change) (length nodes)

abbrev pub IsRoom : Derived → Option NewNode → List (List Node) → Table → Change → Type 0
IsRoom shown new first table change = IsRoomAt shown new table.nodes change × IsFirstFor first table.nodes × Fits table change

-- ---- the value that contracts see

-- what a room was made for
pub record RoomFor : Type 0 where
  pub table : Table
  pub change : Change

abbrev pub room_for : Table → Change → RoomFor
room_for table change = record { table = table; change = change }

-- how the logic encodes it; no meaning depends on this
abbrev pub coded_room : Coded Table → Coded Change → Coded RoomFor
coded_room t c = code_by (Table × Change) (coded× t c) (λ r. (r.table, r.change)) (λ p. record { table = p.0; change = p.1 }) (λ _. refl)
