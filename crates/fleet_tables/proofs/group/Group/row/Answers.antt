use Rattle.std.proofs.Common.{◌≡◌, ◌∙◌, ℕ, ℤ, List, ◌<◌, slice_get, Option, Result, Ok, Err, IfOk, length, sym, ap, arith}
use Rattle.std.specs.List.{AllByRecursion}
use Rattle.std.specs.declared.alloc.AllocError.{AllocError}
use Rattle.std.specs.declared.alloc.Global.{Global}
use Rattle.std.specs.declared.boxed.Box.{Box}
use Rattle.std.proofs.lemmas.List.{length-map}
use Rattle.checkpoint_spec.specs.fleet_rows.declared.row.Entity.{Entity}
use Rattle.checkpoint_spec.specs.fleet_rows.declared.row.Entity.TheVariants.{Nodes}
use Rattle.checkpoint_spec.specs.fleet_rows.declared.row.Row.{Row}
use Rattle.checkpoint_spec.specs.fleet_rows.declared.settings.Ttls.{Ttls}
use Rattle.checkpoint_spec.specs.table_machine.Table as machine
use Rattle.checkpoint_spec.specs.table_spec.Rows.{Cells}
use Rattle.kept_nodes.specs.Places.{nodes_in, seen_in, Boxes}
use Rattle.checkpoint_spec.specs.table_machine.Rows.{node_rows}
use Rattle.fleet_tables.specs.Groups.{rows_of, HaveRow}
use Rattle.kept_nodes.specs.Kept.{IsNode}
use Rattle.kept_nodes.specs.Rows.{IsRowAt}
use Rattle.kept_nodes.specs.Seen.{node_seen}
use Rattle.kept_nodes.specs.declared.node.Node.{Node}
use Rattle.kept_nodes.proofs.FoundNodes.{box_kept}
use Rattle.kept_nodes.proofs.NodePlaces.{box_there}
use Rattle.kept_nodes.proofs.RowCounts.{nodes_count, total_is}
use Rattle.kept_nodes.proofs.RowPlaces.{single_at}
use Rattle.fleet_tables.proofs.group.Group.row.Goals as goal

-- ---- the row of a node

inside : (boxes : Boxes) (nodes : List machine.Node) (ttls : Ttls) (expiry : Option ℤ) (entity : Entity) (i : ℕ) → entity ≡ Nodes → seen_in boxes ≡ nodes → i < length (rows_of entity ttls expiry nodes) → i < length boxes
inside boxes nodes ttls expiry entity i is view h =
    let all : length (rows_of entity ttls expiry nodes) ≡ length nodes = ap (λ (e : Entity). length (rows_of e ttls expiry nodes)) is ∙ sym (nodes_count ttls expiry nodes) in
    let number : length (seen_in boxes) ≡ length nodes = ap (λ (ns : List machine.Node). length ns) view in
    omega (arith, h, all, number, length-map boxes (λ (b : Box Node Global). b.value), length-map (nodes_in boxes) node_seen)

own_row_at : (r : Result Row AllocError) (entity : Entity) (here there : List Cells) (i j : ℕ) → entity ≡ Nodes → slice_get there i ≡ slice_get here j → IfOk r (λ row. IsRowAt row Nodes here j) → IfOk r (λ row. IsRowAt row entity there i)
own_row_at (Ok row) entity here there i j is e made = (made.0 ∙ sym is, e ∙ made.1)
own_row_at (Err err) entity here there i j is e made = tt

pub index-requires : goal.index-requires
index-requires c =
    let within = inside c.self.inside.nodes.items c.args.self.now c.args.ttls.now c.args.expiry.now c.args.entity c.args.i c.in-Nodes.is c.self.view_is c.requires in omega (arith, within)

pub own_row-requires : goal.own_row-requires
own_row-requires c =
    let within = inside c.self.inside.nodes.items c.args.self.now c.args.ttls.now c.args.expiry.now c.args.entity c.args.i c.in-Nodes.is c.self.view_is c.requires in
    box_kept c.self.inside.nodes.items c.args.i c.index.result.now c.deref.result.now c.self.invariant.0 within c.index.ensures c.deref.ensures

pub returns-in-Nodes : goal.returns-in-Nodes
returns-in-Nodes c =
    let boxes = c.self.inside.nodes.items in
    let ttls = c.args.ttls.now in
    let expiry = c.args.expiry.now in
    let within = inside boxes c.args.self.now ttls expiry c.args.entity c.args.i c.in-Nodes.is c.self.view_is c.requires in
    let place =
    ap (λ (e : Entity). slice_get (rows_of e ttls expiry c.args.self.now) c.args.i) c.in-Nodes.is
    ∙ ap (λ (ns : List machine.Node). slice_get (rows_of Nodes ttls expiry ns) c.args.i) (sym c.self.view_is)
    ∙ single_at ttls expiry (nodes_in boxes) c.args.i c.index.result.now.value (box_there boxes c.args.i c.index.result.now within c.index.ensures)
    ∙ ap (λ (n : Node). slice_get (node_rows Nodes ttls expiry (node_seen n)) 0) (sym c.deref.ensures) in
    own_row_at c.own_row.result c.args.entity (node_rows Nodes ttls expiry (node_seen c.deref.result.now)) (rows_of c.args.entity ttls expiry c.args.self.now) c.args.i 0 c.in-Nodes.is place c.own_row.ensures

-- ---- the rows in nodes

have_row : (boxes : Boxes) (nodes : List machine.Node) (entity : Entity) (i : ℕ) (ttls : Ttls) (expiry : Option ℤ) → AllByRecursion IsNode (nodes_in boxes) → seen_in boxes ≡ nodes → i < length (rows_of entity ttls expiry nodes) → HaveRow entity i nodes
have_row boxes nodes entity i ttls expiry kept view h = λ t e.
    let here = total_is ttls expiry entity (nodes_in boxes) kept ∙ ap (λ (ns : List machine.Node). length (rows_of entity ttls expiry ns)) view in
    let there = total_is t e entity (nodes_in boxes) kept ∙ ap (λ (ns : List machine.Node). length (rows_of entity t e ns)) view in
    omega (arith, h, here, there)

row_moved : (r : Result Row AllocError) (entity : Entity) (ttls : Ttls) (expiry : Option ℤ) (nodes : List machine.Node) (node : machine.Node) (i j : ℕ) → slice_get (rows_of entity ttls expiry nodes) i ≡ slice_get (node_rows entity ttls expiry node) j
    → IfOk r (λ row. (ttls : Ttls) (expiry : Option ℤ) → IsRowAt row entity (node_rows entity ttls expiry node) j) → IfOk r (λ row. IsRowAt row entity (rows_of entity ttls expiry nodes) i)
row_moved (Ok row) entity ttls expiry nodes node i j e made = let at = made ttls expiry in (at.0, e ∙ at.1)
row_moved (Err err) entity ttls expiry nodes node i j e made = tt

pub node_at-row-requires : goal.node_at-row-requires
node_at-row-requires c = have_row c.self.inside.nodes.items c.args.self.now c.args.entity c.args.i c.args.ttls.now c.args.expiry.now c.self.invariant.0 c.self.view_is c.requires

pub row-requires : goal.row-requires
row-requires c = record { kept = c.node_at-row.ensures.kept; other = c.in_default.not-Nodes; within = c.node_at-row.ensures.within }

pub returns-in_default : goal.returns-in_default
returns-in_default c =
    row_moved c.row.result c.args.entity c.args.ttls.now c.args.expiry.now c.args.self.now (node_seen c.node_at-row.result.0.now) c.args.i c.node_at-row.result.1
    (c.node_at-row.ensures.row c.args.ttls.now c.args.expiry.now) c.row.ensures
