-- Items of changes, of nodes and of groups of nodes, in one list.
use Rattle.std.proofs.Common.{◌≡◌, ◌∙◌, List, [], ◌∷◌, ◌++◌, map, refl, sym, ap, append_assoc}
use Rattle.std.specs.Borrow.{Bor}
use Rattle.std.specs.List.{AllByRecursion, flat_map}
use Rattle.std.proofs.lemmas.Grind.{flat_map-append}
use Rattle.std.proofs.lemmas.List.{map-append}
use Rattle.dump_writer.specs.dump_spec.fleet_rows.declared.change.Change.{Change}
use Rattle.dump_writer.specs.dump_spec.history_spec.Lawful.{IsChange}
use Rattle.dump_writer.specs.dump_spec.checkpoint_spec.Lists.{by_rank}
use Rattle.dump_writer.specs.dump_spec.list_again.Told.{change_in, if_there}
use Rattle.dump_writer.specs.dump_spec.list_again.Whole.{greatest_there, lacking}
use Rattle.dump_writer.specs.dump_spec.table_machine.Table.{Node}
use Rattle.dump_writer.specs.dump_spec.table_spec.Rows.{change_of}
use Rattle.dump_writer.specs.dump_spec.table_spec.Sorted.{sorted_by}
use Rattle.dump_writer.specs.dump_spec.Dumps.{node_changes}
use Rattle.fleet_tables.specs.Groups.{joined}
use Rattle.kept_nodes.specs.Places.{Boxes, seen_in}
use Rattle.kept_nodes.specs.Seen.{node_seen, report_seen}
use Rattle.kept_nodes.specs.declared.kept.Report.{Report}
use Rattle.fleet_dump.specs.Dumpable.{newest_changes, IsDumpableNode}
use Rattle.fleet_dump.specs.Printed.{change_item, node_items}

pub node_by_node : (nodes : List Node) → flat_map node_items nodes ≡ map change_item (flat_map node_changes nodes)
node_by_node [] = refl
node_by_node (node ∷ nodes) =
    ap (λ t. node_items node ++ t) (node_by_node nodes) ∙ sym (map-append change_item (node_changes node) (flat_map node_changes nodes))

pub list_by_list : {X : Type 0} (f : X → List Node) (xs : List X) → flat_map (λ x. flat_map node_items (f x)) xs ≡ flat_map node_items (joined (map f xs))
list_by_list f [] = refl
list_by_list f (x ∷ xs) = ap (λ t. flat_map node_items (f x) ++ t) (list_by_list f xs) ∙ sym (flat_map-append node_items (f x) (joined (map f xs)))

-- nodes in boxes
pub boxes_in : (boxes : Boxes) → flat_map (λ b. node_items (node_seen b.value)) boxes ≡ flat_map node_items (seen_in boxes)
boxes_in [] = refl
boxes_in (b ∷ boxes) = ap (λ t. node_items (node_seen b.value) ++ t) (boxes_in boxes)

pub each_boxed : (boxes : Boxes) → AllByRecursion IsDumpableNode (seen_in boxes) → AllByRecursion (λ b. IsDumpableNode (node_seen b.value)) boxes
each_boxed [] all = tt
each_boxed (b ∷ boxes) all = (all.0, each_boxed boxes all.1)

-- ---- what holds of all

-- the front of a list, and the rest
pub all_parts : {X : Type 0} (P : X → Type 0) (xs ys : List X) → AllByRecursion P (xs ++ ys) → AllByRecursion P xs × AllByRecursion P ys
all_parts P [] ys all = (tt, all)
all_parts P (x ∷ xs) ys all = let both = all_parts P xs ys all.1 in ((all.0, both.0), both.1)

pub each_joined : {X : Type 0} (P : Node → Type 0) (f : X → List Node) (xs : List X) → AllByRecursion P (joined (map f xs)) → AllByRecursion (λ x. AllByRecursion P (f x)) xs
each_joined P f [] all = tt
each_joined P f (x ∷ xs) all = let both = all_parts P (f x) (joined (map f xs)) all in (both.0, each_joined P f xs both.1)

-- ---- a node's changes in two parts

parted : (a b c d e r : List Change) → a ++ (b ++ (c ++ (d ++ (e ++ r)))) ≡ (a ++ (b ++ (c ++ (d ++ e)))) ++ r
parted a b c d e r = simp append_assoc refl

pub in_two : (node : Node) → node_changes node ≡ newest_changes node ++ map change_in (sorted_by by_rank node.reports)
in_two node =
    parted (if_there (change_of node.facts)) (if_there (change_of node.catalog)) (if_there (change_of node.expiration)) (if_there (change_of node.deactivate))
    (if_there (lacking node.certname node.active (greatest_there node))) (map change_in (sorted_by by_rank node.reports))

pub items_in_two : (node : Node) → map change_item (newest_changes node) ++ map change_item (map change_in (sorted_by by_rank node.reports)) ≡ node_items node
items_in_two node = sym (map-append change_item (newest_changes node) (map change_in (sorted_by by_rank node.reports))) ∙ ap (map change_item) (sym (in_two node))

-- ---- reports by reference

pub each_ranked : (reports : List (Bor Report)) → AllByRecursion IsChange (map change_in (map (λ r. report_seen r.now) reports)) → AllByRecursion (λ r. IsChange (report_seen r.now).change) reports
each_ranked [] all = tt
each_ranked (r ∷ reports) all = (all.0, each_ranked reports all.1)

pub same_changes : (reports : List (Bor Report)) → flat_map (λ r. change_item (report_seen r.now).change ∷ []) reports ≡ map change_item (map change_in (map (λ r. report_seen r.now) reports))
same_changes [] = refl
same_changes (r ∷ reports) = ap (λ t. change_item (report_seen r.now).change ∷ t) (same_changes reports)
