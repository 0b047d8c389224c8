use Rattle.std.proofs.Common.{◌≡◌, map, take}
use Rattle.kept_nodes.specs.Places.{seen_in}
use Rattle.fleet_tables.proofs.stored.nodes_of.Given as goal

abbrev pub invariant-loop-at : goal.invariant-loop-at
invariant-loop-at l = map (λ nodes. seen_in nodes.now) l.lists.items ≡ take l.at l.groups
