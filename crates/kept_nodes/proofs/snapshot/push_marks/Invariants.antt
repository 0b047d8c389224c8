use Rattle.std.proofs.Common.{◌≡◌, ◌++◌, map, drop}
use Rattle.checkpoint_spec.specs.Lists.{mark_of}
use Rattle.kept_nodes.specs.Places.{seen_in}
use Rattle.kept_nodes.proofs.snapshot.push_marks.Given as goal

abbrev pub invariant-listing : goal.invariant-listing
invariant-listing l = l.marks ++ map mark_of (seen_in (drop l.node-index l.nodes)) ≡ l.initial.marks ++ map mark_of (seen_in l.nodes)
