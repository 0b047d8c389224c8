use Rattle.std.proofs.Common.{◌≡◌, ◌++◌, ◌+◌, ◌-◌}
use Rattle.kept_nodes.specs.Spans.{neighbours}
use Rattle.fleet_tables.proofs.seek.push_neighbours.Given as goal

abbrev pub invariant-pushing : goal.invariant-pushing
invariant-pushing l = l.places.items ++ neighbours l.place (l.place-end - l.place) ≡ l.initial.places.items ++ neighbours l.fn.span.from l.fn.span.count
