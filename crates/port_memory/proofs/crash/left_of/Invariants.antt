use Rattle.std.proofs.Common.{◌≡◌, take, reverse}
use Rattle.port_memory.specs.History.{seen_after}
use Rattle.port_memory.specs.Ways.{ways_after, left_after}
use Rattle.port_memory.proofs.crash.left_of.Given as goal

abbrev pub invariant-replaying : goal.invariant-replaying
invariant-replaying l =
    let so_far = reverse (take l.step-index l.steps) in
    record {
      image : l.image.items ≡ left_after l.start l.pattern so_far;
      seen : l.seen.items ≡ seen_after l.start so_far;
      ways : l.ways ≡ ways_after l.pattern so_far;
    }
