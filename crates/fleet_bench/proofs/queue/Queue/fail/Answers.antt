use Rattle.fleet_bench.proofs.queue.Queue.fail.Goals as goal

pub invariant_of-self : goal.invariant_of-self
invariant_of-self c = record { below = c.count_failure.ensures.below c.args.self.now.next c.args.self.now.below }
