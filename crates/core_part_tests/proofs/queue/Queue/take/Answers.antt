use Rattle.core_part_tests.proofs.queue.Queue.take.Goals as goal

pub invariant_of-self : goal.invariant_of-self
invariant_of-self c = record { below = c.take-entry.ensures.below c.args.self.now.next c.args.self.now.below }
