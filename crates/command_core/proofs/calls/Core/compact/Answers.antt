use Rattle.command_core.proofs.calls.Core.compact.Goals as goal

pub returns : goal.returns
returns g c = record { does = rw (← c.self.view_is) c.compact.ensures.does }

pub invariant_of-self : goal.invariant_of-self
invariant_of-self g c = record { sound = c.compact.ensures.does.sound; spelling = c.compact.ensures.does.spelling }
