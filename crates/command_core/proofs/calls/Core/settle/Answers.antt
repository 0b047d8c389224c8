use Rattle.command_core.proofs.calls.Core.settle.Goals as goal

pub returns : goal.returns
returns g c = record { does = rw (← c.self.view_is) c.settle.ensures.does }

pub invariant_of-self : goal.invariant_of-self
invariant_of-self g c = record { sound = c.settle.ensures.does.sound; spelling = c.settle.ensures.does.spelling c.self.invariant.spelling }
