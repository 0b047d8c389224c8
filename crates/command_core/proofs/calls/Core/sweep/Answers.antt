use Rattle.command_core.proofs.calls.Core.sweep.Goals as goal

pub returns : goal.returns
returns g c = record { does = rw (← c.self.view_is) c.sweep.ensures.does }

pub invariant_of-self : goal.invariant_of-self
invariant_of-self g c = record { sound = c.sweep.ensures.does.sound; spelling = c.sweep.ensures.does.spelling c.self.invariant.spelling }
