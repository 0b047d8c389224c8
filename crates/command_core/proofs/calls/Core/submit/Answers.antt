use Rattle.core_submits.proofs.of_core_state.Spellings.{spelling_stays}
use Rattle.command_core.proofs.calls.Core.submit.Goals as goal

pub returns : goal.returns
returns g c = record { does = rw (← c.self.view_is) c.submit.ensures.does }

pub invariant_of-self : goal.invariant_of-self
invariant_of-self g c = record {
  sound = c.submit.ensures.does.sound;
  spelling = spelling_stays c.self.inside.state c.submit.new.core c.submit.ensures.does.others c.self.invariant.spelling;
}
