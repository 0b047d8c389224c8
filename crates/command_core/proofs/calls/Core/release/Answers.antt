use Rattle.core_submits.proofs.of_core_state.Spellings.{spelling_stays}
use Rattle.command_core.proofs.calls.Core.release.Goals as goal

pub returns : goal.returns
returns g c = record { does = rw (← c.self.view_is) c.release.ensures.does }

pub invariant_of-self : goal.invariant_of-self
invariant_of-self g c = record {
  sound = c.release.ensures.does.sound;
  spelling = spelling_stays c.self.inside.state c.release.new.core c.release.ensures.does.others c.self.invariant.spelling;
}
