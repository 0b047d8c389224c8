use Rattle.core_submits.proofs.of_core_state.Spellings.{spelling_stays}
use Rattle.command_core.proofs.calls.Core.free_claims.Goals as goal

pub returns : goal.returns
returns g c = record { does = rw (← c.self.view_is) c.free_claims.ensures.does }

pub invariant_of-self : goal.invariant_of-self
invariant_of-self g c = record {
  sound = c.free_claims.ensures.does.sound;
  spelling = spelling_stays c.self.inside.state c.free_claims.new.core c.free_claims.ensures.does.others c.self.invariant.spelling;
}
