use Rattle.supersede_core.proofs.TwoCalls.{add_is_undone}
use Rattle.supersede_core.proofs.laws.an_add_is_undone.Goals as goal

pub returns : goal.returns
returns c = add_is_undone
