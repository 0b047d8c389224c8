use Rattle.history_laws.proofs.Permutations.{permutations_reorder}
use Rattle.history_laws.proofs.order.permutations_reorder.Goals as goal

pub returns : goal.returns
returns c = permutations_reorder
