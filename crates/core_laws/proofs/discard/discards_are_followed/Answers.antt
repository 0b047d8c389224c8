use Rattle.core_laws.proofs.DiscardSteps.{discards_are_put, others_discard_nothing}
use Rattle.core_laws.proofs.discard.discards_are_followed.Goals as goal

pub returns-clause-put : goal.returns-clause-put
returns-clause-put c = discards_are_put

pub returns-clause-others : goal.returns-clause-others
returns-clause-others c = others_discard_nothing
