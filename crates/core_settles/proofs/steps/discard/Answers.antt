use Rattle.core_settles.proofs.CountedLists.{claimed_waits}
use Rattle.core_settles.proofs.steps.discard.Goals as goal

pub take_out-requires : goal.take_out-requires
take_out-requires g c = claimed_waits c.args.job.receipt c.args.core.now.pending c.requires.claimed
