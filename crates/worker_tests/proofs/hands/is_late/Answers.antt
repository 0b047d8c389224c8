use Rattle.std.proofs.Common.{subst}
use Rattle.fleet_hub.specs.core_claims.declared.answers.Claimed.{Claimed}
use Rattle.fleet_hub.specs.Seen.{HasJob}
use Rattle.fleet_hub.proofs.Entries.{was_submitted_longer}
use Rattle.worker_tests.proofs.hands.is_late.Goals as goal

pub is_not_claimed-requires-clause-submitted : goal.is_not_claimed-requires-clause-submitted
is_not_claimed-requires-clause-submitted g c =
    was_submitted_longer c.in-Job.job.receipt c.in-Job.job.command c.claim.new.pass.seen c.release.new.pass.seen c.release.ensures.pass.2
    (subst (λ (came : Claimed). HasJob came c.claim.new.pass.seen) c.in-Job.is c.claim.ensures.job).0
