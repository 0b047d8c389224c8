use Rattle.std.proofs.Common.{subst}
use Rattle.command_core.specs.core_claims.declared.answers.Claimed.{Claimed}
use Rattle.command_core.specs.core_claims.Claims.{HasSubmittedJob}
use Rattle.core_tests.proofs.worker.work_late.Goals as goal

pub settle_job-requires-clause-submitted : goal.settle_job-requires-clause-submitted
settle_job-requires-clause-submitted g c = c.free_claims.ensures.does.submitted c.in-Job.job.receipt c.in-Job.job.command (subst (λ (came : Claimed). HasSubmittedJob came c.claim.new.self) c.in-Job.is c.claim.ensures.does.job).0

pub settle_job-requires-clause-fit : goal.settle_job-requires-clause-fit
settle_job-requires-clause-fit g c = (subst (λ (came : Claimed). HasSubmittedJob came c.claim.new.self) c.in-Job.is c.claim.ensures.does.job).1
