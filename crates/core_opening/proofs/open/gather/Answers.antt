use Rattle.std.proofs.Common.{ap, ◌∙◌}
use Rattle.core_opening.proofs.Opens.{store_uncalled, queue_calm}
use Rattle.core_opening.proofs.open.gather.Goals as goal

pub returns-in-Err-clause-store_cause : goal.returns-in-Err-clause-store_cause
returns-in-Err-clause-store_cause g c =
    let count = g.D.Disk.fault_count in
    store_uncalled c.in-Err.fault _ (count c.args.disks.store_a) (count c.args.disks.store_b) c.in-Err.ensures.own

pub returns-in-Err-open_filled-clause-queue_cause : goal.returns-in-Err-open_filled-clause-queue_cause
returns-in-Err-open_filled-clause-queue_cause g c =
    let count = g.D.Disk.fault_count in
    let still = c.in-Ok.ensures.cause.calm (λ none. none) in
    queue_calm c.in-Err-open_filled.fault _ (count c.args.disks.queue_a) (count c.into_disks-queue_a.result.0) (count c.args.disks.queue_b) (count c.into_disks-queue_a.result.1) c.in-Err-open_filled.ensures.own
    (ap count c.into_disks-queue_a.ensures.first ∙ still.0, ap count c.into_disks-queue_a.ensures.second ∙ still.1)
