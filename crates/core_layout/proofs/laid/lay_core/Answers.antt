use Rattle.core_layout.proofs.Images.{counted_on, laid_stand, read_and_laid}
use Rattle.core_layout.proofs.laid.lay_core.Goals as goal

pub returns-in-Ok-false-clause-ok : goal.returns-in-Ok-false-clause-ok
returns-in-Ok-false-clause-ok g c = laid_stand g.D.Disk.may_leave c.args.ttls c.lay_anew.new.disks c.lay_anew.result c.lay_anew.ensures.laid

pub returns-in-Ok-false-clause-any_moment : goal.returns-in-Ok-false-clause-any_moment
returns-in-Ok-false-clause-any_moment g c unlaid =
    let d = g.D.Disk in
    read_and_laid d.seen d.may_leave d.moment d.left_since g.met.D.Disk.counts_now c.args.ttls c.args.disks.now c.is_laid.new.disks c.lay_anew.new.disks c.is_laid.ensures.untouched unlaid c.lay_anew.ensures.queue_b c.lay_anew.ensures.queue_a

pub returns-in-Ok-false-clause-queue_cause : goal.returns-in-Ok-false-clause-queue_cause
returns-in-Ok-false-clause-queue_cause g c =
    counted_on _ _ _ _ _ _ _ (c.is_laid.ensures.queue_cause.calm (λ e. cc)) c.lay_anew.ensures.queue_cause

pub returns-in-Ok-false-clause-store_cause : goal.returns-in-Ok-false-clause-store_cause
returns-in-Ok-false-clause-store_cause g c =
    counted_on _ _ _ _ _ _ _ (c.is_laid.ensures.store_cause.calm (λ e. cc)) c.lay_anew.ensures.store_cause
