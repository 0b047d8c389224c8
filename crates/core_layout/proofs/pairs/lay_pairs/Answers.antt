use Rattle.std.proofs.Common.{refl, rules}
use Rattle.log_pair.proofs.of_fleet_ports.Runs.{weakens}
use Rattle.log_pair.specs.record_log.Lay.{IsLaying}
use Rattle.log_pair.specs.Lay.{laid_pair}
use Rattle.log_pair.specs.Pair.{EachPair, IsPair}
use Rattle.core_layout.specs.Layout.{IsClosedOrLaid}
use Rattle.core_layout.proofs.Images.{laying_closed}
use Rattle.core_layout.proofs.pairs.lay_pairs.Goals as goal

pub returns-in-Err-lay_fitting-clause-queue_a : goal.returns-in-Err-lay_fitting-clause-queue_a
returns-in-Err-lay_fitting-clause-queue_a g c shut =
    let d = g.D.Disk in
    let old = c.args.disks.now.queue_a in
    let frames = c.args.queue.now in
    let StoreLaid = EachPair (d.may_leave c.lay_fitting.new.a) (d.may_leave c.lay_fitting.new.b) (IsPair (laid_pair c.args.store.now)) in
    weakens d.moment d.left_since old c.lay_fitting-in-Ok.new.a (IsLaying (d.may_leave old) 1 frames) (IsClosedOrLaid frames StoreLaid)
    (laying_closed (d.may_leave old) frames StoreLaid shut c.in-Ok.ensures.ok) c.lay_fitting-in-Ok.ensures.first

pub returns-in-Err-lay_fitting-clause-queue_cause : goal.returns-in-Err-lay_fitting-clause-queue_cause
returns-in-Err-lay_fitting-clause-queue_cause g c =
    let counts = c.in-Err-lay_fitting.ensures.cause in
    record { later_a = counts.later_a; later_b = counts.later_b; cause = λ e. counts.cause (search rules); calm = λ none. absurd (none refl) }

pub returns-in-Ok-lay_fitting-clause-queue_a : goal.returns-in-Ok-lay_fitting-clause-queue_a
returns-in-Ok-lay_fitting-clause-queue_a g c shut =
    let d = g.D.Disk in
    let old = c.args.disks.now.queue_a in
    let frames = c.args.queue.now in
    let StoreLaid = EachPair (d.may_leave c.lay_fitting.new.a) (d.may_leave c.lay_fitting.new.b) (IsPair (laid_pair c.args.store.now)) in
    weakens d.moment d.left_since old c.lay_fitting-in-Ok.new.a (IsLaying (d.may_leave old) 1 frames) (IsClosedOrLaid frames StoreLaid)
    (laying_closed (d.may_leave old) frames StoreLaid shut c.in-Ok.ensures.ok) c.lay_fitting-in-Ok.ensures.first
