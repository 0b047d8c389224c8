use Rattle.fleet_ports.proofs.Runs.{weakens}
use Rattle.record_log.specs.Lay.{IsClosed, CutFrom}
use Rattle.record_log.proofs.Lays.{cut_closed}
use Rattle.record_log.proofs.cleared.clear.Goals as goal

pub returns-clause-stays_closed : goal.returns-clause-stays_closed
returns-clause-stays_closed g c all =
    let d = g.D.Disk in
    let old = c.args.disk.now in
    weakens d.moment d.left_since old c.shorten_synced.new.disk (CutFrom (d.may_leave old)) IsClosed (λ f t. cut_closed t.0 f (all t.0 t.1) t.2) c.shorten_synced.ensures.any_moment

pub returns-clause-closed : goal.returns-clause-closed
returns-clause-closed g c all f now =
    let t = c.shorten_synced.ensures.images f now in
    cut_closed t.0 f (all t.0 t.1) t.2
