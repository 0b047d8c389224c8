use Rattle.std.proofs.Common.{List, ℕ, inl}
use Rattle.fleet_ports.proofs.Runs.{joins, weakens}
use Rattle.record_log.specs.Log.{TornFrom}
use Rattle.record_log.specs.Lay.{IsOldOrClosed}
use Rattle.record_log.proofs.Lays.{torn_old}
use Rattle.record_log.proofs.laid.shut.Goals as goal

pub returns-clause-images : goal.returns-clause-images
returns-clause-images g c f now =
    let d = g.D.Disk in
    let old = c.args.disk.now in
    let torn = c.write_synced.ensures.images f now in
    let was = c.is_shut.ensures.untouched.images torn.0 torn.1 in
    torn_old (d.may_leave old) (d.seen old) torn.0 f (g.met.D.Disk.mixes old) (c.in_ok-is_shut.ensures.opened (g.met.D.Disk.told old torn.0 was) c.if-branch.false) was torn.2

pub returns-clause-any_moment : goal.returns-clause-any_moment
returns-clause-any_moment g c =
    let d = g.D.Disk in
    let old = c.args.disk.now in
    let mid = c.is_shut.new.disk in
    let P = IsOldOrClosed (d.may_leave old) in
    let torn_is : (f : List ℕ) → TornFrom (d.may_leave mid) 0 1 f → P f = λ f torn.
    let was = c.is_shut.ensures.untouched.images torn.0 torn.1 in
    torn_old (d.may_leave old) (d.seen old) torn.0 f (g.met.D.Disk.mixes old) (c.in_ok-is_shut.ensures.opened (g.met.D.Disk.told old torn.0 was) c.if-branch.false) was torn.2 in
    joins d.moment d.left_since old mid c.write_synced.new.disk P
    (weakens d.moment d.left_since old mid (d.may_leave old) P (λ f now. inl now) c.is_shut.ensures.untouched.moments)
    (weakens d.moment d.left_since mid c.write_synced.new.disk (TornFrom (d.may_leave mid) 0 1) P torn_is c.write_synced.ensures.any_moment)
