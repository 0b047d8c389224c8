use Rattle.std.proofs.Common.{length}
use Rattle.fleet_ports.proofs.Runs.{started, goes_on}
use Rattle.record_log.specs.Log.{TornFrom}
use Rattle.record_log.proofs.Crash.{torn_same}
use Rattle.record_log.proofs.put.write_synced.Goals as goal

-- up to the write's end
pub returns-in_err-write_at-clause-any_moment : goal.returns-in_err-write_at-clause-any_moment
returns-in_err-write_at-clause-any_moment g c =
    let d = g.D.Disk in
    let old = c.args.disk.now in
    let n = length c.args.bytes.now in
    let P = TornFrom (d.may_leave old) c.args.at n in
    let start = started d.moment d.left_since old P (λ f left. (f, g.met.D.Disk.only_now old f left, torn_same c.args.at n f)) in
    goes_on d.moment d.left_since old old c.write_at.new.self P _ start c.write_at.ensures.time c.write_at.ensures.images

pub returns-clause-any_moment : goal.returns-clause-any_moment
returns-clause-any_moment g c =
    let d = g.D.Disk in
    let old = c.args.disk.now in
    let n = length c.args.bytes.now in
    let P = TornFrom (d.may_leave old) c.args.at n in
    let start = started d.moment d.left_since old P (λ f left. (f, g.met.D.Disk.only_now old f left, torn_same c.args.at n f)) in
    let written = goes_on d.moment d.left_since old old c.write_at.new.self P _ start c.write_at.ensures.time c.write_at.ensures.images in
    goes_on d.moment d.left_since old c.write_at.new.self c.sync.new.self P _ written c.sync.ensures.time (λ f now. c.write_at.ensures.images f (c.sync.ensures.images f now))
