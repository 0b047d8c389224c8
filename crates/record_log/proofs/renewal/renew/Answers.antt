use Rattle.std.proofs.Common.{◌≡◌, Err, true}
use Rattle.fleet_ports.proofs.Runs.{joins, weakens}
use Rattle.record_log.specs.declared.laid.LayFault.TheVariants.{DiskFault}
use Rattle.record_log.specs.Lay.{IsLaying, IsLaidOrTorn, Fits}
use Rattle.record_log.proofs.Lays.{shut_again}
use Rattle.record_log.proofs.renewal.renew.Goals as goal

pub returns-in-Ok-shut_laid-clause-any_moment : goal.returns-in-Ok-shut_laid-clause-any_moment
returns-in-Ok-shut_laid-clause-any_moment g c =
    let d = g.D.Disk in
    let old = c.args.disk.now in
    let mid = c.lay.new.disk in
    let frames = c.args.frames.now in
    let failed : c.lay.result ≡ Err (DiskFault true) = cc in
    let fits : Fits frames = c.lay.ensures.may_fit (λ e. cc) in
    let is = shut_again (d.may_leave old) c.args.generation frames c.ranges.generation.fits fits.short in
    joins d.moment d.left_since old mid c.shut_laid.new.disk (IsLaying (d.may_leave old) c.args.generation frames) c.lay.ensures.any_moment
    (weakens d.moment d.left_since mid c.shut_laid.new.disk (IsLaidOrTorn c.args.generation frames) (IsLaying (d.may_leave old) c.args.generation frames) is (c.shut_laid.ensures.any_moment c.args.generation frames (c.lay.ensures.opened failed)))

pub returns-in-Err-clause-any_moment : goal.returns-in-Err-clause-any_moment
returns-in-Err-clause-any_moment g c =
    let d = g.D.Disk in
    let old = c.args.disk.now in
    let mid = c.lay.new.disk in
    let frames = c.args.frames.now in
    let failed : c.lay.result ≡ Err (DiskFault true) = cc in
    let fits : Fits frames = c.lay.ensures.may_fit (λ e. cc) in
    let is = shut_again (d.may_leave old) c.args.generation frames c.ranges.generation.fits fits.short in
    joins d.moment d.left_since old mid c.shut_laid.new.disk (IsLaying (d.may_leave old) c.args.generation frames) c.lay.ensures.any_moment
    (weakens d.moment d.left_since mid c.shut_laid.new.disk (IsLaidOrTorn c.args.generation frames) (IsLaying (d.may_leave old) c.args.generation frames) is (c.shut_laid.ensures.any_moment c.args.generation frames (c.lay.ensures.opened failed)))

pub returns-in-Err-clause-after : goal.returns-in-Err-clause-after
returns-in-Err-clause-after g c f now =
    let frames = c.args.frames.now in
    let failed : c.lay.result ≡ Err (DiskFault true) = cc in
    let fits : Fits frames = c.lay.ensures.may_fit (λ e. cc) in
    shut_again (g.D.Disk.may_leave c.args.disk.now) c.args.generation frames c.ranges.generation.fits fits.short f (c.shut_laid.ensures.images c.args.generation frames (c.lay.ensures.opened failed) f now)
