use Rattle.std.proofs.Common.{◌<◌, ◌^◌, arith}
use Rattle.record_log.specs.Lay.{Fits}
use Rattle.record_log.proofs.Lays.{fits_not_long, laid_or_closed}
use Rattle.log_pair.proofs.Opening.{opening}
use Rattle.log_pair.proofs.laid.lay_pair.Goals as goal

pub returns-in-Ok-clause-untouched : goal.returns-in-Ok-clause-untouched
returns-in-Ok-clause-untouched g c is = absurd (fits_not_long c.args.frames.now (c.fit.ensures.fits c.if-not-fit.false) (c.lay.ensures.too_long.0 is))

pub returns-in-Err-clause-too_long : goal.returns-in-Err-clause-too_long
returns-in-Err-clause-too_long g c = (λ e. cc, λ long. absurd (fits_not_long c.args.frames.now (c.fit.ensures.fits c.if-not-fit.false) long))

pub returns-in-Ok-clause-opened_pair : goal.returns-in-Ok-clause-opened_pair
returns-in-Ok-clause-opened_pair g c is a b is_a is_b =
    let frames = c.args.frames.now in
    let fits : Fits frames = c.lay.ensures.may_fit (λ e. cc) in
    opening frames a b (laid_or_closed 1 frames a (omega arith) fits.short (c.lay.ensures.opened is a is_a)) (c.in-Ok.ensures.cleared b is_b)
