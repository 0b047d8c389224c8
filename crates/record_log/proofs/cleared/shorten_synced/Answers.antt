use Rattle.std.proofs.Common.{◌∙◌, ap, arith}
use Rattle.log_spec.specs.ImageOf.{image_of}
use Rattle.log_spec.proofs.Heads.{image_short}
use Rattle.record_log.proofs.cleared.shorten_synced.Goals as goal

pub returns-clause-cleared : goal.returns-clause-cleared
returns-clause-cleared g c f now =
    let file = g.D.Disk.seen c.shorten.new.disk in
    let short = c.in_ok-shorten.ensures.short (g.met.D.Disk.told c.flush.new.disk f now) in
    ap image_of (c.in_ok-flush.ensures.durable f now) ∙ image_short file (omega (arith, short))

pub returns-clause-bytes : goal.returns-clause-bytes
returns-clause-bytes g c f now =
    c.in_ok-flush.ensures.durable f now ∙ c.in_ok-shorten.ensures.bytes (g.met.D.Disk.told c.flush.new.disk f now)
