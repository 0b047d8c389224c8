use Rattle.std.proofs.Common.{◌∷◌, [], ◌∙◌, ap, arith}
use Rattle.fleet_ports.specs.Disks.{overlaid}
use Rattle.log_spec.specs.ImageOf.{image_of}
use Rattle.log_spec.proofs.Heads.{image_shut}
use Rattle.record_log.proofs.renewal.shut_laid.Goals as goal

pub returns-clause-closed : goal.returns-clause-closed
returns-clause-closed g c f now =
    let written = c.in_ok-write_synced.ensures.durable f now ∙ c.in_ok-write_synced.ensures.written (g.met.D.Disk.told c.write_synced.new.disk f now) in
    ap image_of written ∙ image_shut (overlaid (g.D.Disk.seen c.args.disk.now) 0 (0 ∷ [])) (omega arith)
