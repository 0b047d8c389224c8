use Rattle.std.proofs.Common.{◌∙◌, List, ℕ, subst, sym}
use Rattle.port_memory.specs.Disks.{images_of}
use Rattle.port_memory.proofs.Crashes.{crash_image}
use Rattle.port_memory.proofs.fuse.FuseDisk.crash.Goals as goal

pub returns-clause-image : goal.returns-clause-image
returns-clause-image c =
    let left = c.new-2.ensures.fresh.bytes_are ∙ c.from_vec-bytes.ensures ∙ c.in_ok-image.ensures in
    subst (λ (l : List ℕ). images_of c.args.self.disk l) (sym left) (crash_image c.args.self.disk c.args.choice)
