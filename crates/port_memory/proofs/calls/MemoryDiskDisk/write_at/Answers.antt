use Rattle.std.proofs.Common.{◌≤◌, true, List, length, reverse, sym, ap, subst, arith}
use Rattle.fleet_ports.specs.Disks.{Torn, Follows}
use Rattle.port_memory.specs.declared.step.Step.{Step}
use Rattle.port_memory.specs.History.{held, seen_after, Images}
use Rattle.port_memory.proofs.Steps.{wrote_follows}
use Rattle.port_memory.proofs.calls.MemoryDiskDisk.write_at.Goals as goal

pub returns-in-Ok-clause-images : goal.returns-in-Ok-clause-images
returns-in-Ok-clause-images c =
    let d = c.args.self.now in
    let steps = reverse d.steps.items in
    let lies : c.args.at ≤ length (held d.start d.written) = c.requires.inside in
    let le : c.args.at ≤ length (seen_after d.start steps) = omega (arith, lies, ap length d.replayed) in
    subst (λ (h : List Step). Follows (Torn c.args.at (length c.args.bytes.now)) (Images d.start steps) (Images d.start h)) (sym c.in-Ok.ensures.step) (wrote_follows d.start steps c.args.at c.args.bytes.now true le)
