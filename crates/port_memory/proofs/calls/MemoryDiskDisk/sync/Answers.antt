use Rattle.std.proofs.Common.{List, reverse, sym, subst}
use Rattle.fleet_ports.specs.Disks.{NoMore}
use Rattle.port_memory.specs.declared.step.Step.{Step}
use Rattle.port_memory.specs.History.{Images}
use Rattle.port_memory.proofs.Steps.{sync_no_more}
use Rattle.port_memory.proofs.calls.MemoryDiskDisk.sync.Goals as goal

pub returns-in-Ok-clause-images : goal.returns-in-Ok-clause-images
returns-in-Ok-clause-images c =
    let d = c.args.self.now in
    let steps = reverse d.steps.items in
    subst (λ (h : List Step). NoMore (Images d.start steps) (Images d.start h)) (sym c.in-Ok.ensures.step) (sync_no_more d.start steps)
