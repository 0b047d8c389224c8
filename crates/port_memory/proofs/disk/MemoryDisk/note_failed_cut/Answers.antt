use Rattle.std.proofs.Common.{false, reverse, refl}
use Rattle.port_memory.specs.declared.step.Step.TheVariants.{Shortened}
use Rattle.port_memory.proofs.Steps.{cut_same, failed_follows}
use Rattle.port_memory.proofs.disk.MemoryDisk.note_failed_cut.Goals as goal

pub returns-clause-images : goal.returns-clause-images
returns-clause-images c =
    let d = c.args.self.now in
    let len = c.args.len in
    failed_follows d.start (reverse d.steps.items) (reverse c.note_failed.new.steps.items) (Shortened len false) _ _ c.note_failed.ensures.note refl (cut_same len)
