use Rattle.std.proofs.Common.{false, ℕ, length, reverse, refl, ap, subst}
use Rattle.fleet_ports.specs.Disks.{Torn, Follows}
use Rattle.port_memory.specs.declared.step.Step.TheVariants.{Wrote, Opened}
use Rattle.port_memory.specs.History.{Images}
use Rattle.port_memory.proofs.Steps.{torn_same, failed_follows}
use Rattle.port_memory.proofs.disk.MemoryDisk.note_failed_write.Goals as goal

pub returns-in-Ok-clause-images : goal.returns-in-Ok-clause-images
returns-in-Ok-clause-images c =
    let d = c.args.self.now in
    let at = c.args.at in
    let copy = c.in-Ok.copy in
    let old = reverse d.steps.items in
    let new = reverse c.note_failed.new.steps.items in
    let noted = c.note_failed.ensures.note in
    subst (λ (n : ℕ). Follows (Torn at n) (Images d.start old) (Images d.start new))
    (ap length c.in-Ok.ensures)
    (failed_follows d.start old new (Wrote at copy false) _ _ noted refl (torn_same at (length copy)))

pub returns-in-Err-clause-images : goal.returns-in-Err-clause-images
returns-in-Err-clause-images c =
    let d = c.args.self.now in
    let at = c.args.at in
    let n = length c.args.bytes.now in
    let old = reverse d.steps.items in
    let new = reverse c.note_failed-in-Err.new.steps.items in
    let noted = c.note_failed-in-Err.ensures.note in
    failed_follows d.start old new (Opened at n) _ _ noted refl (torn_same at n)
