use Rattle.std.proofs.Common.{◌∙◌, ap}
use Rattle.supersede_core.specs.Waiting.{queued_number}
use Rattle.supersede_core.proofs.CallLaws.{queued_entries}
use Rattle.supersede_core.proofs.pending.Pending.queued.Goals as goal

pub returns : goal.returns
returns c = c.queued.ensures ∙ queued_entries c.self.inside.tree ∙ ap queued_number c.self.view_is
