use Rattle.std.proofs.Common.{◌∙◌, ◌-◌, ◌^◌, min, ap}
use Rattle.supersede_core.specs.Waiting.{payload_bytes}
use Rattle.supersede_core.proofs.CallLaws.{bytes_entries}
use Rattle.supersede_core.proofs.pending.Pending.size.Goals as goal

pub returns : goal.returns
returns c = c.size.ensures ∙ ap (λ n. min n (2 ^ 64 - 1)) (bytes_entries c.self.inside.tree ∙ ap payload_bytes c.self.view_is)
