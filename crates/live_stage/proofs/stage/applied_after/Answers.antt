use Rattle.std.proofs.Common.{◌∙◌, sym, ap}
use Rattle.core_ends.specs.core_settles.declared.answers.Settled.{Settled}
use Rattle.core_ends.specs.core_state.Seen.{events_of}
use Rattle.live_stage.specs.Trace.{applied_then}
use Rattle.live_stage.proofs.Counts.{tallied}
use Rattle.live_stage.proofs.stage.applied_after.Goals as goal

pub returns-in-QueueFault : goal.returns-in-QueueFault
returns-in-QueueFault g c =
    ap (λ t. t.applied) c.tally.ensures
    ∙ (tallied (events_of c.args.core.now) ∙ sym (ap (λ (came : Settled). applied_then came c.args.applied (events_of c.args.core.now)) c.in-QueueFault.is))
