use Rattle.std.proofs.Common.{ap}
use Rattle.live_stage.specs.core_ends.core_spec.History.{History}
use Rattle.live_stage.specs.Trace.{sweep_count}
use Rattle.stage_bench.proofs.stages.opened.Goals as goal

pub returns-in-Ok : goal.returns-in-Ok
returns-in-Ok c = ap (λ (es : History). sweep_count es) c.in-Ok.ensures.does.events
