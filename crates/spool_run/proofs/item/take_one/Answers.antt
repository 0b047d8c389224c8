use Rattle.std.proofs.Common.{refl}
use Rattle.spool_run.specs.Steps.{refused, taken}
use Rattle.spool_run.proofs.item.take_one.Goals as goal

pub returns-in-Some : goal.returns-in-Some
returns-in-Some g c = refused c.in-Some.end refl c.in-Some.ensures

pub returns-in-None : goal.returns-in-None
returns-in-None g c = taken c.take_command.new.core c.in-None.ensures c.drain_batch.ensures
