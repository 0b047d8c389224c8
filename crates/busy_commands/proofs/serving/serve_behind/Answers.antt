use Rattle.std.proofs.Common.{refl}
use Rattle.busy_commands.specs.Serving as so
use Rattle.busy_commands.proofs.serving.serve_behind.Goals as goal

pub returns-in-Done : goal.returns-in-Done
returns-in-Done g c = so.went_on c.in-Done.is c.serve_core.ensures

pub returns-in_default : goal.returns-in_default
returns-in_default g c = so.stopped c.in_default.not-Done refl c.into_disks.ensures refl
