-- The status for each answer of a sweep.
use Rattle.command_core.specs.core_sweeps.declared.answers.Swept.{Swept}
use Rattle.command_core.specs.core_sweeps.declared.answers.Swept.TheVariants as came
use Rattle.calm_commands.specs.declared.status.Status.{Status}
use Rattle.calm_commands.specs.declared.status.Status.TheVariants as status

-- a core that was just opened doesn't answer `Down`
abbrev pub sweep_status : Swept → Status
sweep_status came.Ok = status.Done
sweep_status came.StoreFault = status.StoreFault
sweep_status came.StoreDown = status.StoreDown
sweep_status came.Spent = status.Spent
sweep_status came.Down = status.Memory
sweep_status came.Memory = status.Memory
