-- How the program ends if no run begins.
use Rattle.busy_commands.specs.calm_commands.declared.status.Status.{Status}
use Rattle.busy_commands.specs.calm_commands.declared.status.Status.TheVariants as status
use Rattle.fleet_app.specs.declared.program.StartFault.{StartFault}
use Rattle.fleet_app.specs.declared.program.StartFault.TheVariants as fault

-- the status of a run that can't begin
abbrev pub fault_status : StartFault → Status
fault_status fault.NotUtf8 = status.Usage
fault_status fault.Memory = status.Memory
fault_status fault.QueueFile = status.QueueFault
fault_status fault.StoreFile = status.StoreFault
