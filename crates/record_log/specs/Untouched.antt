-- A disk that was at most read and synced, with the members of its bound as one value.
use Rattle.fleet_ports.specs.Moments.{Untouched}
use Rattle.fleet_ports.specs.declared.disk.Disk as disk

abbrev pub IsUntouched : {D : Type 0} → disk.Ghosts D → D → D → Type 0
IsUntouched d = Untouched d.seen d.may_leave d.moment d.left_since
