-- What the answers of a keeper mean.
use Rattle.fleet_keeper.specs.declared.kept.Kept.{Kept}
use Rattle.fleet_keeper.specs.declared.kept.Kept.TheVariants as kept

-- the answers that leave the old records
abbrev pub IsRefusal : Kept → Type 0
IsRefusal kept.Ok = ⊥
IsRefusal kept.Failed = Unit {0}
IsRefusal kept.Down = ⊥
IsRefusal kept.Memory = Unit {0}
IsRefusal kept.Spent = Unit {0}

-- the answers after a fault
abbrev pub IsFaulty : Kept → Type 0
IsFaulty kept.Ok = ⊥
IsFaulty kept.Failed = Unit {0}
IsFaulty kept.Down = Unit {0}
IsFaulty kept.Memory = ⊥
IsFaulty kept.Spent = ⊥
