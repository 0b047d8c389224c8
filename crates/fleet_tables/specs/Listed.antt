-- The lists from which tables are made, and the first steps from a list to tables.
use Rattle.std.specs.Prelude.{ℤ, Option, IfSome}
use Rattle.std.specs.List.{AllByRecursion}
use Rattle.checkpoint_spec.specs.stamp_time.Range.{IsStampMoment}
use Rattle.checkpoint_spec.specs.fleet_rows.declared.applied.Applied.{Applied}
use Rattle.checkpoint_spec.specs.fleet_rows.declared.store.Mark.{Mark}
use Rattle.checkpoint_spec.specs.fleet_rows.declared.store.StoreList.{StoreList}
use Rattle.checkpoint_spec.specs.history_spec.Lawful.{IsChange}
use Rattle.checkpoint_spec.specs.table_machine.Table.{Table}

-- sets the greatest moments of sweeps
abbrev pub with_sweeps : Option ℤ → Option ℤ → Table → Table
with_sweeps expire retain table = record table { expiry = expire; retention = retain }

-- ---- the lists from which tables are made

abbrev pub HasMoment : Mark → Type 0
HasMoment mark = IfSome mark.active IsStampMoment

abbrev pub HasLawfulChange : Applied → Type 0
HasLawfulChange x = IsChange x.change

-- the list's sweeps and greatest activities are moments with a stamp, and its changes meet their rules
pub record IsLawfulList (list : StoreList) : Type 0 where
  pub expire : IfSome list.expire IsStampMoment
  pub retain : IfSome list.retain IsStampMoment
  pub marks : AllByRecursion HasMoment list.marks
  pub changes : AllByRecursion HasLawfulChange list.applied
