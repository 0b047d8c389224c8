use Rattle.std.proofs.Common.{subst}
use Rattle.core_state.specs.record_spec.Store.{IsStoreRecord}
use Rattle.core_opening.proofs.Fills.{moment_named}
use Rattle.ttl_sweeps.proofs.of_stamp_time.RangeLaws.{stamp_in_range}
use Rattle.core_opening.proofs.fill.step.Goals as goal

pub set_sweeps-requires-clause-expire : goal.set_sweeps-requires-clause-expire
set_sweeps-requires-clause-expire c = let named = subst IsStoreRecord c.in-Base.is c.requires in moment_named c.in-Base.expire named.0

pub set_sweeps-requires-clause-retain : goal.set_sweeps-requires-clause-retain
set_sweeps-requires-clause-retain c = let named = subst IsStoreRecord c.in-Base.is c.requires in moment_named c.in-Base.retain named.1

pub mark-requires : goal.mark-requires
mark-requires c = let named = subst IsStoreRecord c.in-Marks.is c.requires in moment_named c.in-Marks.mark.active named.1

pub sweep-requires : goal.sweep-requires
sweep-requires c = let named = subst IsStoreRecord c.in-Swept.is c.requires in stamp_in_range named.0 c.in-Swept.m named.1
