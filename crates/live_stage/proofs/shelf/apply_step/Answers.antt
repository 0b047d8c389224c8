use Rattle.std.proofs.Common.{◌∙◌, ap, subst}
use Rattle.core_ends.proofs.of_stamp_time.RangeLaws.{stamp_in_range}
use Rattle.live_stage.specs.Shelf.{IsLawfulStep}
use Rattle.core_ends.specs.table_machine.Table.{Table}
use Rattle.ttl_sweeps.proofs.SweptTables.{swept_lifetimes}
use Rattle.live_stage.proofs.shelf.apply_step.Goals as goal

pub sweep-requires : goal.sweep-requires
sweep-requires c = let has = subst IsLawfulStep c.in-Swept.is c.requires in stamp_in_range has.0 c.in-Swept.m has.1

pub returns-in-Swept-clause-lifetimes : goal.returns-in-Swept-clause-lifetimes
returns-in-Swept-clause-lifetimes c = ap (λ (t : Table). t.ttls) c.sweep.ensures.step ∙ swept_lifetimes c.in-Swept.kinds c.in-Swept.m c.args.tables.now
