use Rattle.std.proofs.Common.{sym, subst}
use Rattle.entry_tree.specs.core_spec.Pending.{NoneIsWornOut}
use Rattle.supersede_core.specs.Waiting.{AreBelow}
use Rattle.supersede_core.specs.Index.{entries}
use Rattle.supersede_core.proofs.KeptFacts.{counted_below, counted_few}
use Rattle.supersede_core.proofs.pending.Pending.count_failure.Goals as goal

pub returns-clause-few : goal.returns-clause-few
returns-clause-few c h = counted_few c.args.receipt c.count_failure_in.result (entries c.self.inside.tree) (entries c.count_failure_in.new.tree) c.count_failure_in.ensures.counted c.count_failure_in.ensures.attempts c.self.invariant.rises (subst NoneIsWornOut (sym c.self.view_is) h)

pub returns-clause-below : goal.returns-clause-below
returns-clause-below c n h = counted_below c.args.receipt n (entries c.self.inside.tree) (entries c.count_failure_in.new.tree) c.count_failure_in.ensures.counted (subst (AreBelow n) (sym c.self.view_is) h)
