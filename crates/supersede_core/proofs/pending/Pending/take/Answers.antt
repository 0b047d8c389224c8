use Rattle.std.proofs.Common.{sym, subst}
use Rattle.entry_tree.specs.core_spec.Pending.{NoneIsWornOut}
use Rattle.supersede_core.specs.Waiting.{AreBelow}
use Rattle.supersede_core.specs.Index.{entries}
use Rattle.supersede_core.proofs.KeptFacts.{taken_below, taken_few}
use Rattle.supersede_core.proofs.pending.Pending.take.Goals as goal

pub returns-clause-few : goal.returns-clause-few
returns-clause-few c h = taken_few c.args.receipt (entries c.self.inside.tree) (entries c.take_from.new.tree) c.take_from.ensures.taken (subst NoneIsWornOut (sym c.self.view_is) h)

pub returns-clause-below : goal.returns-clause-below
returns-clause-below c n h = taken_below c.args.receipt n (entries c.self.inside.tree) (entries c.take_from.new.tree) c.take_from.ensures.taken (subst (AreBelow n) (sym c.self.view_is) h)
