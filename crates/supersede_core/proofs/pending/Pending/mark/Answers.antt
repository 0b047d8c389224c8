use Rattle.std.proofs.Common.{true, sym, subst}
use Rattle.entry_tree.specs.core_spec.Pending.{NoneIsWornOut}
use Rattle.supersede_core.specs.Waiting.{AreBelow}
use Rattle.supersede_core.specs.Index.{entries}
use Rattle.supersede_core.proofs.KeptFacts.{marked_below, marked_few}
use Rattle.supersede_core.proofs.pending.Pending.mark.Goals as goal

pub returns-clause-few : goal.returns-clause-few
returns-clause-few c h = marked_few c.args.receipt true (entries c.self.inside.tree) (entries c.mark_in.new.tree) c.mark_in.ensures.marked (subst NoneIsWornOut (sym c.self.view_is) h)

pub returns-clause-below : goal.returns-clause-below
returns-clause-below c n h = marked_below c.args.receipt n true (entries c.self.inside.tree) (entries c.mark_in.new.tree) c.mark_in.ensures.marked (subst (AreBelow n) (sym c.self.view_is) h)
