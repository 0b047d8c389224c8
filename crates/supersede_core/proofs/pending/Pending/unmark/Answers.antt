use Rattle.std.proofs.Common.{false, sym, subst}
use Rattle.entry_tree.specs.core_spec.Pending.{NoneIsWornOut}
use Rattle.supersede_core.specs.Waiting.{AreBelow}
use Rattle.supersede_core.specs.Index.{entries}
use Rattle.supersede_core.proofs.KeptFacts.{marked_below, marked_few}
use Rattle.supersede_core.proofs.pending.Pending.unmark.Goals as goal

pub returns-clause-few : goal.returns-clause-few
returns-clause-few c h = marked_few c.args.receipt false (entries c.self.inside.tree) (entries c.unmark_in.new.tree) c.unmark_in.ensures.unmarked (subst NoneIsWornOut (sym c.self.view_is) h)

pub returns-clause-below : goal.returns-clause-below
returns-clause-below c n h = marked_below c.args.receipt n false (entries c.self.inside.tree) (entries c.unmark_in.new.tree) c.unmark_in.ensures.unmarked (subst (AreBelow n) (sym c.self.view_is) h)
