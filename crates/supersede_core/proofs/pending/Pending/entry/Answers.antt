use Rattle.std.proofs.Common.{◌∙◌, ap, subst}
use Rattle.supersede_core.specs.Waiting.{Rises, entry_of}
use Rattle.supersede_core.proofs.EntryTells.{stands_of, queued_of, claimed_of, tries_of, few_of}
use Rattle.supersede_core.proofs.pending.Pending.entry.Goals as goal

pub returns-clause-stands : goal.returns-clause-stands
returns-clause-stands c = stands_of c.entry_in.result c.args.receipt c.args.self.now (c.entry_in.ensures ∙ ap (entry_of c.args.receipt) c.self.view_is)

pub returns-clause-queued : goal.returns-clause-queued
returns-clause-queued c = queued_of c.entry_in.result c.args.receipt c.args.self.now (c.entry_in.ensures ∙ ap (entry_of c.args.receipt) c.self.view_is) (subst Rises c.self.view_is c.self.invariant.rises)

pub returns-clause-claimed : goal.returns-clause-claimed
returns-clause-claimed c = claimed_of c.entry_in.result c.args.receipt c.args.self.now (c.entry_in.ensures ∙ ap (entry_of c.args.receipt) c.self.view_is) (subst Rises c.self.view_is c.self.invariant.rises)

pub returns-clause-attempts : goal.returns-clause-attempts
returns-clause-attempts c = tries_of c.entry_in.result c.args.receipt c.args.self.now (c.entry_in.ensures ∙ ap (entry_of c.args.receipt) c.self.view_is)

pub returns-clause-few : goal.returns-clause-few
returns-clause-few c = few_of c.entry_in.result c.args.receipt c.args.self.now (c.entry_in.ensures ∙ ap (entry_of c.args.receipt) c.self.view_is)
