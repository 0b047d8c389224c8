use Rattle.std.proofs.Common.{◌∙◌}
use Rattle.supersede_core.specs.Index.{entries}
use Rattle.supersede_core.proofs.FirstCandidates.{entry_by, queued_by}
use Rattle.supersede_core.proofs.CallLaws.{first_is}
use Rattle.supersede_core.proofs.steps.least_in.Goals as goal

pub returns-clause-least : goal.returns-clause-least
returns-clause-least c = c.first.ensures ∙ first_is (entries c.args.tree.now) c.args.tree.now c.requires.marked

pub returns-clause-entry : goal.returns-clause-entry
returns-clause-entry c = entry_by (entries c.args.tree.now) c.first.result c.requires.rises (returns-clause-least c)

pub returns-clause-queued : goal.returns-clause-queued
returns-clause-queued c = queued_by (entries c.args.tree.now) c.first.result (returns-clause-least c)
