use Rattle.std.proofs.Common.{subst}
use Rattle.checkpoint_spec.specs.history_spec.Lawful.{IsChange}
use Rattle.kept_nodes.proofs.Printable.{facts_moment, catalog_moment}
use Rattle.kept_nodes.proofs.computed.shown_by.Goals as goal

pub of-requires : goal.of-requires
of-requires c = facts_moment c.in-Facts.change (subst IsChange c.in-Facts.is c.requires)

pub of-requires-in-Catalog : goal.of-requires-in-Catalog
of-requires-in-Catalog c = catalog_moment c.in-Catalog.change (subst IsChange c.in-Catalog.is c.requires)

pub report_shown-requires : goal.report_shown-requires
report_shown-requires c = subst IsChange c.in-Report.is c.requires
