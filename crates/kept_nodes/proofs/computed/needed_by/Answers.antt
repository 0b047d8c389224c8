use Rattle.std.proofs.Common.{subst}
use Rattle.checkpoint_spec.specs.history_spec.Lawful.{IsChange}
use Rattle.kept_nodes.proofs.computed.needed_by.Goals as goal

pub report_needed-requires : goal.report_needed-requires
report_needed-requires c = subst IsChange c.in-Report.is c.requires
