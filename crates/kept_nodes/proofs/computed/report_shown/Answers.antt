use Rattle.kept_nodes.proofs.Printable.{report_moments}
use Rattle.kept_nodes.proofs.computed.report_shown.Goals as goal

pub report_hash-requires : goal.report_hash-requires
report_hash-requires c = report_moments c.args.change.now c.requires
