use Rattle.checkpoint_spec.specs.history_spec.Report.{report_object}
use Rattle.kept_nodes.proofs.ShownHashes.{is_hash}
use Rattle.kept_nodes.proofs.kept.report_hash.Goals as goal

pub of-requires : goal.of-requires
of-requires c = is_hash c.in_ok-digits.digits (report_object c.args.change.now) c.in_ok-digits.ensures
