use Rattle.checkpoint_spec.specs.table_spec.Cells.{catalog_object}
use Rattle.kept_nodes.proofs.ShownHashes.{is_hash}
use Rattle.kept_nodes.proofs.shown.CatalogShown.hash.Goals as goal

pub of-requires : goal.of-requires
of-requires c = is_hash c.in_ok-digits.digits (catalog_object c.args.change.now) c.in_ok-digits.ensures
