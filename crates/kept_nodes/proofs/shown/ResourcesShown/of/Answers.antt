use Rattle.std.proofs.Common.{◌∙◌}
use Rattle.checkpoint_spec.specs.table_spec.Cells.{resource_object}
use Rattle.checkpoint_spec.specs.table_spec.Sorted.{resource_cmp, sorted_by}
use Rattle.kept_nodes.proofs.ShownHashes.{are_hashes}
use Rattle.kept_nodes.proofs.shown.ResourcesShown.of.Goals as goal

pub packed-requires : goal.packed-requires
packed-requires c =
    are_hashes resource_object (sorted_by resource_cmp c.args.resources.now) c.as_slice-3.result.now (c.as_slice-3.ensures.value ∙ c.in_ok-hashes.ensures)
