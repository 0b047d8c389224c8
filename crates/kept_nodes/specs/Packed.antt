-- The lists of a report that are kept packed.
use Rattle.std.specs.Prelude.{◌≡◌}
use Rattle.checkpoint_spec.specs.fleet_rows.declared.change.ReportChange.{ReportChange}
use Rattle.kept_nodes.specs.declared.packed.PackedLists.{PackedLists}

abbrev pub AreListsOf : PackedLists → ReportChange → Type 0
AreListsOf lists r = (lists.resources ≡ r.resources) × (lists.logs ≡ r.logs) × (lists.metrics ≡ r.metrics)
