use Rattle.std.proofs.Common.{◌∙◌, length, sym, ap}
use Rattle.checkpoint_spec.specs.table_machine.Rows.{table_rows}
use Rattle.kept_nodes.specs.Wanted.{has_own, texts_of}
use Rattle.kept_nodes.proofs.PlaceLaws.{as_many}
use Rattle.fleet_tables.proofs.lookups.Places.count.Goals as goal

pub returns : goal.returns
returns c =
    let inside = c.self.inside in
    c.sought_number.ensures ∙ sym (as_many (has_own inside.entity (texts_of inside.sought)) 0 (table_rows inside.entity inside.state.now)) ∙ ap length c.self.view_is
