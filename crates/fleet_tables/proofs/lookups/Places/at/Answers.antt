use Rattle.std.proofs.Common.{◌∙◌, ◌<◌, length, slice_get, sym, ap, subst}
use Rattle.checkpoint_spec.specs.table_machine.Rows.{table_rows}
use Rattle.kept_nodes.specs.Wanted.{has_own, texts_of}
use Rattle.kept_nodes.proofs.PlaceLaws.{as_many}
use Rattle.fleet_tables.proofs.lookups.Places.at.Goals as goal

pub sought_at-requires : goal.sought_at-requires
sought_at-requires c =
    let inside = c.self.inside in
    subst (λ n. c.args.i < n) (ap length (sym c.self.view_is) ∙ as_many (has_own inside.entity (texts_of inside.sought)) 0 (table_rows inside.entity inside.state.now)) c.requires

pub returns : goal.returns
returns c = ap (λ places. slice_get places c.args.i) (sym c.self.view_is) ∙ c.sought_at.ensures
