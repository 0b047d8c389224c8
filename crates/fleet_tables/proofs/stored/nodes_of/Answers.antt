use Rattle.std.proofs.Common.{◌≡◌, ◌∙◌, ◌<◌, length, refl, sym, ap, Some, arith}
use Rattle.std.specs.Prelude.{slice_get}
use Rattle.std.proofs.lemmas.Option.{slice_get_read}
use Rattle.row_cells.proofs.SortedLaws.{more_items}
use Rattle.kept_nodes.specs.Places.{seen_in}
use Rattle.fleet_tables.proofs.stored.nodes_of.Goals as goal

pub loop-at-preserved : goal.loop-at-preserved
loop-at-preserved c =
    let groups = c.args.groups.now in
    let at = c.loop-at.at in
    let within : at < length groups = omega arith in
    let here : slice_get groups at ≡ Some (seen_in c.stored_nodes.result.now) =
    slice_get_read groups (length groups) at c.index-groups-at.result refl within c.index-groups-at.is ∙ ap Some (sym c.stored_nodes.ensures) in
    more_items (λ nodes. seen_in nodes.now) groups at c.loop-at.lists.items _ _ c.in_ok-push.ensures.items here c.loop-at.invariant
