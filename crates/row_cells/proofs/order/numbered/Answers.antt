use Rattle.std.proofs.Common.{◌≡◌, length, refl, Some}
use Rattle.std.specs.Prelude.{slice_get}
use Rattle.std.proofs.lemmas.Option.{slice_get_read}
use Rattle.row_cells.proofs.SortedLaws.{more_items, more_places}
use Rattle.row_cells.proofs.order.numbered.Goals as goal

pub loop-at-preserved : goal.loop-at-preserved
loop-at-preserved g c =
    let list = c.args.list.now in
    let at = c.loop-at.at in
    let here : slice_get list at ≡ Some c.index-list-at.result = slice_get_read list (length list) at c.index-list-at.result refl c.loop-at-test.true c.index-list-at.is in
    record {
      items = more_items (λ p. p.1.now) list at c.loop-at.order.items _ _ c.in_ok-push.ensures.items here c.loop-at.invariant.items;
      places = more_places (λ p. p.1.now) list (λ p. p.0) c.loop-at.order.items _ _ c.in_ok-push.ensures.items here c.loop-at.invariant.places;
    }
