use Rattle.std.proofs.Common.{◌≡◌, sym, length, refl, get_or, Some}
use Rattle.std.specs.Prelude.{slice_get}
use Rattle.std.proofs.lemmas.Option.{slice_get_read}
use Rattle.row_cells.proofs.SortedLaws.{more_picked}
use Rattle.row_cells.proofs.order.in_order.Goals as goal

pub loop-place-preserved : goal.loop-place-preserved
loop-place-preserved g c =
    let list = c.args.list.now in
    let places = c.args.places.now in
    let k = c.loop-place.place-index in
    let here : Some c.index-list-place.result ≡ slice_get list (get_or places k 0) =
    sym (slice_get_read list (length list) (get_or places k 0) c.index-list-place.result refl (c.requires k 0 c.loop-place-test.true) c.index-list-place.is) in
    more_picked (slice_get list) (λ x. Some x.now) places k c.loop-place.picked.items _ _ c.in_ok-push.ensures.items c.loop-place-test.true here c.loop-place.invariant
