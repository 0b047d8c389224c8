use Rattle.row_cells.specs.Placed.{member_at}
use Rattle.row_cells.proofs.SortedLaws.{more_items, more_places}
use Rattle.row_cells.proofs.order.numbered_members.Goals as goal

pub loop-at-preserved : goal.loop-at-preserved
loop-at-preserved c = record {
  items = more_items member_at c.args.members.now c.loop-at.at c.loop-at.order.items _ _ c.in_ok-push.ensures.items c.pair.ensures.pair c.loop-at.invariant.items;
  places = more_places member_at c.args.members.now (λ p. p.0) c.loop-at.order.items _ _ c.in_ok-push.ensures.items c.pair.ensures.pair c.loop-at.invariant.places;
}
