use Rattle.std.proofs.Common.{◌≡◌, ◌∙◌, ap, is_ok}
use Rattle.retry_discard.specs.Kept.{place_behind}
use Rattle.retry_discard.proofs.DeadPlaces.{put_at, put_in_order}
use Rattle.retry_discard.proofs.places.put_in.Goals as goal

pub returns-clause-put : goal.returns-clause-put
returns-clause-put c =
    let ds = c.args.list.now.items in
    let at : c.place_behind-at.result ≡ place_behind c.args.dead.receipt ds = c.place_behind-at.ensures.place ∙ ap (place_behind c.args.dead.receipt) c.as_slice.ensures.value in
    put_at c.args.dead ds c.insert.new.self.items c.place_behind-at.result (is_ok c.insert.result) at (c.insert.ensures.succeeds c.requires.room) c.insert.ensures.items

pub returns-clause-order : goal.returns-clause-order
returns-clause-order c = put_in_order c.args.dead c.args.list.now.items c.insert.new.self.items (returns-clause-put c) c.requires.order
