use Rattle.std.proofs.Common.{◌≡◌, ◌≢◌, ◌<◌, ◌≤◌, length, arith, sym}
use Rattle.retry_discard.proofs.DeadPlaces.{found_as, not_found_as, none_at_end}
use Rattle.retry_discard.proofs.places.dead_in.Goals as goal

pub returns-then-at-list : goal.returns-then-at-list
returns-then-at-list c =
    let past : length c.args.list.now ≤ c.place_of-at.result = grind arith in
    sym (none_at_end c.args.receipt c.place_of-at.result c.args.list.now c.place_of-at.ensures.first past)

pub returns-then-dead-receipt : goal.returns-then-dead-receipt
returns-then-dead-receipt c =
    let within = c.place_of-at.ensures.within in
    let below : c.place_of-at.result < length c.args.list.now = grind arith in
    let same : c.index-list-at.result.receipt ≡ c.args.receipt = grind arith in
    found_as c.args.receipt c.place_of-at.result c.args.list.now c.index-list-at.result c.place_of-at.ensures.first below c.index-list-at.is same

pub returns : goal.returns
returns c =
    let within = c.place_of-at.ensures.within in
    let below : c.place_of-at.result < length c.args.list.now = grind arith in
    let other : c.index-list-at.result.receipt ≢ c.args.receipt = grind arith in
    not_found_as c.args.receipt c.place_of-at.result c.args.list.now c.index-list-at.result c.requires c.place_of-at.ensures.first below c.index-list-at.is other
