use Rattle.std.proofs.Common.{◌≤◌, ◌-◌, ◌+◌, subst}
use Rattle.std.specs.Vec.{vec_len, vec_capacity}
use Rattle.retry_discard.specs.Kept.{DiscardsView}
use Rattle.retry_discard.proofs.discards.Discards.put.Goals as goal

pub returns-clause-room : goal.returns-clause-room
returns-clause-room c = subst (λ (k : DiscardsView). k.room ≤ vec_capacity c.put_in.new.list - vec_len c.put_in.new.list + 1) c.self.view_is c.put_in.ensures.room
