use Rattle.std.proofs.Common.{rules}
use Rattle.turn_lock.proofs.Looks.{looks}
use Rattle.turn_lock.proofs.pass.TurnLock.count.Goals as goal

pub load-requires : goal.load-requires
load-requires g c = (search rules, search rules, looks _ _ _ _ _ _ c.pass.invariant.1)
