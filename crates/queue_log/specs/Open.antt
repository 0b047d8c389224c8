-- The answer of opening the queue's log, as the answer of opening its pair.
use Rattle.std.specs.Prelude.{ℕ, List, Result, Ok, Err}
use Rattle.fleet_keeper.specs.log_pair.declared.pair.Pair.{Pair}
use Rattle.fleet_keeper.specs.log_pair.declared.opened.PairFault.{PairFault}
use Rattle.queue_log.specs.declared.queue.QueueLog.{QueueLog}
use Rattle.queue_log.specs.Queued.{queue_pair}

abbrev pub as_pair : {D : Type 0} → Result (QueueLog D × List (List ℕ)) (PairFault × D × D) → Result (Pair D × List (List ℕ)) (PairFault × D × D)
as_pair (Ok it) = Ok (queue_pair it.0, it.1)
as_pair (Err e) = Err e
