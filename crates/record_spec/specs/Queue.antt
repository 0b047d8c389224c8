-- The records of the queue's log, and the only encoding of each.
use Rattle.std.specs.Prelude.{ℕ, ◌^◌, ◌<◌, List, ◌∷◌, ◌++◌, length}
use Rattle.history_spec.specs.fleet_rows.declared.command.Command.{Command}
use Rattle.history_spec.specs.Lawful.{HasStamp}
use Rattle.record_spec.specs.declared.queue.QueueRecord.{QueueRecord}
use Rattle.record_spec.specs.declared.queue.QueueRecord.TheVariants as queue
use Rattle.record_spec.specs.Parts.{short_text, long_text, command_text}
use Rattle.record_spec.specs.Refusals.{refusal_bytes, cause_bytes, IsRefusal, IsCause}

abbrev pub queue_text : QueueRecord → List ℕ
queue_text (queue.Base last) = 0 ∷ long_text last
queue_text (queue.Held receipt attempts c) = 1 ∷ long_text receipt ++ (short_text attempts ++ command_text c)
queue_text (queue.Dead receipt c why) = 2 ∷ long_text receipt ++ (command_text c ++ cause_bytes why)
queue_text (queue.Submit receipt c) = 3 ∷ long_text receipt ++ command_text c
queue_text (queue.Done receipt) = 4 ∷ long_text receipt
queue_text (queue.Superseded receipt by) = 5 ∷ long_text receipt ++ long_text by
queue_text (queue.Refused receipt r) = 6 ∷ long_text receipt ++ refusal_bytes r
queue_text (queue.Fail receipt before after) = 7 ∷ long_text receipt ++ (long_text before ++ long_text after)

-- ---- the records that can be encoded

pub record IsCommand (c : Command) : Type 0 where
  pub version : c.version < 2 ^ 32
  pub received : HasStamp c.received
  pub payload : length c.payload < 2 ^ 32

abbrev pub IsReceipt : ℕ → Type 0
IsReceipt r = r < 2 ^ 64

-- its numbers fit into their bytes, and the moment of its command has a stamp
abbrev pub IsQueueRecord : QueueRecord → Type 0
IsQueueRecord (queue.Base last) = IsReceipt last
IsQueueRecord (queue.Held receipt attempts c) = IsReceipt receipt × (attempts < 16) × IsCommand c
IsQueueRecord (queue.Dead receipt c why) = IsReceipt receipt × IsCommand c × IsCause why
IsQueueRecord (queue.Submit receipt c) = IsReceipt receipt × IsCommand c
IsQueueRecord (queue.Done receipt) = IsReceipt receipt
IsQueueRecord (queue.Superseded receipt by) = IsReceipt receipt × IsReceipt by
IsQueueRecord (queue.Refused receipt r) = IsReceipt receipt × IsRefusal r
IsQueueRecord (queue.Fail receipt before after) = IsReceipt receipt × (before < 2 ^ 64) × (after < 2 ^ 64)
