-- Which answers of the core end the work, and how.
use Rattle.std.specs.Prelude.{Option, Some, None}
use Rattle.command_core.specs.core_claims.declared.answers.Claimed.{Claimed}
use Rattle.command_core.specs.core_claims.declared.answers.Claimed.TheVariants as claimed
use Rattle.command_core.specs.core_settles.declared.answers.Settled.{Settled}
use Rattle.command_core.specs.core_settles.declared.answers.Settled.TheVariants as settled
use Rattle.core_ends.specs.declared.ends.WorkEnd.{WorkEnd}
use Rattle.core_ends.specs.declared.ends.WorkEnd.TheVariants as end

-- None if the work may go on
abbrev pub after_settle : Settled → Option WorkEnd
after_settle settled.Applied = None
after_settle settled.Discarded = None
after_settle (settled.Failed attempts) = None
after_settle settled.StoreDown = Some end.StoreDown
after_settle settled.QueueFault = Some end.QueueFault
after_settle settled.NotClaimed = None
after_settle settled.Spent = Some end.Spent
after_settle settled.Down = Some end.Down
after_settle (settled.Memory job v) = Some end.Memory

abbrev pub after_claim : Claimed → Option WorkEnd
after_claim (claimed.Job job) = None
after_claim claimed.Rest = None
after_claim claimed.Done = Some end.Done
after_claim claimed.QueueFault = Some end.QueueFault
after_claim claimed.Spent = Some end.Spent
after_claim claimed.Down = Some end.Down
after_claim claimed.Memory = Some end.Memory
