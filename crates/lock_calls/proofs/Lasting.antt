-- What lasts, whatever other threads append.
use Rattle.std.proofs.Common.{List}
use mathlib.Core.List.{IsPrefix}
use Rattle.turn_lock.proofs.Prefixes.{prefix_trans}
use Rattle.lock_calls.specs.Calls.{Lasts}

-- a fact that lasts from what was seen lasts from any list that goes on from it
pub facts_last : {E : Type 0} (Q : List E → Type 0) (seen later : List E) → IsPrefix seen later → Lasts Q seen → Lasts Q later
facts_last Q seen later pre lasts final on = lasts final (prefix_trans seen later final pre on)
