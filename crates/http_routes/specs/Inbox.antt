-- The state of an inbox, and how a submitted command changes it.
use Rattle.std.specs.Prelude.{◌≡◌, ◌⊎◌, ℕ, ◌+◌, ◌-◌, ◌^◌, ◌<◌, ◌≤◌, Bool, true, false, List, [], ◌∷◌, ◌++◌, length}
use Rattle.routes_spec.specs.fleet_ports.Counts.{Rose}
use Rattle.routes_spec.specs.fleet_rows.declared.command.Command.{Command}
use Rattle.record_spec.specs.declared.queue.QueueRecord.TheVariants as queue
use Rattle.record_spec.specs.Queue.{queue_text}
use Rattle.fleet_rows.specs.declared.submitted.Submitted.{Submitted}
use Rattle.fleet_rows.specs.declared.submitted.Submitted.TheVariants.{Receipt, Full, QueueFault, Spent, Down, Memory}
use Rattle.fleet_rows.specs.Limits.{most_pending, most_pending_bytes}

pub record Held : Type 0 where
  pub taken : List (ℕ × Command)  -- the commands taken with their receipts, in order
  pub last : ℕ  -- the last receipt
  pub pending : ℕ  -- the number of pending commands
  pub pending_bytes : ℕ  -- the number of bytes of their payloads
  pub size : ℕ  -- the size of the log in bytes
  pub is_down : Bool
  pub faults : ℕ

-- the greatest number of commands is pending, or the command would exceed the limit on pending bytes
abbrev pub IsFull : Command → Held → Type 0
IsFull c held = (most_pending ≤ held.pending) ⊎ (most_pending_bytes < held.pending_bytes + length c.payload)

-- the record of the command under the next receipt
abbrev pub next_record : Command → Held → List ℕ
next_record c held = queue_text (queue.Submit (held.last + 1) c)

-- no receipt is left, or the record is too long for a frame, or the log would exceed 2^62 bytes
abbrev pub IsSpent : Command → Held → Type 0
IsSpent c held =
    (held.last ≡ 2 ^ 64 - 1) ⊎ ((2 ^ 32 ≤ length (next_record c held)) ⊎ (2 ^ 62 < held.size + 5 + length (next_record c held)))

-- the inbox is up and has room
pub record HasRoom (c : Command) (held : Held) : Type 0 where
  pub up : held.is_down ≡ false
  pub room : IsFull c held → ⊥

-- the command is taken under the next receipt
pub record TakesIn (c : Command) (r : ℕ) (old new : Held) : Type 0 where
  pub next : r ≡ old.last + 1
  pub taken : new.taken ≡ old.taken ++ (r, c) ∷ []
  pub last : new.last ≡ r
  pub pending : new.pending ≡ old.pending + 1
  pub pending_bytes : new.pending_bytes ≡ old.pending_bytes + length c.payload
  pub size : new.size ≡ old.size + 5 + length (next_record c old)
  pub up : new.is_down ≡ old.is_down
  pub calm : new.faults ≡ old.faults

-- no command is taken, and a fault is counted
pub record Faults (old new : Held) : Type 0 where
  pub taken : new.taken ≡ old.taken
  pub last : new.last ≡ old.last
  pub pending : new.pending ≡ old.pending
  pub pending_bytes : new.pending_bytes ≡ old.pending_bytes
  pub size : new.size ≡ old.size
  pub rose : Rose old.faults new.faults
  pub later : old.faults ≤ new.faults

-- the answer to a submitted command, and the state after it. The inbox checks in this order whether it is down, full or spent
abbrev pub IsSubmit : Command → Submitted → Held → Held → Type 0
IsSubmit c (Receipt r) old new = HasRoom c old × (IsSpent c old → ⊥) × TakesIn c r old new
IsSubmit c Full old new = (old.is_down ≡ false) × IsFull c old × (new ≡ old)
IsSubmit c QueueFault old new = HasRoom c old × (IsSpent c old → ⊥) × Faults old new
IsSubmit c Spent old new = HasRoom c old × IsSpent c old × (new ≡ old)
IsSubmit c Down old new = (old.is_down ≡ true) × (new ≡ old)
IsSubmit c Memory old new = HasRoom c old × (new ≡ old)

-- one step of the inbox: it agrees with `IsSubmit` and with the inbox's own description
abbrev pub Takes : {H : Type 0} → (H → Held) → (Command → Submitted → H → H → Type 0) → Command → Submitted → H → H → Type 0
Takes held does c s old new = IsSubmit c s (held old) (held new) × does c s old new
