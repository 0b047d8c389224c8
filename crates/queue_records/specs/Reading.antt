-- A reader of the queue's records, from left to right. The laws tie it to the encoding.
use Rattle.std.specs.Prelude.{ℕ, zero, suc, List, [], ◌∷◌, Option, Some, None, nat_lt, if◌then◌else◌, slice_get}
use Rattle.std.specs.Option.{option_map}
use Rattle.std.specs.Int.{w32, w64}
use Rattle.record_fields.specs.fleet_rows.declared.command.Command.{Command}
use Rattle.record_fields.specs.fleet_rows.declared.refusal.Field.{Field}
use Rattle.record_fields.specs.fleet_rows.declared.refusal.Place.{Place}
use Rattle.record_fields.specs.fleet_rows.declared.refusal.Refusal.{Refusal}
use Rattle.record_fields.specs.fleet_rows.declared.refusal.Refusal.TheVariants as refusal
use Rattle.record_fields.specs.fleet_rows.declared.refusal.Cause.{Cause}
use Rattle.record_fields.specs.fleet_rows.declared.refusal.Cause.TheVariants as cause
use Rattle.record_fields.specs.record_spec.declared.queue.QueueRecord.{QueueRecord}
use Rattle.record_fields.specs.record_spec.declared.queue.QueueRecord.TheVariants as queue
use Rattle.record_fields.specs.record_spec.Refusals.{fields}
use Rattle.record_fields.specs.Reading.{◌>>=◌, Reader, read_as, ended, number_at, bytes_at, kind_at, moment_at, optional_at}

-- ---- commands

unfoldable pub command_at : Reader Command
command_at bytes = do
  k ← kind_at bytes
  version ← number_at w32 k.1
  received ← moment_at version.1
  payload ← bytes_at received.1
  Some (record { kind = k.0; version = version.0; received = received.0; payload = payload.0 }, payload.1)

-- ---- refusals

abbrev pub with_rest : List ℕ → Option Field → Option (Field × List ℕ)
with_rest rest None = None
with_rest rest (Some f) = Some (f, rest)

abbrev pub field_at : Reader Field
field_at [] = None
field_at (number ∷ rest) = with_rest rest (slice_get fields number)

unfoldable pub place_at : Reader Place
place_at bytes = do
  f ← field_at bytes
  outer ← optional_at (number_at w32) f.1
  inner ← optional_at (number_at w32) outer.1
  Some (record { field = f.0; outer = outer.0; inner = inner.0 }, inner.1)

unfoldable pub refusal_at : Reader Refusal
refusal_at [] = None
refusal_at (zero ∷ rest) = Some (refusal.BadVersion, rest)
refusal_at (suc zero ∷ rest) = read_as refusal.NotJson (number_at w64) rest
refusal_at (suc (suc zero) ∷ rest) = read_as refusal.TooDeep (number_at w64) rest
refusal_at (suc (suc (suc zero)) ∷ rest) = Some (refusal.NotObject, rest)
refusal_at (suc (suc (suc (suc zero))) ∷ rest) = read_as refusal.Missing place_at rest
refusal_at (suc (suc (suc (suc (suc zero)))) ∷ rest) = read_as refusal.Wrong place_at rest
refusal_at (suc (suc (suc (suc (suc (suc zero))))) ∷ rest) = read_as refusal.BadStamp place_at rest
refusal_at (suc (suc (suc (suc (suc (suc (suc zero)))))) ∷ rest) = read_as refusal.DuplicateResource (number_at w32) rest
refusal_at (suc (suc (suc (suc (suc (suc (suc (suc zero))))))) ∷ rest) = read_as refusal.BadRelationship (number_at w32) rest
refusal_at (suc (suc (suc (suc (suc (suc (suc (suc (suc tag)))))))) ∷ rest) = None

unfoldable pub cause_at : Reader Cause
cause_at [] = None
cause_at (zero ∷ rest) = read_as cause.Refused refusal_at rest
cause_at (suc zero ∷ rest) = Some (cause.Failures, rest)
cause_at (suc (suc tag) ∷ rest) = None

-- ---- records

unfoldable pub alone_at : List ℕ → Option ℕ
alone_at bytes = do
  a ← number_at w64 bytes
  ended a.0 a.1

unfoldable pub held_at : List ℕ → Option QueueRecord
held_at bytes = do
  receipt ← number_at w64 bytes
  attempts ← number_at w32 receipt.1
  if nat_lt attempts.0 16 then (command_at attempts.1 >>= λ c. ended (queue.Held receipt.0 attempts.0 c.0) c.1) else None

unfoldable pub dead_at : List ℕ → Option QueueRecord
dead_at bytes = do
  receipt ← number_at w64 bytes
  c ← command_at receipt.1
  why ← cause_at c.1
  ended (queue.Dead receipt.0 c.0 why.0) why.1

unfoldable pub submit_at : List ℕ → Option QueueRecord
submit_at bytes = do
  receipt ← number_at w64 bytes
  c ← command_at receipt.1
  ended (queue.Submit receipt.0 c.0) c.1

unfoldable pub superseded_at : List ℕ → Option QueueRecord
superseded_at bytes = do
  receipt ← number_at w64 bytes
  by ← number_at w64 receipt.1
  ended (queue.Superseded receipt.0 by.0) by.1

unfoldable pub refused_at : List ℕ → Option QueueRecord
refused_at bytes = do
  receipt ← number_at w64 bytes
  r ← refusal_at receipt.1
  ended (queue.Refused receipt.0 r.0) r.1

unfoldable pub fail_at : List ℕ → Option QueueRecord
fail_at bytes = do
  receipt ← number_at w64 bytes
  before ← number_at w64 receipt.1
  after ← number_at w64 before.1
  ended (queue.Fail receipt.0 before.0 after.0) after.1

-- the record that all of the bytes encode
unfoldable pub queue_at : List ℕ → Option QueueRecord
queue_at [] = None
queue_at (zero ∷ rest) = option_map queue.Base (alone_at rest)
queue_at (suc zero ∷ rest) = held_at rest
queue_at (suc (suc zero) ∷ rest) = dead_at rest
queue_at (suc (suc (suc zero)) ∷ rest) = submit_at rest
queue_at (suc (suc (suc (suc zero))) ∷ rest) = option_map queue.Done (alone_at rest)
queue_at (suc (suc (suc (suc (suc zero)))) ∷ rest) = superseded_at rest
queue_at (suc (suc (suc (suc (suc (suc zero))))) ∷ rest) = refused_at rest
queue_at (suc (suc (suc (suc (suc (suc (suc zero)))))) ∷ rest) = fail_at rest
queue_at (suc (suc (suc (suc (suc (suc (suc (suc tag))))))) ∷ rest) = None
