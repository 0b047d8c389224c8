-- What the records of the two logs tell about the histories that they stand for.
use Rattle.std.specs.Prelude.{◌≡◌, ◌↔◌, ℕ, List, [], ◌∷◌, map, Some}
use Rattle.std.specs.List.{Contains}
use Rattle.core_machine.specs.fleet_rows.declared.settings.Ttls.{Ttls}
use Rattle.core_machine.specs.record_spec.declared.queue.QueueRecord.{QueueRecord}
use Rattle.core_machine.specs.record_spec.declared.store.StoreRecord.{StoreRecord}
use Rattle.core_machine.specs.core_spec.declared.entry.Entry.{Entry}
use Rattle.core_machine.specs.core_spec.declared.event.Event.TheVariants.{Restart}
use Rattle.core_machine.specs.core_spec.Discards.{dead_of}
use Rattle.core_machine.specs.core_spec.History.{History, last_receipt, trace_of}
use Rattle.core_machine.specs.core_spec.Legal.{IsLegal}
use Rattle.core_machine.specs.core_spec.Pending.{pending_of, NoneIsWornOut}
use Rattle.core_machine.specs.core_spec.Stands.{QueueTells, StoreTells, last_taken, MissesDone, GivesUpAtOnce, Stands}
use Rattle.core_laws.specs.Replay.{pending_after, dead_after, last_after, trace_after}

-- ---- record by record

-- replaying the queue's records gives the commands that are pending after a restart
abbrev pub RecordsLeadToThePending : Type 0
RecordsLeadToThePending =
    (ttls : Ttls) (records : List QueueRecord) (history : History) → IsLegal ttls history → NoneIsWornOut (pending_of history) → QueueTells records history
    → pending_after records [] ≡ pending_of (Restart ∷ history)

-- replaying the queue's records gives the last receipt
abbrev pub RecordsLeadToTheLastReceipt : Type 0
RecordsLeadToTheLastReceipt = (records : List QueueRecord) (history : History) → QueueTells records history → last_after records 0 ≡ last_receipt history

-- replaying the queue's records gives the discarded commands, if each sixteenth failure discards at once
abbrev pub RecordsLeadToTheDiscards : Type 0
RecordsLeadToTheDiscards =
    (ttls : Ttls) (records : List QueueRecord) (history : History) → IsLegal ttls history → NoneIsWornOut (pending_of history) → GivesUpAtOnce history → QueueTells records history
    → dead_after records [] [] ≡ dead_of history

-- replaying the store's records gives the trace, if they start with the checkpoint of the empty history
abbrev pub RecordsLeadToTheTrace : Type 0
RecordsLeadToTheTrace =
    (ttls : Ttls) (records : List StoreRecord) (history : History) (tells : StoreTells ttls records history) → tells.upto ≡ [] → trace_after records [] ≡ trace_of history

-- ---- the Done that may be missing

-- the queue misses a Done exactly if the receipt that the store applied last is still pending in it
abbrev pub TheMissingDoneIsTold : Type 0
TheMissingDoneIsTold =
    (ttls : Ttls) (queued : List QueueRecord) (kept : List StoreRecord) (history : History) → Stands ttls queued kept history
    → MissesDone queued kept history
    ↔ ((r : ℕ) × (last_taken kept ≡ Some r) × Contains (map (λ (e : Entry). e.receipt) (pending_after queued [])) r)

-- ---- histories of the same records

pub record TellAlike (history other : History) : Type 0 where
  pub pending : pending_of (Restart ∷ history) ≡ pending_of (Restart ∷ other)
  pub last : last_receipt history ≡ last_receipt other
  pub dead : dead_of history ≡ dead_of other

-- Two histories of the same records agree on the commands pending after a restart, the last receipt and the discarded commands.
abbrev pub TheSameRecordsTellAlike : Type 0
TheSameRecordsTellAlike =
    (ttls : Ttls) (queued : List QueueRecord) (kept : List StoreRecord) (history other : History) → Stands ttls queued kept history → Stands ttls queued kept other
    → TellAlike history other

-- and they have the same trace, if the store's checkpoint is that of the empty history for both
abbrev pub TheSameRecordsTellOneTrace : Type 0
TheSameRecordsTellOneTrace =
    (ttls : Ttls) (queued : List QueueRecord) (kept : List StoreRecord) (history other : History)
    (stands : Stands ttls queued kept history) (stand : Stands ttls queued kept other) → stands.store.upto ≡ [] → stand.store.upto ≡ []
    → trace_of history ≡ trace_of other
