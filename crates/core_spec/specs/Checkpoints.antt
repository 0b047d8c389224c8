-- The checkpoints: the records that start a compacted log and stand for a whole history.
use Rattle.std.specs.Prelude.{◌≡◌, ◌⊎◌, ℕ, List, [], ◌∷◌, ◌++◌, Option, Some, None, map, flat_map}
use Rattle.std.specs.List.{AllByRecursion}
use Rattle.std.specs.declared.cmp.Ordering.{Ordering}
use Rattle.table_spec.specs.fleet_rows.Rank.{rank_cmp}
use Rattle.table_spec.specs.fleet_rows.declared.applied.Applied.{Applied}
use Rattle.table_spec.specs.fleet_rows.declared.command.Kind.TheVariants as kind
use Rattle.table_spec.specs.fleet_rows.declared.settings.Ttls.{Ttls}
use Rattle.table_spec.specs.history_spec.Life.{life, nodes, kept_reports, greatest_expiry, greatest_retention}
use Rattle.table_spec.specs.history_spec.Node.{newest, greatest_activity, greatest_deactivation}
use Rattle.table_spec.specs.history_spec.Trace.{Trace, rank_of}
use Rattle.table_spec.specs.Sorted.{sorted_by}
use Rattle.record_spec.specs.declared.queue.QueueRecord.{QueueRecord}
use Rattle.record_spec.specs.declared.queue.QueueRecord.TheVariants as queue
use Rattle.record_spec.specs.declared.store.StoreRecord.{StoreRecord}
use Rattle.record_spec.specs.declared.store.StoreRecord.TheVariants as store
use Rattle.core_spec.specs.declared.dead.Dead.{Dead}
use Rattle.core_spec.specs.declared.entry.Entry.{Entry}
use Rattle.core_spec.specs.Discards.{dead_of}
use Rattle.core_spec.specs.History.{History, last_receipt, standing, applied, trace_of}
use Rattle.core_spec.specs.Pending.{pending_of}

-- ---- the queue's log

abbrev pub held : Entry → QueueRecord
held e = queue.Held e.receipt e.attempts e.command

abbrev pub dead : Dead → QueueRecord
dead d = queue.Dead d.receipt d.command d.cause

-- the last receipt, then the pending commands, then the discarded ones, each list sorted by receipt
abbrev pub queue_checkpoint : History → List QueueRecord
queue_checkpoint history = queue.Base (last_receipt history) ∷ (map held (pending_of history) ++ map dead (dead_of history))

-- ---- the store's log

abbrev pub settings_with : Ttls → Option ℕ → StoreRecord
settings_with ttls None = store.Settings ttls.node_days ttls.purge_days ttls.report_days
settings_with ttls (Some count) = store.Limits ttls.node_days ttls.purge_days ttls.report_days count

abbrev pub settings : Ttls → StoreRecord
settings ttls = settings_with ttls ttls.report_count

abbrev pub received : Applied → StoreRecord
received x = store.Received x.receipt x.received x.change

abbrev pub if_kept : Option Applied → List StoreRecord
if_kept None = []
if_kept (Some x) = received x ∷ []

abbrev pub by_rank : Applied → Applied → Ordering
by_rank x y = rank_cmp (rank_of x) (rank_of y)

-- a node's marks, then its newest facts, catalog, deactivation and expiration, then its kept reports by rank
abbrev pub node_records : Ttls → Trace → List ℕ → List StoreRecord
node_records ttls trace node =
    let xs = life ttls node trace in
    store.Marks (record { certname = node; active = greatest_activity xs; deactivated = greatest_deactivation xs })
    ∷ (if_kept (newest kind.Facts xs)
    ++ (if_kept (newest kind.Catalog xs)
    ++ (if_kept (newest kind.Deactivate xs)
    ++ (if_kept (newest kind.Expiration xs)
    ++ map received (sorted_by by_rank (kept_reports ttls node trace))))))

-- the lifetimes, the latest expiry and retention, the receipt applied last, and the records of each node by certname
abbrev pub store_checkpoint : Ttls → Option ℕ → Trace → List StoreRecord
store_checkpoint ttls taken trace =
    settings ttls ∷ store.Base (greatest_expiry trace) (greatest_retention trace) taken ∷ flat_map (node_records ttls trace) (nodes ttls trace)

-- None, or the receipt of some applied command
abbrev pub MayBeTaken : Option ℕ → History → Type 0
MayBeTaken None history = Unit {0}
MayBeTaken (Some r) history = standing r history ≡ applied

-- a record in the older form, without the moment at which its command was received
abbrev pub untold : StoreRecord → StoreRecord
untold (store.Received r t c) = store.Applied r c
untold other = other

abbrev pub IsUntold : StoreRecord → Type 0
IsUntold (store.Received r t c) = t ≡ None
IsUntold other = Unit {0}

-- the checkpoint itself, or the checkpoint in the older form, which tells no moments
abbrev pub IsInForm : List StoreRecord → List StoreRecord → Type 0
IsInForm records checkpoint = (records ≡ checkpoint) ⊎ ((records ≡ map untold checkpoint) × AllByRecursion IsUntold checkpoint)

abbrev pub IsStoreCheckpoint : Ttls → List StoreRecord → History → Type 0
IsStoreCheckpoint ttls records history =
    (taken : Option ℕ) × MayBeTaken taken history × IsInForm records (store_checkpoint ttls taken (trace_of history))
