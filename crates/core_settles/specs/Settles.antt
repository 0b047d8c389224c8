-- What settling a command does.
use Rattle.std.specs.Prelude.{◌≡◌, ◌≢◌, ◌⊎◌, ℕ, ◌+◌, ◌<◌, ◌≤◌, Bool, true, false, List, [], ◌∷◌, length, Option, Some, None, Ok, Err, IsTrue}
use Rattle.core_claims.specs.fleet_keeper.declared.keeper.Keeper as keeper
use Rattle.core_claims.specs.fleet_ports.Counts.{Rose, RoseBy}
use Rattle.core_claims.specs.fleet_rows.declared.command.Command.{Command}
use Rattle.core_claims.specs.fleet_rows.declared.refusal.Cause.TheVariants as cause
use Rattle.core_claims.specs.fleet_rows.declared.settings.Ttls.{Ttls}
use Rattle.core_claims.specs.record_spec.declared.queue.QueueRecord.{QueueRecord}
use Rattle.core_claims.specs.record_spec.declared.queue.QueueRecord.TheVariants as queue
use Rattle.core_claims.specs.record_spec.declared.store.StoreRecord.{StoreRecord}
use Rattle.core_claims.specs.record_spec.declared.store.StoreRecord.TheVariants as store
use Rattle.core_claims.specs.record_spec.Queue.{queue_text}
use Rattle.core_claims.specs.record_spec.Store.{store_text}
use Rattle.core_claims.specs.fleet_keeper.Limits.{IsPast}
use Rattle.core_claims.specs.fleet_keeper.Records.{with_one}
use Rattle.core_claims.specs.core_spec.declared.event.Event.TheVariants.{Release, Apply, Fail, Discard}
use Rattle.core_claims.specs.core_spec.Commands.{answer_of}
use Rattle.core_claims.specs.core_spec.History.{History, claimed, standing, fails}
use Rattle.core_claims.specs.queue_log.declared.queue.QueueLog.{QueueLog}
use Rattle.core_claims.specs.queue_log.Queued.{queued, queue_down, queue_size}
use Rattle.core_claims.specs.declared.job.Job.{Job}
use Rattle.core_claims.specs.core_state.declared.state.CoreState.{CoreState}
use Rattle.core_claims.specs.core_state.Changes.{CoreStays}
use Rattle.core_claims.specs.core_state.StandsFor.{StandsAt}
use Rattle.core_settles.specs.declared.answers.Settled.{Settled}
use Rattle.core_settles.specs.declared.answers.Settled.TheVariants as settled
use Rattle.core_settles.specs.declared.answers.Verdict.{Verdict}
use Rattle.core_settles.specs.declared.answers.Verdict.TheVariants as verdict
use Rattle.core_claims.specs.core_state.log_spec.Limits.{most_log}

-- the worker's verdict is what the command decodes to
abbrev pub IsVerdictOf : Verdict → Command → Type 0
IsVerdictOf (verdict.Change change) c = answer_of c ≡ Ok change
IsVerdictOf (verdict.Refused refusal) c = answer_of c ≡ Err refusal

-- What each answer means in the history. The arguments are the store's fault counts before and after, and whether the core is
-- down.
abbrev pub SettleGives : Settled → Job → Verdict → ℕ → ℕ → Bool → History → History → Type 0
SettleGives settled.Applied job (verdict.Change change) before now down old new = new ≡ Apply job.receipt (Some job.command.received) ∷ old
SettleGives settled.Applied job (verdict.Refused refusal) before now down old new = ⊥
SettleGives settled.Discarded job (verdict.Change change) before now down old new = new ≡ Discard job.receipt cause.Failures ∷ Fail job.receipt before now ∷ old
SettleGives settled.Discarded job (verdict.Refused refusal) before now down old new = new ≡ Discard job.receipt (cause.Refused refusal) ∷ old
SettleGives (settled.Failed attempts) job (verdict.Change change) before now down old new = (new ≡ Fail job.receipt before now ∷ old) × (attempts ≡ fails job.receipt new) × (attempts < 16)
SettleGives (settled.Failed attempts) job (verdict.Refused refusal) before now down old new = ⊥
SettleGives settled.StoreDown job (verdict.Change change) before now down old new = new ≡ old
SettleGives settled.StoreDown job (verdict.Refused refusal) before now down old new = ⊥
-- the store has the change and the queue has no Done; or the store failed, and then the queue did
SettleGives settled.QueueFault job (verdict.Change change) before now down old new =
    ((now ≡ before) × (down ≡ true) × (new ≡ Apply job.receipt (Some job.command.received) ∷ old))
    ⊎ (Rose before now × (((down ≡ false) × (new ≡ Release job.receipt ∷ old)) ⊎ ((down ≡ true) × (new ≡ old))))
SettleGives settled.QueueFault job (verdict.Refused refusal) before now down old new = ((down ≡ false) × (new ≡ Release job.receipt ∷ old)) ⊎ ((down ≡ true) × (new ≡ old))
SettleGives settled.NotClaimed job v before now down old new = (standing job.receipt old ≢ claimed) × (new ≡ old)
SettleGives settled.Spent job v before now down old new = new ≡ Release job.receipt ∷ old
SettleGives settled.Down job v before now down old new = new ≡ old
SettleGives (settled.Memory given w) job v before now down old new = (given ≡ job) × (w ≡ v) × (new ≡ old)

-- the events of a record being written, given the store's fault counts before and after
abbrev pub IsSettling : Job → Verdict → ℕ → ℕ → History → History → Type 0
IsSettling job (verdict.Change change) before now upto begun =
    (begun ≡ Apply job.receipt (Some job.command.received) ∷ [])
    ⊎ (begun ≡ Fail job.receipt before now ∷ [])
    ⊎ (begun ≡ Discard job.receipt cause.Failures ∷ Fail job.receipt before now ∷ [])
IsSettling job (verdict.Refused refusal) before now upto begun = begun ≡ Discard job.receipt (cause.Refused refusal) ∷ []

-- The store's log has no room for the change, or the queue's has none for the record of a failure. For a refusal, the queue's log
-- has no room for its record.
abbrev pub IsSpent : {D K : Type 0} → (K → ℕ) → Job → Verdict → CoreState D K → Type 0
IsSpent size job (verdict.Change change) core =
    IsPast (size core.store) (store_text (store.Received job.receipt (Some job.command.received) change)) ⊎ (most_log < queue_size core.queue + 5 + 25)
IsSpent size job (verdict.Refused refusal) core = IsPast (queue_size core.queue) (queue_text (queue.Refused job.receipt refusal))

-- The store's fault count rose if the store failed, and by two if it went down. Otherwise it is unchanged. It may also rise
-- before a fault of the queue, after which the answer is QueueFault.
abbrev pub StoreRose : Settled → Verdict → ℕ → ℕ → Type 0
StoreRose _ (verdict.Refused refusal) before now = now ≡ before
StoreRose settled.Discarded (verdict.Change change) before now = Rose before now
StoreRose (settled.Failed attempts) (verdict.Change change) before now = Rose before now
StoreRose settled.StoreDown (verdict.Change change) before now = RoseBy 2 before now
StoreRose settled.QueueFault (verdict.Change change) before now = before ≤ now
StoreRose settled.Applied (verdict.Change change) before now = now ≡ before
StoreRose settled.NotClaimed (verdict.Change change) before now = now ≡ before
StoreRose settled.Spent (verdict.Change change) before now = now ≡ before
StoreRose settled.Down (verdict.Change change) before now = now ≡ before
StoreRose (settled.Memory given w) (verdict.Change change) before now = now ≡ before

-- the events that a settle adds, by its own data
abbrev pub settled_events : Settled → Job → Verdict → ℕ → ℕ → Bool → Bool → History
settled_events settled.Applied job v before now undone down = Apply job.receipt (Some job.command.received) ∷ []
settled_events settled.Discarded job (verdict.Change change) before now undone down = Discard job.receipt cause.Failures ∷ Fail job.receipt before now ∷ []
settled_events settled.Discarded job (verdict.Refused refusal) before now undone down = Discard job.receipt (cause.Refused refusal) ∷ []
settled_events (settled.Failed attempts) job v before now undone down = Fail job.receipt before now ∷ []
settled_events settled.QueueFault job v before now true down = Apply job.receipt (Some job.command.received) ∷ []
settled_events settled.QueueFault job v before now false true = []
settled_events settled.QueueFault job v before now false false = Release job.receipt ∷ []
settled_events settled.Spent job v before now undone down = Release job.receipt ∷ []
settled_events _ job v before now undone down = []

-- What each answer leaves unchanged. Spent comes if a log has no room, and then none was written. Without memory nothing changes,
-- and the job and its verdict are handed back.
abbrev pub SettleLeaves : {D K : Type 0} → (K → ℕ) → Settled → Job → Verdict → CoreState D K → CoreState D K → Type 0
SettleLeaves size settled.Down job v old new = new ≡ old
SettleLeaves size settled.NotClaimed job v old new = new ≡ old
SettleLeaves size settled.Spent job v old new = IsSpent size job v old × (new.queue ≡ old.queue) × (new.store ≡ old.store)
SettleLeaves size (settled.Memory given w) job v old new = (given ≡ job) × (w ≡ v) × CoreStays old new
SettleLeaves size settled.StoreDown job v old new = new.queue ≡ old.queue
SettleLeaves size _ job v old new = Unit {0}

-- The answers at which the command is still pending. At QueueFault it is, unless it was applied and lacks its Done.
abbrev pub LeavesPending : Settled → Bool → Type 0
LeavesPending (settled.Failed attempts) undone = Unit {0}
LeavesPending settled.StoreDown undone = Unit {0}
LeavesPending settled.QueueFault undone = undone ≡ false
LeavesPending settled.Spent undone = Unit {0}
LeavesPending (settled.Memory given w) undone = Unit {0}
LeavesPending _ undone = ⊥

-- What an image of both logs stands for, if the core went down by the store or for want of a Done. At StoreDown it may include the
-- change of the command. If the Done is missing, the command is applied in each image.
abbrev pub SettleImage : Settled → Bool → Job → Ttls → History → Option (List QueueRecord) → Option (List StoreRecord) → Type 0
SettleImage settled.StoreDown undone job ttls now q s = StandsAt ttls q s now ⊎ StandsAt ttls q s (Apply job.receipt (Some job.command.received) ∷ now)
SettleImage settled.QueueFault true job ttls now q s = StandsAt ttls q s now
SettleImage _ undone job ttls now q s = Unit {0}

-- the record that a settle writes to the queue
abbrev pub queue_record : Settled → Job → Verdict → ℕ → ℕ → Option QueueRecord
queue_record settled.Applied job v before now = Some (queue.Done job.receipt)
queue_record settled.Discarded job (verdict.Change change) before now = Some (queue.Fail job.receipt before now)
queue_record settled.Discarded job (verdict.Refused refusal) before now = Some (queue.Refused job.receipt refusal)
queue_record (settled.Failed attempts) job v before now = Some (queue.Fail job.receipt before now)
queue_record _ job v before now = None

-- If there is a record, it is at the end of the log, which grew by its frame and has at most 2^62 bytes. Otherwise the log's size is
-- unchanged, and so are its records, if the log isn't down.
abbrev pub QueueWrites : {D : Type 0} → Bool → (D → List ℕ) → Option QueueRecord → QueueLog D → QueueLog D → Type 0
QueueWrites tells seen (Some rec) old new = (queue_size new ≡ queue_size old + 5 + length (queue_text rec)) × (IsTrue tells → queued seen new ≡ with_one (queued seen old) rec) × (queue_size new ≤ most_log)
QueueWrites tells seen None old new = (queue_size new ≡ queue_size old) × (queue_down new ≡ false → IsTrue tells → queued seen new ≡ queued seen old)

-- If the command is applied, the store has the change at its end, in a log of at most 2^62 bytes. Otherwise the store's records are
-- unchanged, if it isn't down.
abbrev pub StoreWrites : {K : Type 0} → Bool → (K → Option (List StoreRecord)) → (K → Bool) → (K → ℕ) → Bool → Job → Verdict → K → K → Type 0
StoreWrites tells kept down size true job (verdict.Change change) old new =
    (size new ≡ size old + 5 + length (store_text (store.Received job.receipt (Some job.command.received) change)))
    × (IsTrue tells → kept new ≡ with_one (kept old) (store.Received job.receipt (Some job.command.received) change)) × (size new ≤ most_log)
StoreWrites tells kept down size true job (verdict.Refused refusal) old new = ⊥
StoreWrites tells kept down size false job v old new = (size new ≡ size old) × (down new ≡ false → IsTrue tells → kept new ≡ kept old)

-- the same, with the ghosts of the trait as one value
abbrev pub SettleWrites : {K : Type 0} → keeper.Ghosts K → Bool → Job → Verdict → K → K → Type 0
SettleWrites k = StoreWrites k.is_told k.kept k.down k.size

-- whether a settle applied its command
abbrev pub is_applied : Settled → Bool → Bool
is_applied settled.Applied undone = true
is_applied settled.QueueFault undone = undone
is_applied _ undone = false

abbrev pub IsMemory : Settled → Type 0
IsMemory (settled.Memory given w) = Unit {0}
IsMemory _ = ⊥
