-- What the disks stand for behind an opening, and what the core does.
use Rattle.std.proofs.Common.{◌≡◌, ◌∙◌, ⊎_elim, ℕ, ◌≤◌, List, [], ◌∷◌, ◌++◌, refl, sym, ap, subst, Bool, true, false, Some}
use Rattle.query_answer.proofs.of_plain_laws.Options.{some_is}
use Rattle.query_answer.specs.fleet_ports.declared.disk.Disks.{Disks}
use Rattle.query_answer.specs.fleet_rows.declared.settings.Ttls.{Ttls}
use Rattle.command_core.specs.record_spec.declared.queue.QueueRecord.{QueueRecord}
use Rattle.command_core.specs.record_spec.declared.store.StoreRecord.{StoreRecord}
use Rattle.command_core.specs.log_spec.PairImage.{PairImage}
use Rattle.command_core.specs.core_spec.declared.event.Event.TheVariants.{Restart}
use Rattle.command_core.specs.core_spec.History.{History}
use Rattle.command_core.specs.core_spec.Stands.{Stands}
use Rattle.command_core.specs.queue_records.Reading.{queue_at}
use Rattle.command_core.specs.store_records.Reading.{store_at}
use Rattle.command_core.specs.fleet_keeper.Pairs.{records_at}
use Rattle.command_core.specs.core_state.StandsFor.{StandsAt, history_of}
use Rattle.command_core.proofs.of_core_laws.StandingRecords.{restarts_leave_the_records}
use Rattle.command_core.specs.core_opening.declared.faults.FileName.{FileName}
use Rattle.command_core.specs.core_opening.Opened.{LogCore, LogCoreStands, IsUpCore, IsFound, HadRoom, LacksRoom, LacksDone, IsCoreDamage, FilesStand, DisksStand, disks_in, OpensWithin}
use Rattle.command_core.proofs.of_core_opening.Opens.{undamaged}

-- the disks behind an opening
pub leaves_of : {D : Type 0} (seen : D → List ℕ) (may_leave : D → List ℕ → Type 0) (moment : D → ℕ) (left_since : D → ℕ → List ℕ → Type 0)
    → ((d : D) (t : ℕ) (c : List ℕ) → t ≤ moment d → may_leave d c → left_since d t c)
    → (ttls : Ttls) (history : History) (old new : Disks D) → OpensWithin seen may_leave moment left_since ttls old new history → DisksStand may_leave ttls new (Restart ∷ history)
leaves_of seen may_leave moment left_since counts_now ttls history old new within qa qb sa sb ia ib ja jb =
    let files = within.writing qa qb sa sb (counts_now new.queue_a (moment within.read.queue_a) qa within.later.0 ia) (counts_now new.queue_b (moment within.read.queue_b) qb within.later.1 ib) ja jb in
    record {
      queue_records = files.queue_records;
      store_records = files.store_records;
      queue_is = files.queue_is;
      store_is = files.store_is;
      stands = restarts_leave_the_records ttls files.queue_records files.store_records history files.stands;
    }

-- the records that were found stand for what the files do
pub found_so : (ttls : Ttls) (history : History) (qa qb sa sb : List ℕ) → FilesStand ttls qa qb sa sb history → (qs : List QueueRecord) (ss : List StoreRecord)
    → records_at queue_at qa qb ≡ Some qs → records_at store_at sa sb ≡ Some ss → Stands ttls qs ss history
found_so ttls history qa qb sa sb files qs ss queue_is store_is =
    subst (λ (xs : List QueueRecord). Stands ttls xs ss history) (some_is files.queue_records qs (sym files.queue_is ∙ queue_is))
    (subst (λ (ys : List StoreRecord). Stands ttls files.queue_records ys history) (some_is files.store_records ss (sym files.store_is ∙ store_is)) files.stands)

-- the disks of a core that was opened
pub opened_leaves : {D : Type 0} (told : Bool) (seen : D → List ℕ) (may_leave : D → List ℕ → Type 0) (core : LogCore D) → IsUpCore seen may_leave core → core.events.list ≡ Restart ∷ []
    → (ttls : Ttls) (history : History) → core.tables.ttls ≡ ttls → LogCoreStands told seen may_leave core history → DisksStand may_leave ttls (disks_in core) (Restart ∷ history)
opened_leaves told seen may_leave core up events ttls history lives on qa qb sa sb ia ib ja jb =
    let begun : history_of core history ≡ Restart ∷ history = ap (λ (h : History). h ++ history) events in
    let each = on.disks.each (records_at queue_at qa qb) (records_at store_at sa sb) (qa, qb, ia, ib, refl) (sa, sb, ja, jb, refl) in
    subst (λ (t : Ttls). StandsAt t (records_at queue_at qa qb) (records_at store_at sa sb) (Restart ∷ history)) lives
    (subst (λ (h : History). StandsAt core.tables.ttls (records_at queue_at qa qb) (records_at store_at sa sb) h) begun
    (⊎_elim (λ here. here) (λ down. absurd (let apart : true ≡ false = sym down.0 ∙ up.up in cc)) each))

-- a log that lacked a Done had room for it
pub room_found : (queue store : PairImage) (queued : List QueueRecord) (kept : List StoreRecord) → IsFound queue store queued kept → HadRoom queue queued kept → LacksRoom queue store → ⊥
room_found queue store queued kept found room lacks =
    let same_queue : lacks.queue_records ≡ queued = some_is lacks.queue_records queued (sym lacks.found.queue_is ∙ found.queue_is) in
    let same_store : lacks.store_records ≡ kept = some_is lacks.store_records kept (sym lacks.found.store_is ∙ found.store_is) in
    room lacks.receipt lacks.size
    (subst (λ (xs : List QueueRecord). LacksDone xs kept lacks.receipt) same_queue (subst (λ (ys : List StoreRecord). LacksDone lacks.queue_records ys lacks.receipt) same_store lacks.lacks))
    lacks.size_is lacks.full

pub whole_where_room_lacks : (queue store : PairImage) (file : FileName) (at : ℕ) → LacksRoom queue store → IsCoreDamage queue store file at → ⊥
whole_where_room_lacks queue store file at lacks = undamaged queue store lacks.queue_records lacks.store_records lacks.found file at
