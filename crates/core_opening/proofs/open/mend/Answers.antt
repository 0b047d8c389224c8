use Rattle.std.proofs.Common.{◌≡◌, inl, ◌^◌, ◌<◌, ◌≤◌, List, [], ◌∷◌, ◌++◌, Option, Some, Err, IsTrue, refl, sym, ap, subst, ◌∙◌, arith, rules}
use Rattle.core_state.specs.fleet_ports.declared.disk.Disks.{Disks}
use Rattle.core_state.specs.log_pair.Open.{PairCounts}
use Rattle.core_state.specs.log_pair.Pair.{disk_a, disk_b}
use Rattle.core_state.specs.record_spec.declared.queue.QueueRecord.TheVariants as queue
use Rattle.core_state.specs.queue_records.Reading.{queue_at}
use Rattle.core_state.specs.fleet_keeper.declared.kept.Kept.{Kept}
use Rattle.core_state.specs.fleet_keeper.Kept.{IsFaulty}
use Rattle.core_state.specs.fleet_keeper.Pairs.{records_at}
use Rattle.core_state.specs.fleet_keeper.Records.{with_one}
use Rattle.core_state.specs.fleet_keeper.Keeper.{pair_of}
use Rattle.core_state.specs.queue_log.Queued.{queue_pair, queue_size, queued}
use Rattle.core_state.specs.record_spec.declared.queue.QueueRecord.{QueueRecord}
use Rattle.core_state.proofs.KnownImages.{queue_known, queue_since}
use Rattle.core_opening.specs.Opened.{found_queue, IsQueueFault}
use Rattle.core_opening.proofs.Cores.{core_is_opened}
use Rattle.core_opening.proofs.Opens.{written_more}
use Rattle.core_opening.proofs.Mends.{waits_there, lifetimes, whole, done, reads_still, writes_on, put_ok, not_down, past, not_past, answered_room, answered_cause, answered_unwritten, time_goes_on}
use Rattle.core_opening.proofs.open.mend.Goals as goal

pub returns-in-None-clause-opened : goal.returns-in-None-clause-opened
returns-in-None-clause-opened g c =
    let d = g.D.Disk in
    core_is_opened d.is_told d.seen d.may_leave c.args.state _ (whole d.is_told d.seen d.may_leave c.args.state c.args.missing c.requires c.in-None.is)
    c.requires.holds.ttls c.requires.holds.rest c.requires.holds.first (lifetimes d.is_told d.seen d.may_leave c.args.state c.args.missing c.requires)

pub returns-in-None-clause-writing : goal.returns-in-None-clause-writing
returns-in-None-clause-writing g c ttls history both qa qb sa sb la lb ia ib =
    let d = g.D.Disk in
    let queue_now = queue_pair c.args.state.queue in
    reads_still d.is_told d.seen d.may_leave c.args.state c.args.missing c.requires ttls history both qa qb sa sb (g.met.D.Disk.only_now (disk_a queue_now) qa la) (g.met.D.Disk.only_now (disk_b queue_now) qb lb) ia ib

pub take-entry-requires : goal.take-entry-requires
take-entry-requires g c = waits_there g.D.Disk.is_told g.D.Disk.seen g.D.Disk.may_leave c.args.state c.args.missing c.requires c.in-Some.receipt c.in-Some.is

pub returns-in-None-fault_of-clause-opened : goal.returns-in-None-fault_of-clause-opened
returns-in-None-fault_of-clause-opened g c =
    let d = g.D.Disk in
    let m = g.met.D.Disk in
    let state = c.args.state in
    let r = c.in-Some.receipt in
    let small : r < 2 ^ 64 = search rules in
    let put = c.put_record-answer.ensures.put (queue.Done r) (small, c.done_bytes.ensures) in
    let ok = put_ok c.put_record-answer.result (sym c.fault_of.ensures.value ∙ c.in-None-fault_of.is) in
    let up = put.again (not_down c.put_record-answer.result ok) in
    let is : IsTrue d.is_told → queued d.seen c.put_record-answer.new.queue ≡ Some (found_queue state ++ queue.Done r ∷ []) = λ told. put.queued_one ok told ∙ ap (λ (o : Option (List QueueRecord)). with_one o (queue.Done r)) (c.requires.queue.is told) in
    core_is_opened d.is_told d.seen d.may_leave _ _
    (done d.is_told d.seen d.may_leave state c.args.missing c.requires _ r c.in-Some.is
    (record { up = up; is = is; images = queue_known d.is_told d.seen d.may_leave d.moment d.left_since m.told m.told_since m.only_now c.put_record-answer.new.queue _ is up })
    refl refl refl c.take-entry.ensures.taken refl refl refl refl refl)
    c.requires.holds.ttls c.requires.holds.rest c.requires.holds.first (lifetimes d.is_told d.seen d.may_leave state c.args.missing c.requires)

pub returns-in-None-fault_of-clause-writing : goal.returns-in-None-fault_of-clause-writing
returns-in-None-fault_of-clause-writing g c ttls history both qa qb sa sb la lb ia ib =
    let d = g.D.Disk in
    let m = g.met.D.Disk in
    let state = c.args.state in
    let r = c.in-Some.receipt in
    let small : r < 2 ^ 64 = search rules in
    let put = c.put_record-answer.ensures.put (queue.Done r) (small, c.done_bytes.ensures) in
    let more = queue_since d.is_told d.seen d.may_leave d.moment d.left_since m.told m.told_since m.only_now state.queue (found_queue state) c.requires.queue.is c.put_record-answer.new.queue (queue.Done r) put.any_moment (records_at queue_at qa qb) (qa, qb, la, lb, refl) in
    writes_on d.is_told d.seen d.may_leave state c.args.missing c.requires ttls history both r c.in-Some.is (records_at queue_at qa qb) more sa sb ia ib

pub returns-in-None-fault_of-clause-room : goal.returns-in-None-fault_of-clause-room
returns-in-None-fault_of-clause-room g c s some full =
    let r = c.in-Some.receipt in
    let small : r < 2 ^ 64 = search rules in
    let put = c.put_record-answer.ensures.put (queue.Done r) (small, c.done_bytes.ensures) in
    let ok = put_ok c.put_record-answer.result (sym c.fault_of.ensures.value ∙ c.in-None-fault_of.is) in
    let spent = put.spent.1 (past (queue_size c.args.state.queue) r full) in
    let no = sym ok ∙ spent in cc

pub returns-in-None-fault_of-clause-cause : goal.returns-in-None-fault_of-clause-cause
returns-in-None-fault_of-clause-cause g c =
    let r = c.in-Some.receipt in
    let small : r < 2 ^ 64 = search rules in
    let put = c.put_record-answer.ensures.put (queue.Done r) (small, c.done_bytes.ensures) in
    let ok = put_ok c.put_record-answer.result (sym c.fault_of.ensures.value ∙ c.in-None-fault_of.is) in
    let count = g.D.Disk.fault_count in
    let old = queue_pair c.args.state.queue in
    let new = queue_pair c.put_record-answer.new.queue in
    subst (λ (k : Kept). PairCounts (count (disk_a old)) (count (disk_a new)) (count (disk_b old)) (count (disk_b new)) (IsFaulty k)) ok put.cause

pub returns-in-Some-fault_of-clause-writing : goal.returns-in-Some-fault_of-clause-writing
returns-in-Some-fault_of-clause-writing g c ttls history both qa qb sa sb la lb ia ib =
    let d = g.D.Disk in
    let m = g.met.D.Disk in
    let state = c.args.state in
    let r = c.in-Some.receipt in
    let small : r < 2 ^ 64 = search rules in
    let put = c.put_record-answer.ensures.put (queue.Done r) (small, c.done_bytes.ensures) in
    let first = subst (λ (x : Disks g.row.D.Denot). d.left_since x.queue_a (d.moment (disk_a (queue_pair state.queue))) qa) c.disks_of.ensures la in
    let second = subst (λ (x : Disks g.row.D.Denot). d.left_since x.queue_b (d.moment (disk_b (queue_pair state.queue))) qb) c.disks_of.ensures lb in
    let third = subst (λ (x : Disks g.row.D.Denot). d.may_leave x.store_a sa) c.disks_of.ensures ia in
    let fourth = subst (λ (x : Disks g.row.D.Denot). d.may_leave x.store_b sb) c.disks_of.ensures ib in
    let more = queue_since d.is_told d.seen d.may_leave d.moment d.left_since m.told m.told_since m.only_now state.queue (found_queue state) c.requires.queue.is c.put_record-answer.new.queue (queue.Done r) put.any_moment (records_at queue_at qa qb) (qa, qb, first, second, refl) in
    writes_on d.is_told d.seen d.may_leave state c.args.missing c.requires ttls history both r c.in-Some.is (records_at queue_at qa qb) more sa sb third fourth

pub returns-in-Some-fault_of-clause-room : goal.returns-in-Some-fault_of-clause-room
returns-in-Some-fault_of-clause-room g c =
    let r = c.in-Some.receipt in
    let small : r < 2 ^ 64 = search rules in
    let put = c.put_record-answer.ensures.put (queue.Done r) (small, c.done_bytes.ensures) in
    let size = queue_size c.args.state.queue in
    answered_room c.put_record-answer.result c.in-Some-fault_of.fault c.disks_of.result c.args.missing size r (sym c.fault_of.ensures.value ∙ c.in-Some-fault_of.is) c.in-Some.is (c.put_record-answer.ensures.short (omega arith))
    (λ spent. not_past size r (put.spent.0 spent))

pub returns-in-Some-fault_of-clause-cause : goal.returns-in-Some-fault_of-clause-cause
returns-in-Some-fault_of-clause-cause g c =
    let r = c.in-Some.receipt in
    let small : r < 2 ^ 64 = search rules in
    let put = c.put_record-answer.ensures.put (queue.Done r) (small, c.done_bytes.ensures) in
    let count = g.D.Disk.fault_count in
    let old = queue_pair c.args.state.queue in
    let new = queue_pair c.put_record-answer.new.queue in
    let counts = answered_cause c.put_record-answer.result c.in-Some-fault_of.fault c.disks_of.result (count (disk_a old)) (count (disk_a new)) (count (disk_b old)) (count (disk_b new)) (sym c.fault_of.ensures.value ∙ c.in-Some-fault_of.is) put.cause in
    subst (λ (x : Disks g.row.D.Denot). PairCounts (count (disk_a old)) (count x.queue_a) (count (disk_b old)) (count x.queue_b) (IsQueueFault {D = g.row.D.Denot} (Err (c.in-Some-fault_of.fault, c.disks_of.result)))) (sym c.disks_of.ensures) counts

pub returns-in-Some-fault_of-clause-unwritten : goal.returns-in-Some-fault_of-clause-unwritten
returns-in-Some-fault_of-clause-unwritten g c other =
    let r = c.in-Some.receipt in
    let small : r < 2 ^ 64 = search rules in
    let put = c.put_record-answer.ensures.put (queue.Done r) (small, c.done_bytes.ensures) in
    let same = put.untouched (answered_unwritten c.put_record-answer.result c.in-Some-fault_of.fault (sym c.fault_of.ensures.value ∙ c.in-Some-fault_of.is) other) in
    c.disks_of.ensures ∙ (λ i. record { queue_a = disk_a (queue_pair (same i)); queue_b = disk_b (queue_pair (same i)); store_a = disk_a (pair_of c.args.state.store); store_b = disk_b (pair_of c.args.state.store) })

pub returns-in-None-fault_of-clause-later : goal.returns-in-None-fault_of-clause-later
returns-in-None-fault_of-clause-later g c =
    let d = g.D.Disk in
    let r = c.in-Some.receipt in
    let small : r < 2 ^ 64 = search rules in
    let put = c.put_record-answer.ensures.put (queue.Done r) (small, c.done_bytes.ensures) in
    time_goes_on d.may_leave d.moment d.left_since _ c.args.state.queue c.put_record-answer.new.queue put.any_moment

pub returns-in-Some-fault_of-clause-later : goal.returns-in-Some-fault_of-clause-later
returns-in-Some-fault_of-clause-later g c =
    let d = g.D.Disk in
    let state = c.args.state in
    let r = c.in-Some.receipt in
    let small : r < 2 ^ 64 = search rules in
    let put = c.put_record-answer.ensures.put (queue.Done r) (small, c.done_bytes.ensures) in
    let later = time_goes_on d.may_leave d.moment d.left_since _ state.queue c.put_record-answer.new.queue put.any_moment in
    subst (λ (x : Disks g.row.D.Denot). (d.moment (disk_a (queue_pair state.queue)) ≤ d.moment x.queue_a) × (d.moment (disk_b (queue_pair state.queue)) ≤ d.moment x.queue_b)) (sym c.disks_of.ensures) later

pub returns-in-None-clause-within : goal.returns-in-None-clause-within
returns-in-None-clause-within g c told qa qb la lb =
    let m = g.met.D.Disk in
    let now = queue_pair c.args.state.queue in
    inl (c.requires.queue.images (records_at queue_at qa qb) (qa, qb, m.only_now (disk_a now) qa la, m.only_now (disk_b now) qb lb, refl))

pub returns-in-None-fault_of-clause-within : goal.returns-in-None-fault_of-clause-within
returns-in-None-fault_of-clause-within g c told qa qb la lb =
    let d = g.D.Disk in
    let m = g.met.D.Disk in
    let state = c.args.state in
    let r = c.in-Some.receipt in
    let small : r < 2 ^ 64 = search rules in
    let put = c.put_record-answer.ensures.put (queue.Done r) (small, c.done_bytes.ensures) in
    let more = queue_since d.is_told d.seen d.may_leave d.moment d.left_since m.told m.told_since m.only_now state.queue (found_queue state) c.requires.queue.is c.put_record-answer.new.queue (queue.Done r) put.any_moment (records_at queue_at qa qb) (qa, qb, la, lb, refl) in
    written_more c.args.missing r (found_queue state) (records_at queue_at qa qb) c.in-Some.is more

pub returns-in-Some-fault_of-clause-within : goal.returns-in-Some-fault_of-clause-within
returns-in-Some-fault_of-clause-within g c told qa qb la lb =
    let d = g.D.Disk in
    let m = g.met.D.Disk in
    let state = c.args.state in
    let r = c.in-Some.receipt in
    let small : r < 2 ^ 64 = search rules in
    let put = c.put_record-answer.ensures.put (queue.Done r) (small, c.done_bytes.ensures) in
    let first = subst (λ (x : Disks g.row.D.Denot). d.left_since x.queue_a (d.moment (disk_a (queue_pair state.queue))) qa) c.disks_of.ensures la in
    let second = subst (λ (x : Disks g.row.D.Denot). d.left_since x.queue_b (d.moment (disk_b (queue_pair state.queue))) qb) c.disks_of.ensures lb in
    let more = queue_since d.is_told d.seen d.may_leave d.moment d.left_since m.told m.told_since m.only_now state.queue (found_queue state) c.requires.queue.is c.put_record-answer.new.queue (queue.Done r) put.any_moment (records_at queue_at qa qb) (qa, qb, first, second, refl) in
    written_more c.args.missing r (found_queue state) (records_at queue_at qa qb) c.in-Some.is more
