use Rattle.std.proofs.Common.{inr, subst}
use Rattle.core_state.specs.log_spec.ImageOf.{image_of}
use Rattle.core_state.specs.log_spec.PairImage.{pair_image}
use Rattle.core_state.specs.log_pair.Pair.{disk_a, disk_b}
use Rattle.core_state.specs.queue_records.Reading.{queue_at}
use Rattle.core_state.specs.fleet_keeper.Pairs.{records_at}
use Rattle.core_state.specs.queue_log.Queued.{queue_pair, queue_size}
use Rattle.core_opening.specs.Opened.{found_queue, found_store, disks_in, disks_after, IsQueueFault}
use Rattle.core_opening.proofs.Opens.{undamaged, stand_found, damage_of, gathered_opening, mended_opening, if_same, goes_on, if_any, if_map, opens_untouched, found_stand, store_first}
use Rattle.core_opening.proofs.Opens.{mended_whole, mended_store, mended_queue, mended_start, mended_untouched, images_untouched, kept_untouched, kept_queue, kept_mended}
use Rattle.core_opening.proofs.open.open_state.Goals as goal

pub returns-in-Err : goal.returns-in-Err
returns-in-Err g c =
    let d = g.D.Disk in
    let disks = c.args.disks in
    let fault = c.in-Err.fault in
    let after = c.in-Err.disks in
    let gathered = c.in-Err.ensures in
    let queue = pair_image (image_of (d.seen disks.queue_a)) (image_of (d.seen disks.queue_b)) in
    let store = pair_image (image_of (d.seen disks.store_a)) (image_of (d.seen disks.store_b)) in
    record {
      does = record {
        told = λ told. gathered_opening fault after queue store (gathered.told told);
        undamaged = λ told. tt;
        never_damaged = λ told ttls history files file at is.
            undamaged queue store files.queue_records files.store_records (stand_found ttls queue store history files) file at
            (damage_of fault after queue store file at (gathered_opening fault after queue store (gathered.told told)) is);
        stands = tt;
        logs = tt;
        up = tt;
        events = tt;
        start = tt;
        any_moment = λ told ttls history all. opens_untouched d.seen d.may_leave d.moment d.left_since g.met.D.Disk.only_now ttls history disks all after gathered.untouched;
        untouched = λ other. gathered.untouched;
        kept = λ told. kept_untouched d.seen d.may_leave d.moment d.left_since disks after gathered.untouched;
        images = λ told. images_untouched d.seen d.may_leave d.moment d.left_since g.met.D.Disk.only_now disks after gathered.untouched;
        queue_cause = gathered.queue_cause;
        store_cause = gathered.store_cause;
      };
    }

pub returns-in-Ok : goal.returns-in-Ok
returns-in-Ok g c =
    let d = g.D.Disk in
    let m = g.met.D.Disk in
    let disks = c.args.disks in
    let state = c.in-Ok.state in
    let missing = c.in-Ok.missing in
    let gathered = c.in-Ok.ensures in
    let mended = c.mend.ensures in
    let result = c.mend.result in
    let count = d.fault_count in
    let queue = pair_image (image_of (d.seen disks.queue_a)) (image_of (d.seen disks.queue_b)) in
    let store = pair_image (image_of (d.seen disks.store_a)) (image_of (d.seen disks.store_b)) in
    let old = queue_pair state.queue in
    let new = disks_after result in
    record {
      does = record {
        told = λ told.
            let found = gathered.told told in
            let goes = goes_on d.seen d.may_leave d.moment d.left_since (λ x. m.seen_may_stay x told) state disks gathered.ready.queue.up gathered.ready.store.up gathered.untouched in
            mended_opening queue store (found_queue state) (found_store state) missing (queue_size state.queue) found.0 found.1 gathered.ready.tells result mended.room (if_same queue store result state goes mended.same);
        undamaged = λ told. if_any result (undamaged queue store (found_queue state) (found_store state) (gathered.told told).0);
        never_damaged = λ told ttls history files. mended_whole result missing (queue_size state.queue) mended.room;
        stands = if_map result (λ core opened. opened.stands) mended.opened;
        logs = if_map result (λ core opened. opened.logs) mended.opened;
        up = if_map result (λ core opened. opened.up) mended.opened;
        events = if_map result (λ core opened. opened.events) mended.opened;
        start = mended_start count disks state result gathered.start mended.same;
        any_moment = λ told ttls history all.
            let found = (gathered.told told).0 in
            let both = found_stand d.seen d.may_leave d.moment d.left_since m.only_now ttls history disks all (m.seen_may_stay disks.queue_a told) (m.seen_may_stay disks.queue_b told) (m.seen_may_stay disks.store_a told) (m.seen_may_stay disks.store_b told)
            (found_queue state) (found_store state) found.queue_is found.store_is in
            record {
              read = disks_in state;
              reading = gathered.untouched;
              store_a = mended.store.store_a;
              store_b = mended.store.store_b;
              store_first = λ qa qb sa sb ia ib la lb. store_first d.seen d.may_leave d.moment d.left_since m.only_now ttls history disks all (disks_in state) gathered.untouched qa qb sa sb ia ib
                  (subst (λ (x : g.row.D.Denot). d.left_since x (d.moment disks.store_a) sa) mended.store.store_a la) (subst (λ (x : g.row.D.Denot). d.left_since x (d.moment disks.store_b) sb) mended.store.store_b lb);
              writing = λ qa qb sa sb la lb ia ib. mended.writing ttls history both qa qb sa sb la lb ia ib;
              later = mended.later;
            };
        untouched = mended_untouched d.seen d.may_leave d.moment d.left_since disks (disks_in state) result gathered.untouched mended.unwritten;
        kept = λ told.
            let u = gathered.untouched in
            let a = d.seen new.queue_a in
            let b = d.seen new.queue_b in
            kept_mended d.seen disks state missing (gathered.told told).0 gathered.ready.tells result u.store_a.same u.store_b.same mended.store
            (mended.within told a b (m.counts_now new.queue_a (d.moment (disk_a old)) a mended.later.0 (m.seen_may_stay new.queue_a told)) (m.counts_now new.queue_b (d.moment (disk_b old)) b mended.later.1 (m.seen_may_stay new.queue_b told)));
        images = λ told. record {
          read = disks_in state;
          reading = gathered.untouched;
          store_a = mended.store.store_a;
          store_b = mended.store.store_b;
          writing = λ qa qb la lb. inr (kept_queue d.seen disks state missing (gathered.told told).0 gathered.ready.tells (records_at queue_at qa qb) (mended.within told qa qb la lb));
          later = mended.later;
        };
        queue_cause = mended_queue (count disks.queue_a) (count (disk_a old)) (count new.queue_a) (count disks.queue_b) (count (disk_b old)) (count new.queue_b) (IsQueueFault result) gathered.queue_cause mended.cause;
        store_cause = mended_store count result missing (queue_size state.queue) state (count disks.store_a) (count disks.store_b) mended.room mended.store gathered.store_cause;
      };
    }
