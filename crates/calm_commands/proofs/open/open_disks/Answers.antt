use Rattle.std.proofs.Common.{◌≡◌, sym, ap, subst}
use Rattle.command_core.specs.core_opening.Opened.{LogCoreStands, found_queue, found_store}
use Rattle.command_core.proofs.of_core_opening.Opens.{damage_of}
use Rattle.calm_commands.specs.declared.status.Status.{Status}
use Rattle.calm_commands.specs.Openings.{disk_sight, queue_files, store_files, opening_status, ForEachHistory, IsUnopened}
use Rattle.calm_commands.proofs.Leaving.{leaves_of, found_so, opened_leaves, room_found}
use Rattle.calm_commands.proofs.Statuses.{ends_of, damage_is, spent_told, damage_told, lack_told, queue_counted, store_counted}
use Rattle.calm_commands.proofs.open.open_disks.Goals as goal

pub returns-in-Ok-clause-opened : goal.returns-in-Ok-clause-opened
returns-in-Ok-clause-opened g c =
    let d = g.D.Disk in
    let m = g.met.D.Disk in
    let w = disk_sight d.is_told d.seen d.may_leave d.moment d.left_since d.fault_count in
    let disks = c.args.disks in
    let core = c.in-Ok.core in
    let e = c.in-Ok.ensures.does in
    let stood : ForEachHistory w disks (λ ttls history. (core.tables.ttls ≡ ttls) × LogCoreStands d.is_told d.seen d.may_leave core history) = λ told ttls history files.
    e.stands ttls history (found_so ttls history (d.seen disks.queue_a) (d.seen disks.queue_b) (d.seen disks.store_a) (d.seen disks.store_b) files (found_queue core) (found_store core) (e.told told).0.queue_is (e.told told).0.store_is) in
    record {
      found = λ told. (e.told told).0;
      had_room = λ told. (e.told told).1;
      goes_on = λ told. (e.told told).2;
      undamaged = e.undamaged;
      roomy = λ told. room_found (queue_files w disks) (store_files w disks) (found_queue core) (found_store core) (e.told told).0 (e.told told).1;
      stands = e.stands;
      stands_for = stood;
      logs = e.logs;
      up = e.up;
      events = e.events;
      start = e.start;
      any_moment = λ told. e.any_moment told;
      images = e.images;
      leaves = λ told ttls history files. (let on = stood told ttls history files in opened_leaves d.is_told d.seen d.may_leave core e.up e.events ttls history on.0 on.1);
      read = λ told ttls history all.
          all (d.seen disks.queue_a) (d.seen disks.queue_b) (d.seen disks.store_a) (d.seen disks.store_b)
          (m.seen_may_stay disks.queue_a told) (m.seen_may_stay disks.queue_b told) (m.seen_may_stay disks.store_a told) (m.seen_may_stay disks.store_b told);
      queue_counts = e.queue_cause;
      store_counts = e.store_cause;
    }

pub returns-in-Err-clause-refused : goal.returns-in-Err-clause-refused
returns-in-Err-clause-refused g c =
    let d = g.D.Disk in
    let m = g.met.D.Disk in
    let w = disk_sight d.is_told d.seen d.may_leave d.moment d.left_since d.fault_count in
    let disks = c.args.disks in
    let after = c.in-Err.disks in
    let f = c.in-Err.fault in
    let e = c.in-Err.ensures.does in
    let queue = queue_files w disks in
    let store = store_files w disks in
    let is : IsUnopened w disks after (opening_status f) = record {
      ends = ends_of f;
      files = record {
        damaged = λ told file at is. damage_of f after queue store file at (e.told told) (damage_is f file at is);
        told = λ told. damage_told after queue store f (e.told told);
        never = λ told ttls history files file at is. e.never_damaged told ttls history files file at (damage_is f file at is);
        spent = λ told. lack_told after queue store f (e.told told);
      };
      full = λ told. spent_told after queue store f (e.told told);
      any_moment = λ told. e.any_moment told;
      leaves = λ told ttls history all. leaves_of d.seen d.may_leave d.moment d.left_since m.counts_now ttls history disks after (e.any_moment told ttls history all);
      untouched = λ other. e.untouched (λ queue. other (ap opening_status queue));
      kept = e.kept;
      images = e.images;
      queue_counts = queue_counted after f (d.fault_count disks.queue_a) (d.fault_count after.queue_a) (d.fault_count disks.queue_b) (d.fault_count after.queue_b) e.queue_cause;
      store_counts = store_counted after f (d.fault_count disks.store_a) (d.fault_count after.store_a) (d.fault_count disks.store_b) (d.fault_count after.store_b) e.store_cause;
    } in
    subst (λ (s : Status). IsUnopened w disks after s) (sym c.status_of_opening.ensures) is
