use Rattle.std.proofs.Common.{refl, subst, arith, Option}
use Rattle.fleet_hub.specs.core_course.Sight.{Sight, sight}
use Rattle.spool_text.specs.Next.{unread, place}
use Rattle.spool_run.specs.declared.ends.SpoolEnd.{SpoolEnd}
use Rattle.spool_run.specs.Steps.{BatchDrained, OneTaken, SweptDrained}
use Rattle.spool_run.proofs.Readings.{at_start}
use Rattle.spool_run.proofs.EndLaws.{starts, start_stops, command_goes, command_stops, sweep_goes, sweep_stops, at_end, at_fault, not_read, no_memory}
use Rattle.spool_run.proofs.intake.take_spool.Goals as goal

pub returns-in-Some-clause-ends : goal.returns-in-Some-clause-ends
returns-in-Some-clause-ends g c =
    let w : Sight g.row.D.Denot g.row.K.Denot = sight g.D.Disk.is_told g.D.Disk.seen g.D.Disk.may_leave g.D.Disk.moment g.D.Disk.left_since g.D.Disk.fault_count g.K.Keeper.is_told g.K.Keeper.kept g.K.Keeper.images g.K.Keeper.moment g.K.Keeper.images_since g.K.Keeper.down g.K.Keeper.size g.K.Keeper.fault_count g.K.Keeper.opened g.K.Keeper.is_within in
    let now = c.args.now in
    let bytes = g.S.Source.left c.args.spool.now in
    start_stops w now bytes bytes c.in-Some.end c.args.core c.drain_batch-core.result.core c.requires.up (subst (λ (o : Option SpoolEnd). BatchDrained w o c.args.core c.drain_batch-core.result.core) c.in-Some.is c.drain_batch-core.ensures)

pub items-init : goal.items-init
items-init g c =
    let w : Sight g.row.D.Denot g.row.K.Denot = sight g.D.Disk.is_told g.D.Disk.seen g.D.Disk.may_leave g.D.Disk.moment g.D.Disk.left_since g.D.Disk.fault_count g.K.Keeper.is_told g.K.Keeper.kept g.K.Keeper.images g.K.Keeper.moment g.K.Keeper.images_since g.K.Keeper.down g.K.Keeper.size g.K.Keeper.fault_count g.K.Keeper.opened g.K.Keeper.is_within in
    let now = c.args.now in
    let bytes = g.S.Source.left c.args.spool.now in
    let reader = c.new-reader.result in
    record {
      so_far = starts w now bytes (place reader) (unread reader bytes) c.args.core c.drain_batch-core.result.core
          (at_start now reader.ahead (place reader) bytes c.new-reader.ensures.ahead c.new-reader.ensures.place) c.requires.up (subst (λ (o : Option SpoolEnd). BatchDrained w o c.args.core c.drain_batch-core.result.core) c.in-None.is c.drain_batch-core.ensures);
      within = omega (arith, c.new-reader.ensures.place);
      later = grind arith;
    }

pub returns-in-Some-end-clause-ends : goal.returns-in-Some-end-clause-ends
returns-in-Some-end-clause-ends g c =
    let w : Sight g.row.D.Denot g.row.K.Denot = sight g.D.Disk.is_told g.D.Disk.seen g.D.Disk.may_leave g.D.Disk.moment g.D.Disk.left_since g.D.Disk.fault_count g.K.Keeper.is_told g.K.Keeper.kept g.K.Keeper.images g.K.Keeper.moment g.K.Keeper.images_since g.K.Keeper.down g.K.Keeper.size g.K.Keeper.fault_count g.K.Keeper.opened g.K.Keeper.is_within in
    let now = c.args.now in
    let bytes = g.S.Source.left c.args.spool.now in
    let old = unread c.items.reader (g.S.Source.left c.items.spool) in
    let p = place c.items.reader in
    let left = g.S.Source.left c.next_item.new.source in
    let new = unread c.next_item.new.self left in
    let q = place c.next_item.new.self in
    command_stops w now bytes old new left p q c.args.core c.items.core c.take_one-next.result.core c.items.invariant.so_far
    c.in-Command.command c.in-Command.ensures.item c.next_item.ensures.within c.in-Some-end.end (subst (λ (o : Option SpoolEnd). OneTaken w o c.in-Command.command c.items.core c.take_one-next.result.core) c.in-Some-end.is c.take_one-next.ensures)

pub items-preserved-in-None-end : goal.items-preserved-in-None-end
items-preserved-in-None-end g c =
    let w : Sight g.row.D.Denot g.row.K.Denot = sight g.D.Disk.is_told g.D.Disk.seen g.D.Disk.may_leave g.D.Disk.moment g.D.Disk.left_since g.D.Disk.fault_count g.K.Keeper.is_told g.K.Keeper.kept g.K.Keeper.images g.K.Keeper.moment g.K.Keeper.images_since g.K.Keeper.down g.K.Keeper.size g.K.Keeper.fault_count g.K.Keeper.opened g.K.Keeper.is_within in
    let now = c.args.now in
    let bytes = g.S.Source.left c.args.spool.now in
    let old = unread c.items.reader (g.S.Source.left c.items.spool) in
    let p = place c.items.reader in
    let left = g.S.Source.left c.next_item.new.source in
    let new = unread c.next_item.new.self left in
    let q = place c.next_item.new.self in
    record {
      so_far = command_goes w now bytes old new left p q c.args.core c.items.core c.take_one-next.result.core c.items.invariant.so_far
          c.in-Command.command c.in-Command.ensures.item c.next_item.ensures.within (subst (λ (o : Option SpoolEnd). OneTaken w o c.in-Command.command c.items.core c.take_one-next.result.core) c.in-None-end.is c.take_one-next.ensures);
      within = c.next_item.ensures.within;
      later = grind arith;
    }

pub returns-in-Some-end-2-clause-ends : goal.returns-in-Some-end-2-clause-ends
returns-in-Some-end-2-clause-ends g c =
    let w : Sight g.row.D.Denot g.row.K.Denot = sight g.D.Disk.is_told g.D.Disk.seen g.D.Disk.may_leave g.D.Disk.moment g.D.Disk.left_since g.D.Disk.fault_count g.K.Keeper.is_told g.K.Keeper.kept g.K.Keeper.images g.K.Keeper.moment g.K.Keeper.images_since g.K.Keeper.down g.K.Keeper.size g.K.Keeper.fault_count g.K.Keeper.opened g.K.Keeper.is_within in
    let now = c.args.now in
    let bytes = g.S.Source.left c.args.spool.now in
    let old = unread c.items.reader (g.S.Source.left c.items.spool) in
    let p = place c.items.reader in
    let left = g.S.Source.left c.next_item.new.source in
    let new = unread c.next_item.new.self left in
    let q = place c.next_item.new.self in
    sweep_stops w now bytes old new left p q c.args.core c.items.core c.sweep_drained-next.result.core c.items.invariant.so_far
    c.in-Sweep.kinds c.in-Sweep.m c.in-Sweep.ensures.item c.next_item.ensures.within c.in-Some-end-2.end (subst (λ (o : Option SpoolEnd). SweptDrained w o c.in-Sweep.kinds c.in-Sweep.m c.items.core c.sweep_drained-next.result.core) c.in-Some-end-2.is c.sweep_drained-next.ensures)

pub items-preserved : goal.items-preserved
items-preserved g c =
    let w : Sight g.row.D.Denot g.row.K.Denot = sight g.D.Disk.is_told g.D.Disk.seen g.D.Disk.may_leave g.D.Disk.moment g.D.Disk.left_since g.D.Disk.fault_count g.K.Keeper.is_told g.K.Keeper.kept g.K.Keeper.images g.K.Keeper.moment g.K.Keeper.images_since g.K.Keeper.down g.K.Keeper.size g.K.Keeper.fault_count g.K.Keeper.opened g.K.Keeper.is_within in
    let now = c.args.now in
    let bytes = g.S.Source.left c.args.spool.now in
    let old = unread c.items.reader (g.S.Source.left c.items.spool) in
    let p = place c.items.reader in
    let left = g.S.Source.left c.next_item.new.source in
    let new = unread c.next_item.new.self left in
    let q = place c.next_item.new.self in
    record {
      so_far = sweep_goes w now bytes old new left p q c.args.core c.items.core c.sweep_drained-next.result.core c.items.invariant.so_far
          c.in-Sweep.kinds c.in-Sweep.m c.in-Sweep.ensures.item c.next_item.ensures.within (subst (λ (o : Option SpoolEnd). SweptDrained w o c.in-Sweep.kinds c.in-Sweep.m c.items.core c.sweep_drained-next.result.core) c.in-None-end-2.is c.sweep_drained-next.ensures);
      within = c.next_item.ensures.within;
      later = grind arith;
    }

pub returns-in-End-clause-ends : goal.returns-in-End-clause-ends
returns-in-End-clause-ends g c =
    let w : Sight g.row.D.Denot g.row.K.Denot = sight g.D.Disk.is_told g.D.Disk.seen g.D.Disk.may_leave g.D.Disk.moment g.D.Disk.left_since g.D.Disk.fault_count g.K.Keeper.is_told g.K.Keeper.kept g.K.Keeper.images g.K.Keeper.moment g.K.Keeper.images_since g.K.Keeper.down g.K.Keeper.size g.K.Keeper.fault_count g.K.Keeper.opened g.K.Keeper.is_within in
    let now = c.args.now in
    let bytes = g.S.Source.left c.args.spool.now in
    let old = unread c.items.reader (g.S.Source.left c.items.spool) in
    let p = place c.items.reader in
    let left = g.S.Source.left c.next_item.new.source in
    let new = unread c.next_item.new.self left in
    let q = place c.next_item.new.self in
    at_end w now bytes old new left p q c.args.core c.items.core c.drain_last.result.core c.items.invariant.so_far
    c.drain_last.result.end (c.in-End.ensures.end refl) (c.in-End.ensures.read_to_the_end refl) c.drain_last.ensures

pub returns-in-SpoolBad-clause-ends : goal.returns-in-SpoolBad-clause-ends
returns-in-SpoolBad-clause-ends g c =
    let w : Sight g.row.D.Denot g.row.K.Denot = sight g.D.Disk.is_told g.D.Disk.seen g.D.Disk.may_leave g.D.Disk.moment g.D.Disk.left_since g.D.Disk.fault_count g.K.Keeper.is_told g.K.Keeper.kept g.K.Keeper.images g.K.Keeper.moment g.K.Keeper.images_since g.K.Keeper.down g.K.Keeper.size g.K.Keeper.fault_count g.K.Keeper.opened g.K.Keeper.is_within in
    let now = c.args.now in
    let bytes = g.S.Source.left c.args.spool.now in
    let old = unread c.items.reader (g.S.Source.left c.items.spool) in
    let p = place c.items.reader in
    let left = g.S.Source.left c.next_item.new.source in
    let new = unread c.next_item.new.self left in
    let q = place c.next_item.new.self in
    at_fault w now bytes old new left p q c.args.core c.items.core c.drain_last-in-SpoolBad.result.core c.items.invariant.so_far
    c.drain_last-in-SpoolBad.result.end c.in-SpoolBad.at c.in-SpoolBad.ensures.bad.0 c.in-SpoolBad.ensures.bad.1 c.drain_last-in-SpoolBad.ensures

pub returns-in-ReadFault-clause-ends : goal.returns-in-ReadFault-clause-ends
returns-in-ReadFault-clause-ends g c =
    let w : Sight g.row.D.Denot g.row.K.Denot = sight g.D.Disk.is_told g.D.Disk.seen g.D.Disk.may_leave g.D.Disk.moment g.D.Disk.left_since g.D.Disk.fault_count g.K.Keeper.is_told g.K.Keeper.kept g.K.Keeper.images g.K.Keeper.moment g.K.Keeper.images_since g.K.Keeper.down g.K.Keeper.size g.K.Keeper.fault_count g.K.Keeper.opened g.K.Keeper.is_within in
    let now = c.args.now in
    let bytes = g.S.Source.left c.args.spool.now in
    let old = unread c.items.reader (g.S.Source.left c.items.spool) in
    let p = place c.items.reader in
    not_read w now bytes old (g.S.Source.left c.next_item.new.source) p c.args.core c.items.core c.items.invariant.so_far (c.in-ReadFault.ensures.fault refl)

pub returns-in-Memory-clause-ends : goal.returns-in-Memory-clause-ends
returns-in-Memory-clause-ends g c =
    let w : Sight g.row.D.Denot g.row.K.Denot = sight g.D.Disk.is_told g.D.Disk.seen g.D.Disk.may_leave g.D.Disk.moment g.D.Disk.left_since g.D.Disk.fault_count g.K.Keeper.is_told g.K.Keeper.kept g.K.Keeper.images g.K.Keeper.moment g.K.Keeper.images_since g.K.Keeper.down g.K.Keeper.size g.K.Keeper.fault_count g.K.Keeper.opened g.K.Keeper.is_within in
    let now = c.args.now in
    let bytes = g.S.Source.left c.args.spool.now in
    let old = unread c.items.reader (g.S.Source.left c.items.spool) in
    let p = place c.items.reader in
    no_memory w now bytes old (g.S.Source.left c.next_item.new.source) p c.args.core c.items.core c.items.invariant.so_far
