use Rattle.std.proofs.Common.{refl, sym, subst, rules}
use Rattle.core_claims.specs.record_spec.declared.queue.QueueRecord.TheVariants as queue
use Rattle.core_claims.specs.queue_log.declared.queue.QueueLog.{QueueLog}
use Rattle.core_claims.specs.core_state.Puts.{HasPut}
use Rattle.core_claims.proofs.of_core_state.Ports.{Ports}
use Rattle.core_settles.specs.Ends.{unput}
use Rattle.core_settles.proofs.Failures.{put_counted, freed_from}
use Rattle.core_settles.proofs.failure.fail.Goals as goal

pub returns-in-Ok : goal.returns-in-Ok
returns-in-Ok g c =
    let p : Ports g.row.D.Denot g.row.K.Denot = record {
      tells = g.D.Disk.is_told;
      seen = g.D.Disk.seen;
      may_leave = g.D.Disk.may_leave;
      moment = g.D.Disk.moment;
      left_since = g.D.Disk.left_since;
      faults = g.D.Disk.fault_count;
      told = g.met.D.Disk.told;
      told_since = g.met.D.Disk.told_since;
      only_now = g.met.D.Disk.only_now;
      store_tells = g.K.Keeper.is_told;
      kept = g.K.Keeper.kept;
      images = g.K.Keeper.images;
      store_moment = g.K.Keeper.moment;
      images_since = g.K.Keeper.images_since;
      store_up = g.K.Keeper.is_up;
      store_down = g.K.Keeper.down;
      store_size = g.K.Keeper.size;
      store_generation = g.K.Keeper.generation;
      store_opened = g.K.Keeper.opened;
      store_within = g.K.Keeper.is_within;
      store_faults = g.K.Keeper.fault_count;
      store_told = g.met.K.Keeper.told;
      store_told_since = g.met.K.Keeper.told_since;
      store_only_now = g.met.K.Keeper.only_now;
      store_stands = g.met.K.Keeper.stands;
    } in
    record {
      does = put_counted p c.args.job c.args.before c.args.after c.args.core.now c.count.new.core c.put_record-answer.new.queue c.count.result c.count.ensures.does
          (c.in-Ok.ensures.put (queue.Fail c.args.job.receipt c.args.before c.args.after) (search rules));
    }

pub returns-in_default : goal.returns-in_default
returns-in_default g c =
    let p : Ports g.row.D.Denot g.row.K.Denot = record {
      tells = g.D.Disk.is_told;
      seen = g.D.Disk.seen;
      may_leave = g.D.Disk.may_leave;
      moment = g.D.Disk.moment;
      left_since = g.D.Disk.left_since;
      faults = g.D.Disk.fault_count;
      told = g.met.D.Disk.told;
      told_since = g.met.D.Disk.told_since;
      only_now = g.met.D.Disk.only_now;
      store_tells = g.K.Keeper.is_told;
      kept = g.K.Keeper.kept;
      images = g.K.Keeper.images;
      store_moment = g.K.Keeper.moment;
      images_since = g.K.Keeper.images_since;
      store_up = g.K.Keeper.is_up;
      store_down = g.K.Keeper.down;
      store_size = g.K.Keeper.size;
      store_generation = g.K.Keeper.generation;
      store_opened = g.K.Keeper.opened;
      store_within = g.K.Keeper.is_within;
      store_faults = g.K.Keeper.fault_count;
      store_told = g.met.K.Keeper.told;
      store_told_since = g.met.K.Keeper.told_since;
      store_only_now = g.met.K.Keeper.only_now;
      store_stands = g.met.K.Keeper.stands;
    } in
    let put = c.put_record-answer.ensures.put (queue.Fail c.args.job.receipt c.args.before c.args.after) (search rules) in
    record {
      does = unput c.put_record-answer.result refl c.in_default.not-Ok c.in_default.not-Down (c.put_record-answer.ensures.short (search rules))
          (subst (λ (l : QueueLog g.row.D.Denot). HasPut p.tells p.seen p.may_leave p.moment p.left_since p.faults c.put_record-answer.result c.args.core.now.queue l (queue.Fail c.args.job.receipt c.args.before c.args.after)) (sym c.free.ensures.freed.queue) put)
          c.free.ensures.freed.store (freed_from c.args.job.receipt c.args.core.now c.free.new.core c.put_record-answer.new.queue c.free.ensures.freed.freed);
    }
