use Rattle.std.proofs.Common.{◌≡◌, refl, subst, rules}
use Rattle.core_claims.specs.record_spec.declared.queue.QueueRecord.TheVariants as queue
use Rattle.core_claims.specs.fleet_keeper.declared.kept.Kept.TheVariants as kept
use Rattle.core_claims.specs.queue_log.declared.queue.QueueLog.{QueueLog}
use Rattle.core_claims.specs.core_state.Puts.{HasPut}
use Rattle.core_claims.proofs.of_core_state.Ports.{Ports}
use Rattle.core_settles.specs.Ends.{undone}
use Rattle.core_settles.proofs.keep.finish.Goals as goal

pub returns-then-ne : goal.returns-then-ne
returns-then-ne g c =
    let p : Ports g.row.D.Denot g.row.K.Denot = record {
      tells = g.D.Disk.is_told;
      seen = g.D.Disk.seen;
      may_leave = g.D.Disk.may_leave;
      moment = g.D.Disk.moment;
      left_since = g.D.Disk.left_since;
      faults = g.D.Disk.fault_count;
      told = g.met.D.Disk.told;
      told_since = g.met.D.Disk.told_since;
      only_now = g.met.D.Disk.only_now;
      store_tells = g.K.Keeper.is_told;
      kept = g.K.Keeper.kept;
      images = g.K.Keeper.images;
      store_moment = g.K.Keeper.moment;
      images_since = g.K.Keeper.images_since;
      store_up = g.K.Keeper.is_up;
      store_down = g.K.Keeper.down;
      store_size = g.K.Keeper.size;
      store_generation = g.K.Keeper.generation;
      store_opened = g.K.Keeper.opened;
      store_within = g.K.Keeper.is_within;
      store_faults = g.K.Keeper.fault_count;
      store_told = g.met.K.Keeper.told;
      store_told_since = g.met.K.Keeper.told_since;
      store_only_now = g.met.K.Keeper.only_now;
      store_stands = g.met.K.Keeper.stands;
    } in
    let put = c.put_record-answer.ensures.put (queue.Done c.args.job.receipt) (search rules) in
    let no_ok : c.put_record-answer.result ≡ kept.Ok → ⊥ = λ is. absurd (search (rules, is)) in
    let did = c.apply.ensures.applied in
    record {
      does = undone c.put_record-answer.result refl no_ok (c.put_record-answer.ensures.short (search rules))
          (subst (λ (l : QueueLog g.row.D.Denot). HasPut p.tells p.seen p.may_leave p.moment p.left_since p.faults c.put_record-answer.result l c.put_record-answer.new.queue (queue.Done c.args.job.receipt)) did.queue put)
          did.store (record {
            tables = did.applied.tables;
            stands = did.applied.stands;
            dead = did.applied.dead;
            undone_is = refl;
            found = did.applied.found;
            opened_a = did.applied.opened_a;
            opened_b = did.applied.opened_b;
            pending = did.applied.pending;
            events = did.applied.events;
            room = did.applied.room;
            last = did.applied.last;
          });
    }
