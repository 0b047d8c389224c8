use Rattle.std.proofs.Common.{◌+◌, ◌≤◌, ◌∙◌, arith, refl, sym, ap, subst}
use Rattle.core_claims.specs.fleet_rows.declared.change.Change.{Change}
use Rattle.core_claims.specs.history_spec.Lawful.{IsChange}
use Rattle.core_claims.specs.fleet_tables.Rooms.{room_for}
use Rattle.core_claims.specs.core_state.declared.state.CoreState.{CoreState}
use Rattle.core_claims.proofs.of_core_state.Ports.{Ports, keeper_stays}
use Rattle.core_claims.specs.queue_log.Queued.{queue_size}
use Rattle.core_settles.specs.Ends.{KeepDoes, stored}
use Rattle.core_settles.specs.Records.{IsSpellingOf}
use Rattle.core_settles.proofs.Failures.{stored_from}
use Rattle.core_settles.proofs.keep.keep.Goals as goal
use Rattle.core_claims.specs.core_state.log_spec.Limits.{most_log}

pub store-requires-clause-tables : goal.store-requires-clause-tables
store-requires-clause-tables g c = c.in-Ok.ensures.room ∙ ap (λ (x : Change). room_for c.reserve_prepared.new.self x) (sym c.in-Ok.ensures.change)

pub store-requires-clause-lawful : goal.store-requires-clause-lawful
store-requires-clause-lawful g c = subst (λ (x : Change). IsChange x) (sym (c.in-Ok.ensures.change ∙ c.prepared.view_is)) c.requires.lawful

pub store-requires-clause-spelt : goal.store-requires-clause-spelt
store-requires-clause-spelt g c = subst (λ (x : Change). IsSpellingOf c.prepared.inside.spelling x) (sym c.in-Ok.ensures.change) c.prepared.invariant

pub returns-in-Ok : goal.returns-in-Ok
returns-in-Ok g c =
    let p : Ports g.row.D.Denot g.row.K.Denot = record {
      tells = g.D.Disk.is_told;
      seen = g.D.Disk.seen;
      may_leave = g.D.Disk.may_leave;
      moment = g.D.Disk.moment;
      left_since = g.D.Disk.left_since;
      faults = g.D.Disk.fault_count;
      told = g.met.D.Disk.told;
      told_since = g.met.D.Disk.told_since;
      only_now = g.met.D.Disk.only_now;
      store_tells = g.K.Keeper.is_told;
      kept = g.K.Keeper.kept;
      images = g.K.Keeper.images;
      store_moment = g.K.Keeper.moment;
      images_since = g.K.Keeper.images_since;
      store_up = g.K.Keeper.is_up;
      store_down = g.K.Keeper.down;
      store_size = g.K.Keeper.size;
      store_generation = g.K.Keeper.generation;
      store_opened = g.K.Keeper.opened;
      store_within = g.K.Keeper.is_within;
      store_faults = g.K.Keeper.fault_count;
      store_told = g.met.K.Keeper.told;
      store_told_since = g.met.K.Keeper.told_since;
      store_only_now = g.met.K.Keeper.only_now;
      store_stands = g.met.K.Keeper.stands;
    } in
    let held : CoreState g.row.D.Denot g.row.K.Denot = record {
      alloc = c.args.core.now.alloc;
      queue = c.args.core.now.queue;
      store = c.args.core.now.store;
      tables = c.reserve_prepared.new.self;
      pending = c.args.core.now.pending;
      discards = c.reserve-else-is_err.new.self;
      events = c.reserve.new.self;
      last = c.args.core.now.last;
      undone = c.args.core.now.undone;
      found = c.args.core.now.found;
      opened_a = c.args.core.now.opened_a;
      opened_b = c.args.core.now.opened_b;
    } in
    let room : queue_size c.args.core.now.queue + 5 + 25 ≤ most_log = omega (arith, c.size.ensures.value, c.if-size-gt-ROOM_TO_FAIL.false) in
    record {
      does = subst (λ (x : Change). KeepDoes p.tells p.store_tells p.seen p.may_leave p.moment p.left_since p.faults p.kept p.images p.store_moment p.images_since p.store_up p.store_down p.store_size (keeper_stays p) p.store_faults c.store.result c.args.job x c.args.core.now c.store.new.core) (c.in-Ok.ensures.change ∙ c.prepared.view_is)
          (stored room (stored_from p c.args.job c.in-Ok.change c.store.result c.args.core.now held c.store.new.core refl refl (record {
            others = record { tables = c.reserve_prepared.ensures.same; dead = c.reserve-else-is_err.ensures.list; undone = refl; found = refl; opened_a = refl; opened_b = refl };
            pending = refl;
            events = c.reserve.ensures.list;
            room = c.reserve.ensures.kept;
            last = refl;
          }) c.store.ensures.does));
    }
