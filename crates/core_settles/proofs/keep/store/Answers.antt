use Rattle.std.proofs.Common.{◌∙◌, arith, refl, sym, ap, subst}
use Rattle.core_claims.specs.fleet_rows.declared.change.Change.{Change}
use Rattle.core_claims.specs.history_spec.Lawful.{IsChange}
use Rattle.core_claims.specs.fleet_tables.Rooms.{room_for}
use Rattle.core_claims.specs.core_state.declared.state.CoreState.{CoreState}
use Rattle.core_claims.proofs.of_core_state.Ports.{Ports}
use Rattle.core_settles.specs.Ends.{AfterDoes}
use Rattle.core_settles.specs.Records.{IsSpellingOf}
use Rattle.core_settles.proofs.keep.store.Goals as goal

pub after-requires-clause-tables : goal.after-requires-clause-tables
after-requires-clause-tables g c = c.requires.tables ∙ ap (λ (x : Change). room_for c.args.core.now.tables x) (sym c.write-answer.ensures.change)

pub after-requires-clause-lawful : goal.after-requires-clause-lawful
after-requires-clause-lawful g c = subst (λ (x : Change). IsChange x) (sym c.write-answer.ensures.change) c.requires.lawful

pub after-requires-clause-spelt : goal.after-requires-clause-spelt
after-requires-clause-spelt g c = subst (λ (x : Change). IsSpellingOf c.args.spelling x) (sym c.write-answer.ensures.change) c.requires.spelt

pub returns : goal.returns
returns g c =
    let p : Ports g.row.D.Denot g.row.K.Denot = record {
      tells = g.D.Disk.is_told;
      seen = g.D.Disk.seen;
      may_leave = g.D.Disk.may_leave;
      moment = g.D.Disk.moment;
      left_since = g.D.Disk.left_since;
      faults = g.D.Disk.fault_count;
      told = g.met.D.Disk.told;
      told_since = g.met.D.Disk.told_since;
      only_now = g.met.D.Disk.only_now;
      store_tells = g.K.Keeper.is_told;
      kept = g.K.Keeper.kept;
      images = g.K.Keeper.images;
      store_moment = g.K.Keeper.moment;
      images_since = g.K.Keeper.images_since;
      store_up = g.K.Keeper.is_up;
      store_down = g.K.Keeper.down;
      store_size = g.K.Keeper.size;
      store_generation = g.K.Keeper.generation;
      store_opened = g.K.Keeper.opened;
      store_within = g.K.Keeper.is_within;
      store_faults = g.K.Keeper.fault_count;
      store_told = g.met.K.Keeper.told;
      store_told_since = g.met.K.Keeper.told_since;
      store_only_now = g.met.K.Keeper.only_now;
      store_stands = g.met.K.Keeper.stands;
    } in
    let mid : CoreState g.row.D.Denot g.row.K.Denot = record {
      alloc = c.args.core.now.alloc;
      queue = c.args.core.now.queue;
      store = c.write-answer.new.keeper;
      tables = c.args.core.now.tables;
      pending = c.args.core.now.pending;
      discards = c.args.core.now.discards;
      events = c.args.core.now.events;
      last = c.args.core.now.last;
      undone = c.args.core.now.undone;
      found = c.args.core.now.found;
      opened_a = c.args.core.now.opened_a;
      opened_b = c.args.core.now.opened_b;
    } in
    record {
      does = record {
        answer = c.write-answer.result.0;
        mid = mid;
        queue = refl;
        memory = record {
          others = record { tables = refl; dead = refl; undone = refl; found = refl; opened_a = refl; opened_b = refl };
          pending = refl;
          events = refl;
          room = omega arith;
          last = refl;
        };
        kept = c.write-answer.ensures.kept;
        after = subst (λ n. AfterDoes p.tells p.seen p.may_leave p.moment p.left_since p.faults p.store_faults c.after.result c.write-answer.result.0 c.args.job c.args.change n mid c.after.new.core) c.faults-before.ensures.count
            (subst (λ (x : Change). AfterDoes p.tells p.seen p.may_leave p.moment p.left_since p.faults p.store_faults c.after.result c.write-answer.result.0 c.args.job x c.faults-before.result mid c.after.new.core) c.write-answer.ensures.change c.after.ensures.does);
      };
    }
